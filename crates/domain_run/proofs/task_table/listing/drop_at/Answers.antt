use Rattle.std.proofs.Common.{◌≡◌, ◌∷◌, ◌++◌, ◌+◌, [], take, drop, refl, sym, ap, ◌∙◌, map, subst, List, get_or, length}
use Rattle.std.specs.Prelude.{filter}
use Rattle.std.specs.List.{remove}
use Rattle.grub_rules.specs.Accounts.{AreAccounts, Exchanges}
use Rattle.grub_rules.proofs.CallerLemmas.{held_at, parted_at}
use Rattle.domain_run.specs.declared.task.Task.{Task}
use Rattle.domain_run.specs.declared.run_queue.RunQueue.{RunQueue}
use Rattle.domain_run.specs.Calls.{is_other}
use Rattle.domain_run.specs.Tick.{share_of, shares}
use Rattle.domain_run.specs.private.RunQueue.{IsCounted}
use Rattle.domain_run.specs.private.Timers.{due_of}
use Rattle.domain_run.proofs.Departing.{counted_others}
use Rattle.domain_run.proofs.Front.{idle_at, remove_map, removed_parts}
use Rattle.domain_run.proofs.Woken.{others_at}
use Rattle.domain_run.proofs.task_table.listing.drop_at.Goals as goal

pub part-requires : goal.part-requires
part-requires c =
    let tasks = c.args.tasks.now in
    rw (c.share_of.ensures, c.at.ensures) (held_at share_of c.args.queue.now.accounts tasks c.args.place c.at.result.now c.requires.at.within c.requires.counted.counts.sums)

pub returns-clause-counted : goal.returns-clause-counted
returns-clause-counted c =
    let tasks = c.args.tasks.now in
    let queue = c.args.queue.now in
    let number = c.args.number in
    let p = c.args.place in
    let x = c.at.result.now in
    let at = c.requires.at in
    let counted = c.requires.counted in
    let new : RunQueue = record { accounts = c.part.new.self; schedule = queue.schedule; timers = c.remove-2.new.self } in
    let others : filter (is_other number) tasks ≡ take p tasks ++ drop (p + 1) tasks = others_at tasks p number counted.task_table.numbered at.within (λ d. sym (at.is d)) in
    let left : c.remove.new.self ≡ filter (is_other number) tasks = c.remove.ensures ∙ removed_parts tasks p ∙ sym others in
    let share : c.share_of.result ≡ share_of (get_or tasks p x) = c.share_of.ensures ∙ ap share_of c.at.ensures in
    let transition : Exchanges queue.accounts new.accounts (share_of (get_or tasks p x) ∷ []) [] = subst (λ s. Exchanges queue.accounts new.accounts (s ∷ []) []) share c.part.ensures in
    let sums : AreAccounts new.accounts (shares (filter (is_other number) tasks)) = subst (λ (ts : List Task). AreAccounts new.accounts (shares ts)) (sym others) (parted_at share_of queue.accounts new.accounts tasks p x at.within transition counted.counts.sums) in
    let due : new.timers ≡ map due_of (filter (is_other number) tasks) = c.remove-2.ensures ∙ ap (λ ts. remove ts p) counted.counts.due ∙ remove_map due_of tasks p ∙ ap (map due_of) (removed_parts tasks p ∙ sym others) in
    subst (IsCounted (length queue.accounts.all) new) (sym left) (counted_others (length queue.accounts.all) queue new number tasks c.part.ensures.cpus refl due sums (idle_at tasks number p counted.task_table.numbered at c.requires.idle) counted)
