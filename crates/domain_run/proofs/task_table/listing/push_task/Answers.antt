use Rattle.std.proofs.Common.{◌≡◌, ℕ, ◌++◌, ◌∷◌, [], refl, sym, ap, subst, ◌∙◌, arith, length}
use Rattle.std.proofs.lemmas.List.Elements.{All-push}
use Rattle.grub_rules.specs.declared.share.Share.{Share}
use Rattle.grub_rules.specs.Accounts.{Exchanges}
use Rattle.std.proofs.lemmas.Grind.{common_steps}
use Rattle.domain_run.specs.declared.task.Task.{Task}
use Rattle.domain_run.specs.declared.run_queue.RunQueue.{RunQueue}
use Rattle.domain_run.specs.Parts.{with_last_cpu}
use Rattle.domain_run.specs.private.RunQueue.{IsCounted}
use Rattle.domain_run.proofs.Counting.{total_short, counts_push, task_table_push}
use Rattle.domain_run.proofs.task_table.listing.push_task.Goals as goal

pub join-requires-clause-fits : goal.join-requires-clause-fits
join-requires-clause-fits c =
    let bw : c.share_of.result.bw ≡ c.args.task.params.bw = ap (λ (s : Share). s.bw) c.share_of.ensures in
    omega (arith, bw, c.requires.short, c.requires.counted.counts.sums.total, total_short c.args.tasks.now c.requires.counted.task_table)

pub returns-clause-counted : goal.returns-clause-counted
returns-clause-counted c =
    let tasks = c.args.tasks.now in
    let queue = c.args.queue.now in
    let t = c.args.task in
    let new : RunQueue = record { accounts = c.join.new.self; schedule = queue.schedule; timers = c.push.new.self } in
    subst (IsCounted (length queue.accounts.all) new) (sym c.push-2.ensures) (record {
      wide = c.join.ensures.cpus;
      counts = counts_push queue new tasks t c.requires.idle refl (c.push.ensures ∙ ap (λ (n : ℕ). queue.timers ++ n ∷ []) c.due_of.ensures) c.requires.home (subst (λ x. Exchanges queue.accounts new.accounts [] (x ∷ [])) c.share_of.ensures c.join.ensures) c.requires.counted.counts;
      task_table = task_table_push tasks t c.requires.few c.requires.short c.requires.absent c.requires.counted.task_table;
      homed = All-push (λ (u : Task). with_last_cpu queue.schedule.places u ≡ u) tasks t c.requires.counted.homed c.requires.homed;
    })

pub join-requires-clause-home : goal.join-requires-clause-home
join-requires-clause-home c = grind (arith, common_steps)

pub returns-clause-tasks : goal.returns-clause-tasks
returns-clause-tasks c = grind (arith, common_steps)

pub returns-clause-schedule : goal.returns-clause-schedule
returns-clause-schedule c = grind (arith, common_steps)

pub share_of-requires : goal.share_of-requires
share_of-requires c = grind (arith, common_steps)

pub due_of-requires : goal.due_of-requires
due_of-requires c = grind (arith, common_steps)

pub push-requires : goal.push-requires
push-requires c = grind (arith, common_steps)

pub push-requires-2 : goal.push-requires-2
push-requires-2 c = grind (arith, common_steps)
