use Rattle.std.proofs.Common.{◌≡◌, ◌<◌, ℕ, List, eqb, Some, length, map, arith, sym, ap, subst, ◌∙◌}
use Rattle.std.specs.Prelude.{find, option_map}
use Rattle.std.proofs.lemmas.List.{length-map}
use Rattle.grub_rules.specs.Sums.{uinact}
use Rattle.std.proofs.lemmas.Grind.{common_steps}
use Rattle.domain_run.specs.Tick.{shares}
use Rattle.domain_run.specs.declared.task.Task.{Task}
use Rattle.domain_run.specs.declared.running.Running.{Running}
use Rattle.domain_run.specs.private.Index.{IsListedAt}
use Rattle.domain_run.specs.private.TaskTable.{TaskTableView, runner_in}
use Rattle.domain_run.specs.private.Owed.{owed, owed_all, runner_of}
use Rattle.domain_run.proofs.Counting.{home_at}
use Rattle.domain_run.proofs.Finding.{find_absent}
use Rattle.domain_run.proofs.Owed.{alike_owed, counted_unlike, found_owed}
use Rattle.domain_run.proofs.task_table.TaskTable.runner.Goals as goal

pub uinact-uinact-requires : goal.uinact-uinact-requires
uinact-uinact-requires c =
    let s = c.self.inside in
    let x = c.at-task.result.now in
    let counted = counted_unlike (owed s.charges.upto s.charges.charges) (alike_owed s.charges.upto s.charges.charges) (length s.queue.accounts.all) s.queue s.tasks c.self.invariant.counted in
    subst (λ (r : TaskTableView). x.cpu < r.cpus) c.self.view_is
    (subst (λ (t : Task). t.cpu < length s.queue.accounts.all) (sym c.at-task.ensures) (home_at (length s.queue.accounts.all) s.queue s.tasks c.in-Some.place x (let many : length (map (owed s.charges.upto s.charges.charges) s.tasks) ≡ length s.tasks = simp length-map in omega (arith, many, c.in-Some.ensures.there.within, ap (λ (r : TaskTableView). length r.tasks) c.self.view_is)) counted))

pub returns-in-None : goal.returns-in-None
returns-in-None c = sym (ap (option_map (runner_in c.args.self.now.tasks)) (find_absent c.args.self.now.tasks c.args.number c.in-None.ensures.absent))

pub returns-in-Some : goal.returns-in-Some
returns-in-Some c =
    let s = c.self.inside in
    let x = c.at-task.result.now in
    let at = subst (λ (r : TaskTableView). IsListedAt r.tasks c.args.number c.in-Some.place) (sym c.self.view_is) c.in-Some.ensures.there in
    let found = found_owed s.charges.upto s.charges.charges s.tasks c.args.number c.in-Some.place x c.self.invariant.counted.task_table.numbered at c.at-task.ensures in
    let view : owed_all s.charges s.tasks ≡ c.args.self.now.tasks = ap (λ (r : TaskTableView). r.tasks) c.self.view_is in
    let y = owed s.charges.upto s.charges.charges x in
    ap (λ (v : Running). Some v) (c.runner_at.ensures ∙ ap (λ (u : ℕ). runner_of u y) (c.uinact-uinact.ensures ∙ ap (λ n. uinact n (shares c.args.self.now.tasks)) (sym (alike_owed s.charges.upto s.charges.charges x).cpu)))
    ∙ sym (ap (option_map (runner_in c.args.self.now.tasks)) found)
    ∙ ap (λ (ts : List Task). option_map (runner_in c.args.self.now.tasks) (find (λ t. eqb t.number c.args.number) ts)) view

pub place-requires : goal.place-requires
place-requires c = grind (arith, common_steps)

pub at-task-requires : goal.at-task-requires
at-task-requires c = grind (arith, common_steps)

pub runner_at-requires : goal.runner_at-requires
runner_at-requires c = grind (arith, common_steps)
