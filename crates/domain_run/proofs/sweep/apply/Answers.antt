use Rattle.std.proofs.Common.{◌≡◌, ℕ, None, List, get_or, set, ap, sym, subst, ◌∙◌, arith}
use Rattle.std.proofs.lemmas.Grind.{common_steps}
use Rattle.domain_run.specs.declared.task.Task.{Task}
use Rattle.domain_run.specs.private.TaskTable.{TaskTableView}
use Rattle.domain_run.specs.private.TransitionLog.{logged_by_transition}
use Rattle.domain_run.specs.Log.{HasLogged}
use Rattle.due_times.specs.OpenCharges.{charge_by}
use Rattle.domain_run.specs.private.Owed.{charge_of_task}
use Rattle.domain_run.proofs.Chargings.{none_at}
use Rattle.domain_run.proofs.Logging.{logs_none, logs_silent}
use Rattle.domain_run.proofs.sweep.apply.Goals as goal

pub returns-then-not-is_wanted-clause-logged : goal.returns-then-not-is_wanted-clause-logged
returns-then-not-is_wanted-clause-logged c d = logs_silent (logged_by_transition c.args.time c.args.transition.now (get_or c.args.task_table.now.tasks c.args.place d)) c.args.log.now (sym c.is_wanted.ensures ∙ c.if-not-is_wanted.true)

-- once its CPU is free no charge is open there
emptied : (old new : TaskTableView) (p cpu : ℕ) (d : Task) → new ≡ record old { charges = set old.charges cpu None } → cpu ≡ (get_or old.tasks p d).cpu → get_or new.charges (get_or new.tasks p d).cpu None ≡ None
emptied old new p cpu d is home =
    let t = get_or old.tasks p d in
    ap (λ (r : TaskTableView). get_or r.charges (get_or r.tasks p d).cpu None) is
    ∙ ap (λ (n : ℕ). get_or (set old.charges n None) t.cpu None) home
    ∙ none_at old.charges t.cpu

-- so it has no open charge
freed : (old new : TaskTableView) (p cpu : ℕ) (d : Task) → new ≡ record old { charges = set old.charges cpu None } → cpu ≡ (get_or old.tasks p d).cpu → charge_of_task new.charges (get_or new.tasks p d) ≡ None
freed old new p cpu d is home = ap (charge_by (get_or new.tasks p d).number) (emptied old new p cpu d is home)

pub at-task-requires-clause-free : goal.at-task-requires-clause-free
at-task-requires-clause-free c d = freed c.args.task_table.now c.leave_free.new.self c.args.place c.cpu_at-cpu.result d c.leave_free.ensures (c.cpu_at-cpu.ensures.cpu d)

pub apply_charged-requires-clause-free : goal.apply_charged-requires-clause-free
apply_charged-requires-clause-free c d = emptied c.args.task_table.now c.leave_free.new.self c.args.place c.cpu_at-cpu.result d c.leave_free.ensures (c.cpu_at-cpu.ensures.cpu d)

pub log_applied-requires-clause-free : goal.log_applied-requires-clause-free
log_applied-requires-clause-free c d = freed c.args.task_table.now c.leave_free.new.self c.args.place c.cpu_at-cpu.result d c.leave_free.ensures (c.cpu_at-cpu.ensures.cpu d)

pub returns-then-logs_nothing-clause-logged : goal.returns-then-logs_nothing-clause-logged
returns-then-logs_nothing-clause-logged c d =
    let tasks = ap (λ (r : TaskTableView). r.tasks) c.leave_free.ensures in
    let looked : c.at-task.result.now ≡ get_or c.args.task_table.now.tasks c.args.place d = c.at-task.ensures.task d ∙ ap (λ (ts : List Task). get_or ts c.args.place d) tasks in
    let none = ap (logged_by_transition c.args.time c.args.transition.now) (sym looked) ∙ c.logs_nothing.ensures c.args.time c.if-logs_nothing.true in
    subst (λ hs. HasLogged c.args.log.now hs c.args.log.now) (sym none) (logs_none c.args.log.now)

pub apply-requires-clause-there : goal.apply-requires-clause-there
apply-requires-clause-there c = grind (arith, common_steps)

pub apply-requires-clause-fits : goal.apply-requires-clause-fits
apply-requires-clause-fits c = grind (arith, common_steps)

pub apply-requires-clause-sound : goal.apply-requires-clause-sound
apply-requires-clause-sound c = grind (arith, common_steps)

pub apply-requires-clause-may : goal.apply-requires-clause-may
apply-requires-clause-may c = grind (arith, common_steps)

pub returns-then-not-is_wanted-clause-cpus : goal.returns-then-not-is_wanted-clause-cpus
returns-then-not-is_wanted-clause-cpus c = grind (arith, common_steps)

pub returns-then-not-is_wanted-clause-places : goal.returns-then-not-is_wanted-clause-places
returns-then-not-is_wanted-clause-places c = grind (arith, common_steps)

pub returns-then-not-is_wanted-clause-step : goal.returns-then-not-is_wanted-clause-step
returns-then-not-is_wanted-clause-step c = grind (arith, common_steps)

pub returns-then-not-is_wanted-clause-sound : goal.returns-then-not-is_wanted-clause-sound
returns-then-not-is_wanted-clause-sound c = grind (arith, common_steps)

pub returns-then-not-is_wanted-clause-room : goal.returns-then-not-is_wanted-clause-room
returns-then-not-is_wanted-clause-room c = grind (arith, common_steps)

pub at-task-requires-clause-there : goal.at-task-requires-clause-there
at-task-requires-clause-there c = grind (arith, common_steps)

pub apply_charged-requires-clause-there : goal.apply_charged-requires-clause-there
apply_charged-requires-clause-there c = grind (arith, common_steps)

pub apply_charged-requires-clause-fits : goal.apply_charged-requires-clause-fits
apply_charged-requires-clause-fits c = grind (arith, common_steps)

pub apply_charged-requires-clause-sound : goal.apply_charged-requires-clause-sound
apply_charged-requires-clause-sound c = grind (arith, common_steps)

pub apply_charged-requires-clause-may : goal.apply_charged-requires-clause-may
apply_charged-requires-clause-may c = grind (arith, common_steps)

pub returns-then-logs_nothing-clause-cpus : goal.returns-then-logs_nothing-clause-cpus
returns-then-logs_nothing-clause-cpus c = grind (arith, common_steps)

pub returns-then-logs_nothing-clause-places : goal.returns-then-logs_nothing-clause-places
returns-then-logs_nothing-clause-places c = grind (arith, common_steps)

pub returns-then-logs_nothing-clause-step : goal.returns-then-logs_nothing-clause-step
returns-then-logs_nothing-clause-step c = grind (arith, common_steps)

pub returns-then-logs_nothing-clause-sound : goal.returns-then-logs_nothing-clause-sound
returns-then-logs_nothing-clause-sound c = grind (arith, common_steps)

pub returns-then-logs_nothing-clause-room : goal.returns-then-logs_nothing-clause-room
returns-then-logs_nothing-clause-room c = grind (arith, common_steps)

pub log_applied-requires-clause-there : goal.log_applied-requires-clause-there
log_applied-requires-clause-there c = grind (arith, common_steps)

pub log_applied-requires-clause-early : goal.log_applied-requires-clause-early
log_applied-requires-clause-early c = grind (arith, common_steps)

pub log_applied-requires-clause-narrow : goal.log_applied-requires-clause-narrow
log_applied-requires-clause-narrow c = grind (arith, common_steps)

pub log_applied-requires-clause-fits : goal.log_applied-requires-clause-fits
log_applied-requires-clause-fits c = grind (arith, common_steps)

pub log_applied-requires-clause-sound : goal.log_applied-requires-clause-sound
log_applied-requires-clause-sound c = grind (arith, common_steps)

pub log_applied-requires-clause-may : goal.log_applied-requires-clause-may
log_applied-requires-clause-may c = grind (arith, common_steps)

pub log_applied-requires-clause-room : goal.log_applied-requires-clause-room
log_applied-requires-clause-room c = grind (arith, common_steps)

pub returns-clause-cpus : goal.returns-clause-cpus
returns-clause-cpus c = grind (arith, common_steps)

pub returns-clause-places : goal.returns-clause-places
returns-clause-places c = grind (arith, common_steps)

pub returns-clause-step : goal.returns-clause-step
returns-clause-step c = grind (arith, common_steps)

pub returns-clause-sound : goal.returns-clause-sound
returns-clause-sound c = grind (arith, common_steps)

pub returns-clause-room : goal.returns-clause-room
returns-clause-room c = grind (arith, common_steps)
