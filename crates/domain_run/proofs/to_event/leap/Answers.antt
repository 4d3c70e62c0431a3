use Rattle.std.proofs.Common.{◌≡◌, ◌+◌, ◌-◌, ℕ, List, map, sym, ap, subst, ◌∙◌, arith}
use Rattle.std.specs.Prelude.{All, IfSome}
use Rattle.std.specs.List.{flat_map}
use Rattle.domain_run.specs.declared.task.Task.{Task}
use Rattle.domain_run.specs.Happened.{in_order}
use Rattle.domain_run.specs.Log.{HasLogged}
use Rattle.domain_run.specs.private.Expiring.{logged_passed}
use Rattle.domain_run.specs.Sound.{IsSound}
use Rattle.edf_pick.specs.Places.{Places}
use Rattle.domain_run.specs.private.TaskTable.{HasItsCharge}
use Rattle.domain_run.specs.private.RunQueue.{AreHomed}
use Rattle.domain_run.specs.private.Owed.{charge_of_task, Lasts, time_passed}
use Rattle.domain_run.proofs.Leaping.{leapt_all, lasts_all}
use Rattle.domain_run.proofs.LoggedPassing.{logged_leapt_all}
use Rattle.domain_run.proofs.Paying.{sound_later}
use Rattle.std.proofs.lemmas.Grind.{common_steps}
use Rattle.domain_run.proofs.to_event.leap.Goals as goal

tasks_are : (c : goal.After-pass) → c.charge_all.new.task_table.tasks ≡ c.args.task_table.now.tasks
tasks_are c = c.charge_all.ensures.tasks ∙ c.wind_back.ensures.tasks

right_are : (c : goal.After-pass) → All (HasItsCharge c.args.task_table.now.places c.args.task_table.now.cpus c.args.limit c.args.task_table.now.tasks c.charge_all.new.task_table.charges) c.args.task_table.now.tasks
right_are c =
    let places = c.args.task_table.now.places in
    let old = c.args.task_table.now in
    let mid = c.wind_back.new.self in
    let charges = c.charge_all.new.task_table.charges in
    subst (λ (ts : List Task). All (HasItsCharge places old.cpus c.args.limit old.tasks charges) ts) (tasks_are c)
    (subst (λ (ts : List Task). All (HasItsCharge places old.cpus c.args.limit ts charges) c.charge_all.new.task_table.tasks) c.wind_back.ensures.tasks
    (subst (λ (n : ℕ). All (HasItsCharge places n c.args.limit mid.tasks charges) c.charge_all.new.task_table.tasks) c.wind_back.ensures.cpus
    (subst (λ (ps : Places). All (HasItsCharge ps mid.cpus c.args.limit mid.tasks charges) c.charge_all.new.task_table.tasks) c.wind_back.ensures.places c.charge_all.ensures.right)))

homed_are : (c : goal.After-pass) → AreHomed c.args.task_table.now.places c.args.task_table.now.tasks
homed_are c =
    subst (λ (ps : Places). AreHomed ps c.args.task_table.now.tasks) c.wind_back.ensures.places
    (subst (λ (ts : List Task). AreHomed c.wind_back.new.self.places ts) c.wind_back.ensures.tasks c.charge_all.ensures.homed)

pub pass-requires-clause-clock : goal.pass-requires-clause-clock
pass-requires-clause-clock c = omega (arith, c.charge_all.ensures.clock, c.wind_back.ensures.early, c.ticks_to_end-ticks.ensures.most, c.requires.early)

pub pass-requires-clause-sound : goal.pass-requires-clause-sound
pass-requires-clause-sound c =
    let k = c.ticks_to_end-ticks.result in
    let old = c.args.task_table.now in
    subst (λ (ts : List Task). All (IsSound (c.args.time + (k - 1))) ts) (sym (c.charge_all.ensures.tasks ∙ c.wind_back.ensures.tasks))
    (sound_later c.args.time (c.args.time + (k - 1)) old.tasks (omega arith) c.requires.sound)

pub returns-clause-lasts : goal.returns-clause-lasts
returns-clause-lasts c =
    let old = c.args.task_table.now in
    let k = c.ticks_to_end-ticks.result in
    let charges = c.charge_all.new.task_table.charges in
    lasts_all k c.args.task_table.now.places old.cpus c.args.limit old.tasks charges c.requires.apart (homed_are c) (right_are c)
    (subst (λ (ts : List Task). All (λ t. IfSome (charge_of_task charges t) (λ s. Lasts k s.rate t)) ts) (tasks_are c) c.ticks_to_end-ticks.ensures.lasts)

pub returns-clause-tasks : goal.returns-clause-tasks
returns-clause-tasks c =
    let old = c.args.task_table.now in
    let k = c.ticks_to_end-ticks.result in
    let end = c.args.time + (k - 1) in
    let charges = c.charge_all.new.task_table.charges in
    c.pass.ensures.tasks
    ∙ ap (λ (ts : List Task). map (time_passed end k charges) ts) (tasks_are c)
    ∙ leapt_all end k c.args.task_table.now.places old.cpus c.args.limit old.tasks charges c.requires.apart (homed_are c) (right_are c)

pub returns-clause-logged : goal.returns-clause-logged
returns-clause-logged c =
    let old = c.args.task_table.now in
    let k = c.ticks_to_end-ticks.result in
    let end = c.args.time + (k - 1) in
    let charges = c.charge_all.new.task_table.charges in
    subst (λ hs. HasLogged c.args.log.now (in_order hs) c.pass.new.log)
    (ap (λ (ts : List Task). flat_map (logged_passed end k charges) ts) (tasks_are c)
    ∙ logged_leapt_all end k old.places old.cpus c.args.limit old.tasks charges c.requires.apart (homed_are c) (right_are c))
    c.pass.ensures.logged

pub charge_all-requires-clause-wide : goal.charge_all-requires-clause-wide
charge_all-requires-clause-wide c = grind (arith, common_steps)

pub charge_all-requires-clause-cpus : goal.charge_all-requires-clause-cpus
charge_all-requires-clause-cpus c = grind (arith, common_steps)

pub charge_all-requires-clause-limit : goal.charge_all-requires-clause-limit
charge_all-requires-clause-limit c = grind (arith, common_steps)

pub charge_all-requires-clause-within : goal.charge_all-requires-clause-within
charge_all-requires-clause-within c = grind (arith, common_steps)

pub charge_all-requires-clause-homes : goal.charge_all-requires-clause-homes
charge_all-requires-clause-homes c = grind (arith, common_steps)

pub charge_all-requires-clause-may : goal.charge_all-requires-clause-may
charge_all-requires-clause-may c = grind (arith, common_steps)

pub overflow_sub-ticks : goal.overflow_sub-ticks
overflow_sub-ticks c = grind (arith, common_steps)

pub overflow_add-time : goal.overflow_add-time
overflow_add-time c = grind (arith, common_steps)

pub pass-requires-clause-some : goal.pass-requires-clause-some
pass-requires-clause-some c = grind (arith, common_steps)

pub pass-requires-clause-early : goal.pass-requires-clause-early
pass-requires-clause-early c = grind (arith, common_steps)

pub pass-requires-clause-ends : goal.pass-requires-clause-ends
pass-requires-clause-ends c = grind (arith, common_steps)

pub returns-clause-cpus : goal.returns-clause-cpus
returns-clause-cpus c = grind (arith, common_steps)

pub returns-clause-places : goal.returns-clause-places
returns-clause-places c = grind (arith, common_steps)

pub returns-clause-some : goal.returns-clause-some
returns-clause-some c = grind (arith, common_steps)

pub returns-clause-most : goal.returns-clause-most
returns-clause-most c = grind (arith, common_steps)

pub returns-clause-sound : goal.returns-clause-sound
returns-clause-sound c = grind (arith, common_steps)
