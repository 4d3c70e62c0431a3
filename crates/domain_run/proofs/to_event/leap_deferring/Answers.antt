use Rattle.std.proofs.Common.{◌≡◌, ◌+◌, ◌-◌, ℕ, List, map, refl, sym, ap, subst, ◌∙◌, arith}
use Rattle.std.specs.Prelude.{All, IfSome}
use Rattle.std.proofs.lemmas.Grind.{common_steps}
use Rattle.std.specs.List.{flat_map}
use Rattle.domain_run.specs.declared.task.Task.{Task}
use Rattle.domain_run.specs.Happened.{in_order}
use Rattle.domain_run.specs.Log.{HasLogged}
use Rattle.domain_run.specs.private.Expiring.{logged_passed}
use Rattle.domain_run.specs.Sound.{IsSound}
use Rattle.edf_pick.specs.Places.{Places}
use Rattle.domain_run.specs.private.TaskTable.{HasItsCharge, without_zero_lag, leapt}
use Rattle.domain_run.specs.private.DeferringTimers.{with_lags, passed_bare, leapt_bare, IsBare}
use Rattle.domain_run.proofs.Jumping.{map_twice}
use Rattle.domain_run.proofs.Deferring.{leapt_lags}
use Rattle.domain_run.specs.private.RunQueue.{AreHomed}
use Rattle.domain_run.specs.private.Owed.{charge_of_task, Lasts, time_passed}
use Rattle.domain_run.proofs.Leaping.{leapt_all, lasts_all}
use Rattle.domain_run.proofs.LoggedPassing.{logged_leapt_all}
use Rattle.domain_run.proofs.Paying.{sound_later}
use Rattle.domain_run.proofs.to_event.leap_deferring.Goals as goal

tasks_are : (c : goal.After-pass_deferring) → c.charge_all.new.task_table.tasks ≡ c.args.task_table.now.tasks
tasks_are c = c.charge_all.ensures.tasks ∙ c.wind_back.ensures.tasks

right_are : (c : goal.After-pass_deferring) → All (HasItsCharge c.args.task_table.now.places c.args.task_table.now.cpus c.args.limit c.args.task_table.now.tasks c.charge_all.new.task_table.charges) c.args.task_table.now.tasks
right_are c =
    let places = c.args.task_table.now.places in
    let old = c.args.task_table.now in
    let mid = c.wind_back.new.self in
    let charges = c.charge_all.new.task_table.charges in
    subst (λ (ts : List Task). All (HasItsCharge places old.cpus c.args.limit old.tasks charges) ts) (tasks_are c)
    (subst (λ (ts : List Task). All (HasItsCharge places old.cpus c.args.limit ts charges) c.charge_all.new.task_table.tasks) c.wind_back.ensures.tasks
    (subst (λ (n : ℕ). All (HasItsCharge places n c.args.limit mid.tasks charges) c.charge_all.new.task_table.tasks) c.wind_back.ensures.cpus
    (subst (λ (ps : Places). All (HasItsCharge ps mid.cpus c.args.limit mid.tasks charges) c.charge_all.new.task_table.tasks) c.wind_back.ensures.places c.charge_all.ensures.right)))

homed_are : (c : goal.After-pass_deferring) → AreHomed c.args.task_table.now.places c.args.task_table.now.tasks
homed_are c =
    subst (λ (ps : Places). AreHomed ps c.args.task_table.now.tasks) c.wind_back.ensures.places
    (subst (λ (ts : List Task). AreHomed c.wind_back.new.self.places ts) c.wind_back.ensures.tasks c.charge_all.ensures.homed)

pub pass_deferring-requires-clause-clock : goal.pass_deferring-requires-clause-clock
pass_deferring-requires-clause-clock c = omega (arith, c.charge_all.ensures.clock, c.wind_back.ensures.early, c.ticks_to_end-ticks.ensures.most, c.requires.early)

pub pass_deferring-requires-clause-sound : goal.pass_deferring-requires-clause-sound
pass_deferring-requires-clause-sound c =
    let k = c.ticks_to_end-ticks.result in
    let old = c.args.task_table.now in
    subst (λ (ts : List Task). All (IsSound (c.args.time + (k - 1))) ts) (sym (c.charge_all.ensures.tasks ∙ c.wind_back.ensures.tasks))
    (sound_later c.args.time (c.args.time + (k - 1)) old.tasks (omega arith) c.requires.sound)

pub returns-clause-lasts : goal.returns-clause-lasts
returns-clause-lasts c =
    let old = c.args.task_table.now in
    let k = c.ticks_to_end-ticks.result in
    let charges = c.charge_all.new.task_table.charges in
    lasts_all k c.args.task_table.now.places old.cpus c.args.limit old.tasks charges c.requires.apart (homed_are c) (right_are c)
    (subst (λ (ts : List Task). All (λ t. IfSome (charge_of_task charges t) (λ s. Lasts k s.rate t)) ts) (tasks_are c) c.ticks_to_end-ticks.ensures.lasts)

pub pass_deferring-requires-clause-bare : goal.pass_deferring-requires-clause-bare
pass_deferring-requires-clause-bare c = subst (λ (ts : List Task). All IsBare ts) (sym (c.charge_all.ensures.tasks ∙ c.wind_back.ensures.tasks)) c.requires.bare

pub returns-clause-tasks : goal.returns-clause-tasks
returns-clause-tasks c =
    let old = c.args.task_table.now in
    let k = c.ticks_to_end-ticks.result in
    let end = c.args.time + (k - 1) in
    let charges = c.charge_all.new.task_table.charges in
    c.pass_deferring.ensures.tasks
    ∙ ap (λ (ts : List Task). map (passed_bare end k charges) ts) (tasks_are c)
    ∙ sym (map_twice without_zero_lag (time_passed end k charges) (passed_bare end k charges) old.tasks (λ i d h. refl))
    ∙ ap (map without_zero_lag) (leapt_all end k old.places old.cpus c.args.limit old.tasks charges c.requires.apart (homed_are c) (right_are c))
    ∙ map_twice without_zero_lag (leapt end k old.places old.cpus c.args.limit old.tasks) (leapt_bare end k old.places old.cpus c.args.limit old.tasks) old.tasks (λ i d h. refl)

pub returns-clause-lags : goal.returns-clause-lags
returns-clause-lags c past order =
    let old = c.args.task_table.now in
    let k = c.ticks_to_end-ticks.result in
    let end = c.args.time + (k - 1) in
    let charges = c.charge_all.new.task_table.charges in
    c.pass_deferring.ensures.lags past order
    ∙ ap (λ (ts : List Task). map (time_passed end k charges) (with_lags past c.args.lags.now ts)) (tasks_are c)
    ∙ leapt_lags past end k old.places old.cpus c.args.limit old.tasks charges c.args.lags.now c.requires.apart (homed_are c) (right_are c)

pub returns-clause-logged : goal.returns-clause-logged
returns-clause-logged c =
    let old = c.args.task_table.now in
    let k = c.ticks_to_end-ticks.result in
    let end = c.args.time + (k - 1) in
    let charges = c.charge_all.new.task_table.charges in
    subst (λ hs. HasLogged c.args.log.now (in_order hs) c.pass_deferring.new.log)
    (ap (λ (ts : List Task). flat_map (logged_passed end k charges) ts) (tasks_are c)
    ∙ logged_leapt_all end k old.places old.cpus c.args.limit old.tasks charges c.requires.apart (homed_are c) (right_are c))
    c.pass_deferring.ensures.logged

pub charge_all-requires-clause-wide : goal.charge_all-requires-clause-wide
charge_all-requires-clause-wide c = grind (arith, common_steps)

pub charge_all-requires-clause-cpus : goal.charge_all-requires-clause-cpus
charge_all-requires-clause-cpus c = grind (arith, common_steps)

pub charge_all-requires-clause-limit : goal.charge_all-requires-clause-limit
charge_all-requires-clause-limit c = grind (arith, common_steps)

pub charge_all-requires-clause-within : goal.charge_all-requires-clause-within
charge_all-requires-clause-within c = grind (arith, common_steps)

pub charge_all-requires-clause-homes : goal.charge_all-requires-clause-homes
charge_all-requires-clause-homes c = grind (arith, common_steps)

pub charge_all-requires-clause-may : goal.charge_all-requires-clause-may
charge_all-requires-clause-may c = grind (arith, common_steps)

pub pass_deferring-requires-clause-some : goal.pass_deferring-requires-clause-some
pass_deferring-requires-clause-some c = grind (arith, common_steps)

pub pass_deferring-requires-clause-early : goal.pass_deferring-requires-clause-early
pass_deferring-requires-clause-early c = grind (arith, common_steps)

pub pass_deferring-requires-clause-ends : goal.pass_deferring-requires-clause-ends
pass_deferring-requires-clause-ends c = grind (arith, common_steps)

pub returns-clause-cpus : goal.returns-clause-cpus
returns-clause-cpus c = grind (arith, common_steps)

pub returns-clause-places : goal.returns-clause-places
returns-clause-places c = grind (arith, common_steps)

pub returns-clause-some : goal.returns-clause-some
returns-clause-some c = grind (arith, common_steps)

pub returns-clause-most : goal.returns-clause-most
returns-clause-most c = grind (arith, common_steps)

pub returns-clause-sound : goal.returns-clause-sound
returns-clause-sound c = grind (arith, common_steps)
