use Rattle.std.proofs.Common.{rules, ℕ, ◌≡◌, ◌≢◌, ◌-◌, ◌*◌, ◌^◌, ◌++◌, None, map, get_or, set, sym, ap, subst, ◌∙◌, arith}
use Rattle.std.specs.Prelude.{ℤ, pos, ◌-ℤ◌, ◌<ℤ◌, ◌≤ℤ◌, AllPairs}
use Rattle.std.proofs.Math.Facts.{to_z-of_z}
use mir.Syntax.{w128}
use mir.Val.{SFits, of_z, to_z}
use Rattle.std.proofs.lemmas.List.{get_or_default}
use Rattle.std.proofs.lemmas.Grind.{common_steps}
use Rattle.domain_run.specs.declared.task.Task.{Task}
use Rattle.std.specs.List.{flat_map}
use Rattle.std.specs.List.Sorted.{IsPermutation}
use Rattle.domain_run.specs.Log.{HasLogged}
use Rattle.domain_run.specs.private.Expiring.{logged_passed}
use Rattle.domain_run.specs.private.TransitionLog.{logged_until}
use Rattle.domain_run.proofs.LoggedPassing.{finished_logs}
use Rattle.domain_run.specs.private.Paying.{ran_until}
use Rattle.domain_run.specs.private.TaskTable.{TaskTableView, MayRun}
use Rattle.domain_run.specs.private.Owed.{time_passed}
use Rattle.domain_run.proofs.Paying.{same_ran_until}
use Rattle.domain_run.proofs.Chargings.{none_at}
use Rattle.domain_run.proofs.Later.{facts_at, times_one, finished_passes}
use Rattle.domain_run.proofs.task_table.TaskTable.finish_at.Goals as goal

pub used_in-requires-clause-high : goal.used_in-requires-clause-high
used_in-requires-clause-high c =
    let left = c.at.result.now.server.left in
    let fits : SFits w128 left = search rules in
    let value : to_z w128 (of_z w128 left) ≡ left = to_z-of_z {w = w128} {z = left} fits in
    let f = facts_at c.args.self.now c.vacate_at.new.self c.args.time c.args.ticks c.args.cpu c.args.place c.args.open_charge c.at.result.now c.self.inside.queue c.self-2.inside.queue c.self.inside.charges c.self-2.inside.charges c.self.inside.tasks c.self-2.inside.tasks c.vacate_at.ensures c.self.view_is c.self.invariant.waits c.self-2.view_is c.requires.is_charging c.requires.ahead c.requires.at c.requires.home c.at.ensures c.requires.some c.requires.early c.requires.ends c.requires.sound in
    subst (λ (z : ℤ). z ≤ℤ pos (2 ^ 52)) (sym value) f.fin.high

pub used_in-requires-clause-lasted : goal.used_in-requires-clause-lasted
used_in-requires-clause-lasted c =
    let left = c.at.result.now.server.left in
    let fits : SFits w128 left = search rules in
    let value : to_z w128 (of_z w128 left) ≡ left = to_z-of_z {w = w128} {z = left} fits in
    let f = facts_at c.args.self.now c.vacate_at.new.self c.args.time c.args.ticks c.args.cpu c.args.place c.args.open_charge c.at.result.now c.self.inside.queue c.self-2.inside.queue c.self.inside.charges c.self-2.inside.charges c.self.inside.tasks c.self-2.inside.tasks c.vacate_at.ensures c.self.view_is c.self.invariant.waits c.self-2.view_is c.requires.is_charging c.requires.ahead c.requires.at c.requires.home c.at.ensures c.requires.some c.requires.early c.requires.ends c.requires.sound in
    subst (λ (z : ℤ). pos (c.args.open_charge.rate * (c.args.ticks - 1)) <ℤ z) (sym value) f.fin.lasts.lasted

pub left_after-left-requires-clause-lifted : goal.left_after-left-requires-clause-lifted
left_after-left-requires-clause-lifted c =
    let left = c.at.result.now.server.left in
    let fits : SFits w128 left = search rules in
    let value : to_z w128 (of_z w128 left) ≡ left = to_z-of_z {w = w128} {z = left} fits in
    let f = facts_at c.args.self.now c.vacate_at.new.self c.args.time c.args.ticks c.args.cpu c.args.place c.args.open_charge c.at.result.now c.self.inside.queue c.self-2.inside.queue c.self.inside.charges c.self-2.inside.charges c.self.inside.tasks c.self-2.inside.tasks c.vacate_at.ensures c.self.view_is c.self.invariant.waits c.self-2.view_is c.requires.is_charging c.requires.ahead c.requires.at c.requires.home c.at.ensures c.requires.some c.requires.early c.requires.ends c.requires.sound in
    subst (λ (z : ℤ). pos 0 <ℤ z) (sym value) f.fin.lifted

pub left_after-left-requires-clause-high : goal.left_after-left-requires-clause-high
left_after-left-requires-clause-high c =
    let left = c.at.result.now.server.left in
    let fits : SFits w128 left = search rules in
    let value : to_z w128 (of_z w128 left) ≡ left = to_z-of_z {w = w128} {z = left} fits in
    let f = facts_at c.args.self.now c.vacate_at.new.self c.args.time c.args.ticks c.args.cpu c.args.place c.args.open_charge c.at.result.now c.self.inside.queue c.self-2.inside.queue c.self.inside.charges c.self-2.inside.charges c.self.inside.tasks c.self-2.inside.tasks c.vacate_at.ensures c.self.view_is c.self.invariant.waits c.self-2.view_is c.requires.is_charging c.requires.ahead c.requires.at c.requires.home c.at.ensures c.requires.some c.requires.early c.requires.ends c.requires.sound in
    subst (λ (z : ℤ). z ≤ℤ pos (2 ^ 52)) (sym value) f.fin.high

pub apply_logged-requires-clause-may : goal.apply_logged-requires-clause-may
apply_logged-requires-clause-may c d =
    let left = c.at.result.now.server.left in
    let fits : SFits w128 left = search rules in
    let value : to_z w128 (of_z w128 left) ≡ left = to_z-of_z {w = w128} {z = left} fits in
    let new = c.left_after-left.result in
    let fits2 : SFits w128 new = search rules in
    let value2 : to_z w128 (of_z w128 new) ≡ new = to_z-of_z {w = w128} {z = new} fits2 in
    let used : c.used_in.result ≡ c.args.open_charge.rate * c.args.ticks = c.used_in.ensures.used ∙ times_one c.args.open_charge.rate c.args.ticks c.requires.some in
    let left_is : to_z w128 (of_z w128 new) ≡ left -ℤ pos (c.args.open_charge.rate * c.args.ticks) = value2 ∙ c.left_after-left.ensures ∙ (λ i. value i -ℤ pos (used i)) in
    let f = facts_at c.args.self.now c.vacate_at.new.self c.args.time c.args.ticks c.args.cpu c.args.place c.args.open_charge c.at.result.now c.self.inside.queue c.self-2.inside.queue c.self.inside.charges c.self-2.inside.charges c.self.inside.tasks c.self-2.inside.tasks c.vacate_at.ensures c.self.view_is c.self.invariant.waits c.self-2.view_is c.requires.is_charging c.requires.ahead c.requires.at c.requires.home c.at.ensures c.requires.some c.requires.early c.requires.ends c.requires.sound in
    let x = c.at.result.now in
    let p = c.args.place in
    let is : x ≡ get_or c.vacate_at.new.self.tasks p d = f.read ∙ get_or_default c.args.self.now.tasks p x d c.requires.at.within ∙ ap (λ (r : TaskTableView). get_or r.tasks p d) (sym c.vacate_at.ensures) in
    subst (MayRun c.args.time c.args.ticks (to_z w128 (of_z w128 new))) is (subst (λ (z : ℤ). MayRun c.args.time c.args.ticks z x) (sym left_is) f.fin.may)

pub apply_logged-requires-clause-free : goal.apply_logged-requires-clause-free
apply_logged-requires-clause-free c d =
    let old = c.args.self.now in
    let p = c.args.place in
    ap (λ (r : TaskTableView). get_or r.charges (get_or r.tasks p d).cpu None) c.vacate_at.ensures
    ∙ ap (λ (n : ℕ). get_or (set old.charges c.args.cpu None) n None) (c.requires.home d)
    ∙ none_at old.charges c.args.cpu

pub returns-clause-charges : goal.returns-clause-charges
returns-clause-charges c = c.apply_logged.ensures.charges ∙ ap (λ (r : TaskTableView). r.charges) c.vacate_at.ensures

pub returns-clause-tasks : goal.returns-clause-tasks
returns-clause-tasks c =
    let left = c.at.result.now.server.left in
    let fits : SFits w128 left = search rules in
    let value : to_z w128 (of_z w128 left) ≡ left = to_z-of_z {w = w128} {z = left} fits in
    let new = c.left_after-left.result in
    let fits2 : SFits w128 new = search rules in
    let value2 : to_z w128 (of_z w128 new) ≡ new = to_z-of_z {w = w128} {z = new} fits2 in
    let used : c.used_in.result ≡ c.args.open_charge.rate * c.args.ticks = c.used_in.ensures.used ∙ times_one c.args.open_charge.rate c.args.ticks c.requires.some in
    let left_is : to_z w128 (of_z w128 new) ≡ left -ℤ pos (c.args.open_charge.rate * c.args.ticks) = value2 ∙ c.left_after-left.ensures ∙ (λ i. value i -ℤ pos (used i)) in
    let f = facts_at c.args.self.now c.vacate_at.new.self c.args.time c.args.ticks c.args.cpu c.args.place c.args.open_charge c.at.result.now c.self.inside.queue c.self-2.inside.queue c.self.inside.charges c.self-2.inside.charges c.self.inside.tasks c.self-2.inside.tasks c.vacate_at.ensures c.self.view_is c.self.invariant.waits c.self-2.view_is c.requires.is_charging c.requires.ahead c.requires.at c.requires.home c.at.ensures c.requires.some c.requires.early c.requires.ends c.requires.sound in
    let old = c.args.self.now in
    let mid = c.vacate_at.new.self in
    let x = c.at.result.now in
    let p = c.args.place in
    let k = c.args.ticks in
    let z = to_z w128 (of_z w128 c.left_after-left.result) in
    let y = ran_until c.args.time k z x in
    let is : get_or mid.tasks p x ≡ x = sym (f.read ∙ ap (λ (r : TaskTableView). get_or r.tasks p x) (sym c.vacate_at.ensures)) in
    let charges : c.apply_logged.new.self.charges ≡ set old.charges c.args.cpu None = c.apply_logged.ensures.charges ∙ ap (λ (r : TaskTableView). r.charges) c.vacate_at.ensures in
    let tasks : c.apply_logged.new.self.tasks ≡ set old.tasks p y = c.apply_logged.ensures.step.is x ∙ ap (λ (t : Task). set mid.tasks p (ran_until c.args.time k z t)) is ∙ ap (λ (r : TaskTableView). set r.tasks p y) c.vacate_at.ensures in
    (λ i. map (time_passed c.args.time k (charges i)) (tasks i))
    ∙ finished_passes c.args.time k c.args.cpu old.charges old.tasks c.args.open_charge f.is_charging p x y c.requires.at.within f.read f.number f.home (same_ran_until c.args.time k z x).cpu
    (subst (λ (r : TaskTableView). AllPairs (λ a b. a.number ≢ b.number) r.tasks) c.self.view_is c.self.invariant.counted.task_table.numbered)
    (ap (λ (w : ℤ). ran_until c.args.time k w x) left_is)

pub returns-clause-logged : goal.returns-clause-logged
returns-clause-logged c =
    let left = c.at.result.now.server.left in
    let fits : SFits w128 left = search rules in
    let value : to_z w128 (of_z w128 left) ≡ left = to_z-of_z {w = w128} {z = left} fits in
    let new = c.left_after-left.result in
    let fits2 : SFits w128 new = search rules in
    let value2 : to_z w128 (of_z w128 new) ≡ new = to_z-of_z {w = w128} {z = new} fits2 in
    let used : c.used_in.result ≡ c.args.open_charge.rate * c.args.ticks = c.used_in.ensures.used ∙ times_one c.args.open_charge.rate c.args.ticks c.requires.some in
    let left_is : to_z w128 (of_z w128 new) ≡ left -ℤ pos (c.args.open_charge.rate * c.args.ticks) = value2 ∙ c.left_after-left.ensures ∙ (λ i. value i -ℤ pos (used i)) in
    let f = facts_at c.args.self.now c.vacate_at.new.self c.args.time c.args.ticks c.args.cpu c.args.place c.args.open_charge c.at.result.now c.self.inside.queue c.self-2.inside.queue c.self.inside.charges c.self-2.inside.charges c.self.inside.tasks c.self-2.inside.tasks c.vacate_at.ensures c.self.view_is c.self.invariant.waits c.self-2.view_is c.requires.is_charging c.requires.ahead c.requires.at c.requires.home c.at.ensures c.requires.some c.requires.early c.requires.ends c.requires.sound in
    let old = c.args.self.now in
    let mid = c.vacate_at.new.self in
    let x = c.at.result.now in
    let p = c.args.place in
    let k = c.args.ticks in
    let z = to_z w128 (of_z w128 c.left_after-left.result) in
    let y = ran_until c.args.time k z x in
    let is : get_or mid.tasks p x ≡ x = sym (f.read ∙ ap (λ (r : TaskTableView). get_or r.tasks p x) (sym c.vacate_at.ensures)) in
    let charges : c.apply_logged.new.self.charges ≡ set old.charges c.args.cpu None = c.apply_logged.ensures.charges ∙ ap (λ (r : TaskTableView). r.charges) c.vacate_at.ensures in
    let tasks : c.apply_logged.new.self.tasks ≡ set old.tasks p y = c.apply_logged.ensures.step.is x ∙ ap (λ (t : Task). set mid.tasks p (ran_until c.args.time k z t)) is ∙ ap (λ (r : TaskTableView). set r.tasks p y) c.vacate_at.ensures in
    let all = flat_map (logged_passed c.args.time k old.charges) old.tasks in
    let rest : flat_map (logged_passed c.args.time k c.apply_logged.new.self.charges) c.apply_logged.new.self.tasks ≡ flat_map (logged_passed c.args.time k (set old.charges c.args.cpu None)) (set old.tasks p y) = λ i. flat_map (logged_passed c.args.time k (charges i)) (tasks i) in
    let own = logged_until c.args.time k (left -ℤ pos (c.args.open_charge.rate * k)) x in
    let logged : logged_until c.args.time k z (get_or mid.tasks p x) ≡ own = (λ i. logged_until c.args.time k (left_is i) (is i)) in
    record {
      tail = own;
      is = subst (λ hs. HasLogged c.args.log.now hs c.apply_logged.new.log) logged (c.apply_logged.ensures.logged x);
      mixed = subst (λ hs. IsPermutation all (own ++ hs)) (sym rest)
          (finished_logs c.args.time k c.args.cpu old.charges old.tasks c.args.open_charge f.is_charging p x y c.requires.at.within f.read f.number f.home
          (subst (λ (r : TaskTableView). AllPairs (λ a b. a.number ≢ b.number) r.tasks) c.self.view_is c.self.invariant.counted.task_table.numbered)
          (same_ran_until c.args.time k z x).cpu);
    }

pub vacate_at-requires-clause-there : goal.vacate_at-requires-clause-there
vacate_at-requires-clause-there c = grind (arith, common_steps)

pub vacate_at-requires-clause-is_charging : goal.vacate_at-requires-clause-is_charging
vacate_at-requires-clause-is_charging c = grind (arith, common_steps)

pub vacate_at-requires-clause-at : goal.vacate_at-requires-clause-at
vacate_at-requires-clause-at c = grind (arith, common_steps)

pub vacate_at-requires-clause-ahead : goal.vacate_at-requires-clause-ahead
vacate_at-requires-clause-ahead c = grind (arith, common_steps)

pub used_in-requires-clause-some : goal.used_in-requires-clause-some
used_in-requires-clause-some c = grind (arith, common_steps)

pub used_in-requires-clause-slow : goal.used_in-requires-clause-slow
used_in-requires-clause-slow c = grind (arith, common_steps)

pub left_after-left-requires-clause-small : goal.left_after-left-requires-clause-small
left_after-left-requires-clause-small c = grind (arith, common_steps)

pub apply_logged-requires-clause-there : goal.apply_logged-requires-clause-there
apply_logged-requires-clause-there c = grind (arith, common_steps)

pub apply_logged-requires-clause-fits : goal.apply_logged-requires-clause-fits
apply_logged-requires-clause-fits c = grind (arith, common_steps)

pub apply_logged-requires-clause-sound : goal.apply_logged-requires-clause-sound
apply_logged-requires-clause-sound c = grind (arith, common_steps)

pub returns-clause-cpus : goal.returns-clause-cpus
returns-clause-cpus c = grind (arith, common_steps)

pub returns-clause-places : goal.returns-clause-places
returns-clause-places c = grind (arith, common_steps)

pub returns-clause-clock : goal.returns-clause-clock
returns-clause-clock c = grind (arith, common_steps)

pub returns-clause-sound : goal.returns-clause-sound
returns-clause-sound c = grind (arith, common_steps)

pub at-requires : goal.at-requires
at-requires c = grind (arith, common_steps)
