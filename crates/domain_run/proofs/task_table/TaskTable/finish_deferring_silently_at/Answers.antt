use Rattle.std.proofs.Common.{rules, ℕ, ◌≡◌, ◌≢◌, ◌-◌, ◌*◌, ◌^◌, true, false, Some, None, length, refl, arith, map, get_or, set, sym, ap, subst, ◌∙◌}
use Rattle.std.specs.Prelude.{ℤ, pos, ◌-ℤ◌, ◌<ℤ◌, ◌≤ℤ◌, All, AllPairs}
use Rattle.std.proofs.Math.Facts.{to_z-of_z}
use mir.Syntax.{w128}
use mir.Val.{SFits, of_z, to_z}
use Rattle.std.proofs.lemmas.List.{get_or_default}
use Rattle.std.proofs.lemmas.Grind.{common_steps}
use Rattle.domain_run.specs.declared.task.Task.{Task}
use Rattle.domain_run.specs.private.Paying.{ran_until}
use Rattle.domain_run.specs.private.TaskTable.{TaskTableView, MayRun, without_zero_lag}
use Rattle.domain_run.specs.private.DeferringTimers.{with_lags, passed_bare, IsBare}
use Rattle.domain_run.specs.Conditions.{is_contending}
use Rattle.std.proofs.lemmas.List.Elements.{All-set}
use Rattle.domain_run.proofs.Deferring.{finished_bare, finished_lags}
use Rattle.domain_run.specs.private.Owed.{time_passed}
use Rattle.domain_run.proofs.Paying.{same_ran_until, is_Ready}
use Rattle.domain_run.proofs.Chargings.{none_at}
use Rattle.domain_run.proofs.Later.{facts_at, times_one}
use Rattle.domain_run.proofs.task_table.TaskTable.finish_deferring_silently_at.Goals as goal

pub used_in-requires-clause-high : goal.used_in-requires-clause-high
used_in-requires-clause-high c =
    let left = c.at.result.now.server.left in
    let fits : SFits w128 left = search rules in
    let value : to_z w128 (of_z w128 left) ≡ left = to_z-of_z {w = w128} {z = left} fits in
    let f = facts_at c.args.self.now c.vacate_at.new.self c.args.time c.args.ticks c.args.cpu c.args.place c.args.open_charge c.at.result.now c.self.inside.queue c.self-2.inside.queue c.self.inside.charges c.self-2.inside.charges c.self.inside.tasks c.self-2.inside.tasks c.vacate_at.ensures c.self.view_is c.self.invariant.waits c.self-2.view_is c.requires.is_charging c.requires.ahead c.requires.at c.requires.home c.at.ensures c.requires.some c.requires.early c.requires.ends c.requires.sound in
    subst (λ (z : ℤ). z ≤ℤ pos (2 ^ 52)) (sym value) f.fin.high

pub used_in-requires-clause-lasted : goal.used_in-requires-clause-lasted
used_in-requires-clause-lasted c =
    let left = c.at.result.now.server.left in
    let fits : SFits w128 left = search rules in
    let value : to_z w128 (of_z w128 left) ≡ left = to_z-of_z {w = w128} {z = left} fits in
    let f = facts_at c.args.self.now c.vacate_at.new.self c.args.time c.args.ticks c.args.cpu c.args.place c.args.open_charge c.at.result.now c.self.inside.queue c.self-2.inside.queue c.self.inside.charges c.self-2.inside.charges c.self.inside.tasks c.self-2.inside.tasks c.vacate_at.ensures c.self.view_is c.self.invariant.waits c.self-2.view_is c.requires.is_charging c.requires.ahead c.requires.at c.requires.home c.at.ensures c.requires.some c.requires.early c.requires.ends c.requires.sound in
    subst (λ (z : ℤ). pos (c.args.open_charge.rate * (c.args.ticks - 1)) <ℤ z) (sym value) f.fin.lasts.lasted

pub left_after-left-requires-clause-lifted : goal.left_after-left-requires-clause-lifted
left_after-left-requires-clause-lifted c =
    let left = c.at.result.now.server.left in
    let fits : SFits w128 left = search rules in
    let value : to_z w128 (of_z w128 left) ≡ left = to_z-of_z {w = w128} {z = left} fits in
    let f = facts_at c.args.self.now c.vacate_at.new.self c.args.time c.args.ticks c.args.cpu c.args.place c.args.open_charge c.at.result.now c.self.inside.queue c.self-2.inside.queue c.self.inside.charges c.self-2.inside.charges c.self.inside.tasks c.self-2.inside.tasks c.vacate_at.ensures c.self.view_is c.self.invariant.waits c.self-2.view_is c.requires.is_charging c.requires.ahead c.requires.at c.requires.home c.at.ensures c.requires.some c.requires.early c.requires.ends c.requires.sound in
    subst (λ (z : ℤ). pos 0 <ℤ z) (sym value) f.fin.lifted

pub left_after-left-requires-clause-high : goal.left_after-left-requires-clause-high
left_after-left-requires-clause-high c =
    let left = c.at.result.now.server.left in
    let fits : SFits w128 left = search rules in
    let value : to_z w128 (of_z w128 left) ≡ left = to_z-of_z {w = w128} {z = left} fits in
    let f = facts_at c.args.self.now c.vacate_at.new.self c.args.time c.args.ticks c.args.cpu c.args.place c.args.open_charge c.at.result.now c.self.inside.queue c.self-2.inside.queue c.self.inside.charges c.self-2.inside.charges c.self.inside.tasks c.self-2.inside.tasks c.vacate_at.ensures c.self.view_is c.self.invariant.waits c.self-2.view_is c.requires.is_charging c.requires.ahead c.requires.at c.requires.home c.at.ensures c.requires.some c.requires.early c.requires.ends c.requires.sound in
    subst (λ (z : ℤ). z ≤ℤ pos (2 ^ 52)) (sym value) f.fin.high

pub apply_charged-requires-clause-may : goal.apply_charged-requires-clause-may
apply_charged-requires-clause-may c d =
    let left = c.at.result.now.server.left in
    let fits : SFits w128 left = search rules in
    let value : to_z w128 (of_z w128 left) ≡ left = to_z-of_z {w = w128} {z = left} fits in
    let new = c.left_after-left.result in
    let fits2 : SFits w128 new = search rules in
    let value2 : to_z w128 (of_z w128 new) ≡ new = to_z-of_z {w = w128} {z = new} fits2 in
    let used : c.used_in.result ≡ c.args.open_charge.rate * c.args.ticks = c.used_in.ensures.used ∙ times_one c.args.open_charge.rate c.args.ticks c.requires.some in
    let left_is : to_z w128 (of_z w128 new) ≡ left -ℤ pos (c.args.open_charge.rate * c.args.ticks) = value2 ∙ c.left_after-left.ensures ∙ (λ i. value i -ℤ pos (used i)) in
    let f = facts_at c.args.self.now c.vacate_at.new.self c.args.time c.args.ticks c.args.cpu c.args.place c.args.open_charge c.at.result.now c.self.inside.queue c.self-2.inside.queue c.self.inside.charges c.self-2.inside.charges c.self.inside.tasks c.self-2.inside.tasks c.vacate_at.ensures c.self.view_is c.self.invariant.waits c.self-2.view_is c.requires.is_charging c.requires.ahead c.requires.at c.requires.home c.at.ensures c.requires.some c.requires.early c.requires.ends c.requires.sound in
    let x = c.at.result.now in
    let p = c.args.place in
    let is : x ≡ get_or c.vacate_at.new.self.tasks p d = f.read ∙ get_or_default c.args.self.now.tasks p x d c.requires.at.within ∙ ap (λ (r : TaskTableView). get_or r.tasks p d) (sym c.vacate_at.ensures) in
    subst (MayRun c.args.time c.args.ticks (to_z w128 (of_z w128 new))) is (subst (λ (z : ℤ). MayRun c.args.time c.args.ticks z x) (sym left_is) f.fin.may)

pub apply_charged-requires-clause-free : goal.apply_charged-requires-clause-free
apply_charged-requires-clause-free c d =
    let old = c.args.self.now in
    let p = c.args.place in
    ap (λ (r : TaskTableView). get_or r.charges (get_or r.tasks p d).cpu None) c.vacate_at.ensures
    ∙ ap (λ (n : ℕ). get_or (set old.charges c.args.cpu None) n None) (c.requires.home d)
    ∙ none_at old.charges c.args.cpu

pub returns-clause-charges : goal.returns-clause-charges
returns-clause-charges c = c.apply_charged.ensures.charges ∙ ap (λ (r : TaskTableView). r.charges) c.vacate_at.ensures

-- what the task there becomes
pub record IsFinished (c : goal.After-apply_charged) : Type 0 where
  pub is_charging : get_or c.args.self.now.charges c.args.cpu None ≡ Some c.args.open_charge
  pub read : c.at.result.now ≡ get_or c.args.self.now.tasks c.args.place c.at.result.now
  pub home : c.at.result.now.cpu ≡ c.args.cpu
  pub number : c.at.result.now.number ≡ c.args.open_charge.number
  pub contends : is_contending c.at.result.now.condition ≡ true
  pub numbered : AllPairs (λ a b. a.number ≢ b.number) c.args.self.now.tasks
  pub charges : c.apply_charged.new.self.charges ≡ set c.args.self.now.charges c.args.cpu None
  pub tasks : c.apply_charged.new.self.tasks ≡ set c.args.self.now.tasks c.args.place (without_zero_lag (ran_until c.args.time c.args.ticks (c.at.result.now.server.left -ℤ pos (c.args.open_charge.rate * c.args.ticks)) c.at.result.now))
  pub deferring : c.apply_charged.result ≡ (ran_until c.args.time c.args.ticks (c.at.result.now.server.left -ℤ pos (c.args.open_charge.rate * c.args.ticks)) c.at.result.now).zero_lag

finished : (c : goal.After-apply_charged) → IsFinished c
finished c =
    let left = c.at.result.now.server.left in
    let fits : SFits w128 left = search rules in
    let value : to_z w128 (of_z w128 left) ≡ left = to_z-of_z {w = w128} {z = left} fits in
    let new = c.left_after-left.result in
    let fits2 : SFits w128 new = search rules in
    let value2 : to_z w128 (of_z w128 new) ≡ new = to_z-of_z {w = w128} {z = new} fits2 in
    let used : c.used_in.result ≡ c.args.open_charge.rate * c.args.ticks = c.used_in.ensures.used ∙ times_one c.args.open_charge.rate c.args.ticks c.requires.some in
    let left_is : to_z w128 (of_z w128 new) ≡ left -ℤ pos (c.args.open_charge.rate * c.args.ticks) = value2 ∙ c.left_after-left.ensures ∙ (λ i. value i -ℤ pos (used i)) in
    let f = facts_at c.args.self.now c.vacate_at.new.self c.args.time c.args.ticks c.args.cpu c.args.place c.args.open_charge c.at.result.now c.self.inside.queue c.self-2.inside.queue c.self.inside.charges c.self-2.inside.charges c.self.inside.tasks c.self-2.inside.tasks c.vacate_at.ensures c.self.view_is c.self.invariant.waits c.self-2.view_is c.requires.is_charging c.requires.ahead c.requires.at c.requires.home c.at.ensures c.requires.some c.requires.early c.requires.ends c.requires.sound in
    let mid = c.vacate_at.new.self in
    let x = c.at.result.now in
    let p = c.args.place in
    let k = c.args.ticks in
    let y : ℤ → Task = λ z. without_zero_lag (ran_until c.args.time k z x) in
    let is : get_or mid.tasks p x ≡ x = sym (f.read ∙ ap (λ (r : TaskTableView). get_or r.tasks p x) (sym c.vacate_at.ensures)) in
    record {
      is_charging = f.is_charging;
      read = f.read;
      home = f.home;
      number = f.number;
      contends = ap is_contending (is_Ready x.condition f.fin.lasts.ready);
      numbered = subst (λ (r : TaskTableView). AllPairs (λ a b. a.number ≢ b.number) r.tasks) c.self.view_is c.self.invariant.counted.task_table.numbered;
      charges = c.apply_charged.ensures.charges ∙ ap (λ (r : TaskTableView). r.charges) c.vacate_at.ensures;
      tasks = c.apply_charged.ensures.step.is x ∙ ap (λ (t : Task). set mid.tasks p (without_zero_lag (ran_until c.args.time k (to_z w128 (of_z w128 new)) t))) is ∙ ap (λ (r : TaskTableView). set r.tasks p (y (to_z w128 (of_z w128 new)))) c.vacate_at.ensures ∙ ap (λ (z : ℤ). set c.args.self.now.tasks p (y z)) left_is;
      deferring = c.apply_charged.ensures.deferring x ∙ ap (λ (t : Task). (ran_until c.args.time k (to_z w128 (of_z w128 new)) t).zero_lag) is ∙ ap (λ (z : ℤ). (ran_until c.args.time k z x).zero_lag) left_is;
    }

pub returns-clause-tasks : goal.returns-clause-tasks
returns-clause-tasks c =
    let f = finished c in
    let old = c.args.self.now in
    let x = c.at.result.now in
    let k = c.args.ticks in
    let z = x.server.left -ℤ pos (c.args.open_charge.rate * k) in
    (λ i. map (passed_bare c.args.time k (f.charges i)) (f.tasks i))
    ∙ finished_bare c.args.time k c.args.cpu old.charges old.tasks c.args.open_charge f.is_charging c.args.place x c.requires.at.within f.read f.number f.home f.numbered (ran_until c.args.time k z x) (same_ran_until c.args.time k z x).cpu refl

pub returns-clause-lags : goal.returns-clause-lags
returns-clause-lags c past order =
    let f = finished c in
    let old = c.args.self.now in
    let x = c.at.result.now in
    let k = c.args.ticks in
    let p = c.args.place in
    let z = x.server.left -ℤ pos (c.args.open_charge.rate * k) in
    let bare : x.zero_lag ≡ None = ap (λ (t : Task). t.zero_lag) f.read ∙ (c.requires.bare p x c.requires.at.within).lag in
    (λ i. map (time_passed c.args.time k (f.charges i)) (with_lags past (set c.args.lags.now p (f.deferring i)) (f.tasks i)))
    ∙ finished_lags c.args.time k c.args.cpu old.charges old.tasks c.args.open_charge f.is_charging p x c.requires.at.within f.read f.number f.home f.numbered past c.args.lags.now (ran_until c.args.time k z x) order (omega (arith, c.requires.at.within, c.self.invariant.counted.task_table.few, ap (λ (r : TaskTableView). length r.tasks) c.self.view_is)) bare f.contends (same_ran_until c.args.time k z x).cpu refl

pub returns-clause-bare : goal.returns-clause-bare
returns-clause-bare c =
    let f = finished c in
    let x = c.at.result.now in
    let k = c.args.ticks in
    let p = c.args.place in
    let z = x.server.left -ℤ pos (c.args.open_charge.rate * k) in
    let fixed : x.params.reclaim ≡ false = ap (λ (t : Task). t.params.reclaim) f.read ∙ (c.requires.bare p x c.requires.at.within).fixed in
    subst (λ ts. All IsBare ts) (sym f.tasks) (All-set IsBare c.args.self.now.tasks p (without_zero_lag (ran_until c.args.time k z x)) (record { lag = refl; fixed = ap (λ q. q.reclaim) (same_ran_until c.args.time k z x).params ∙ fixed }) c.requires.bare)

pub vacate_at-requires-clause-there : goal.vacate_at-requires-clause-there
vacate_at-requires-clause-there c = grind (arith, common_steps)

pub vacate_at-requires-clause-is_charging : goal.vacate_at-requires-clause-is_charging
vacate_at-requires-clause-is_charging c = grind (arith, common_steps)

pub vacate_at-requires-clause-at : goal.vacate_at-requires-clause-at
vacate_at-requires-clause-at c = grind (arith, common_steps)

pub vacate_at-requires-clause-ahead : goal.vacate_at-requires-clause-ahead
vacate_at-requires-clause-ahead c = grind (arith, common_steps)

pub used_in-requires-clause-some : goal.used_in-requires-clause-some
used_in-requires-clause-some c = grind (arith, common_steps)

pub used_in-requires-clause-slow : goal.used_in-requires-clause-slow
used_in-requires-clause-slow c = grind (arith, common_steps)

pub left_after-left-requires-clause-small : goal.left_after-left-requires-clause-small
left_after-left-requires-clause-small c = grind (arith, common_steps)

pub apply_charged-requires-clause-there : goal.apply_charged-requires-clause-there
apply_charged-requires-clause-there c = grind (arith, common_steps)

pub apply_charged-requires-clause-fits : goal.apply_charged-requires-clause-fits
apply_charged-requires-clause-fits c = grind (arith, common_steps)

pub apply_charged-requires-clause-sound : goal.apply_charged-requires-clause-sound
apply_charged-requires-clause-sound c = grind (arith, common_steps)

pub returns-clause-cpus : goal.returns-clause-cpus
returns-clause-cpus c = grind (arith, common_steps)

pub returns-clause-places : goal.returns-clause-places
returns-clause-places c = grind (arith, common_steps)

pub returns-clause-clock : goal.returns-clause-clock
returns-clause-clock c = grind (arith, common_steps)

pub returns-clause-sound : goal.returns-clause-sound
returns-clause-sound c = grind (arith, common_steps)

pub at-requires : goal.at-requires
at-requires c = grind (arith, common_steps)

pub offset_bounds-lags-place : goal.offset_bounds-lags-place
offset_bounds-lags-place c = grind (arith, common_steps)

pub bounds-lags-place : goal.bounds-lags-place
bounds-lags-place c = grind (arith, common_steps)
