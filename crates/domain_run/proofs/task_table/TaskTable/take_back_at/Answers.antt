use Rattle.std.proofs.Common.{◌≡◌, ◌<◌, ◌∙◌, ◌||◌, true, false, Some, length, get_or, set, sym, ap, subst, arith}
use Rattle.std.specs.Prelude.{nat_le}
use Rattle.std.proofs.lemmas.Grind.{common_steps}
use Rattle.domain_run.specs.Conditions.{is_contending}
use Rattle.domain_run.specs.declared.task.Task.{Task}
use Rattle.domain_run.specs.private.DeferringTimers.{with_lag}
use Rattle.domain_run.specs.private.TaskTable.{TaskTableView}
use Rattle.domain_run.specs.private.Timers.{IsTimerStep}
use Rattle.domain_run.specs.private.Owed.{owed_all}
use Rattle.domain_run.proofs.Due.{step_none}
use Rattle.domain_run.proofs.DeferringTimers.{lag_gone, lag_kept, seen_alike, false_not, true_not}
use Rattle.domain_run.proofs.task_table.TaskTable.take_back_at.Goals as goal

pub returns-else-is_ahead-clause-step : goal.returns-else-is_ahead-clause-step
returns-else-is_ahead-clause-step c =
    let s = c.self.inside in
    let p = c.args.place in
    let past = c.args.past in
    let z = c.in-Some.lag in
    let raw = c.at.result.now in
    let seen = owed_all s.charges s.tasks in
    let there = subst (λ (r : TaskTableView). p < length r.tasks) (sym c.self.view_is) c.requires.there in
    let gone : (is_contending raw.condition || nat_le z past) ≡ true = false_not (is_contending raw.condition || nat_le z past) (sym c.is_ahead.ensures ∙ c.if-is_ahead.false) in
    let still = step_none seen p (with_lag past c.args.lag) (λ d.
    ap (λ o. with_lag past o (get_or seen p d)) c.in-Some.is
    ∙ lag_gone past z (get_or seen p d) (ap (λ k. is_contending k || nat_le z past) (seen_alike s.charges s.tasks p raw d there c.at.ensures).condition ∙ gone)) in
    subst (λ (r : TaskTableView). IsTimerStep (with_lag past c.args.lag) p r.tasks r.tasks) c.self.view_is still

pub returns-in_default-clause-cpus : goal.returns-in_default-clause-cpus
returns-in_default-clause-cpus c = grind (arith, common_steps)

pub returns-in_default-clause-places : goal.returns-in_default-clause-places
returns-in_default-clause-places c = grind (arith, common_steps)

pub returns-in_default-clause-step : goal.returns-in_default-clause-step
returns-in_default-clause-step c = grind (arith, common_steps)

pub returns-in_default-clause-sound : goal.returns-in_default-clause-sound
returns-in_default-clause-sound c = grind (arith, common_steps)

pub apply-requires-clause-there : goal.apply-requires-clause-there
apply-requires-clause-there c = grind (arith, common_steps)

pub apply-requires-clause-fits : goal.apply-requires-clause-fits
apply-requires-clause-fits c = grind (arith, common_steps)

pub apply-requires-clause-sound : goal.apply-requires-clause-sound
apply-requires-clause-sound c = grind (arith, common_steps)

pub apply-requires-clause-may : goal.apply-requires-clause-may
apply-requires-clause-may c = grind (arith, common_steps)

pub returns-then-is_ahead-clause-cpus : goal.returns-then-is_ahead-clause-cpus
returns-then-is_ahead-clause-cpus c = grind (arith, common_steps)

pub returns-then-is_ahead-clause-places : goal.returns-then-is_ahead-clause-places
returns-then-is_ahead-clause-places c = grind (arith, common_steps)

pub returns-then-is_ahead-clause-sound : goal.returns-then-is_ahead-clause-sound
returns-then-is_ahead-clause-sound c = grind (arith, common_steps)

pub returns-else-is_ahead-clause-cpus : goal.returns-else-is_ahead-clause-cpus
returns-else-is_ahead-clause-cpus c = grind (arith, common_steps)

pub returns-else-is_ahead-clause-places : goal.returns-else-is_ahead-clause-places
returns-else-is_ahead-clause-places c = grind (arith, common_steps)

pub returns-else-is_ahead-clause-sound : goal.returns-else-is_ahead-clause-sound
returns-else-is_ahead-clause-sound c = grind (arith, common_steps)

pub at-requires : goal.at-requires
at-requires c = grind (arith, common_steps)

pub returns-then-is_ahead-clause-step : goal.returns-then-is_ahead-clause-step
returns-then-is_ahead-clause-step c =
    let s = c.self.inside in
    let p = c.args.place in
    let past = c.args.past in
    let z = c.in-Some.lag in
    let raw = c.at.result.now in
    let old = c.args.self.now.tasks in
    let there = subst (λ (r : TaskTableView). p < length r.tasks) (sym c.self.view_is) c.requires.there in
    let kept : (is_contending raw.condition || nat_le z past) ≡ false = true_not (is_contending raw.condition || nat_le z past) (sym c.is_ahead.ensures ∙ c.if-is_ahead.true) in
    record {
      is = λ d.
          let seen = subst (λ (r : TaskTableView). (is_contending (get_or r.tasks p d).condition || nat_le z past) ≡ false) c.self.view_is
          (ap (λ k. is_contending k || nat_le z past) (seen_alike s.charges s.tasks p raw d there c.at.ensures).condition ∙ kept) in
          let lagged : with_lag past c.args.lag (get_or old p d) ≡ record (get_or old p d) { zero_lag = Some z } = ap (λ o. with_lag past o (get_or old p d)) c.in-Some.is ∙ lag_kept past z (get_or old p d) seen in
          c.apply.ensures.step.is d ∙ ap (λ (t : Task). set old p t) (sym lagged);
    }
