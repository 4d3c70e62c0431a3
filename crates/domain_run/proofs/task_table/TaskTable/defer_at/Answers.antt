use Rattle.std.proofs.Common.{◌≡◌, ℕ, ◌<◌, ◌∙◌, false, Option, Some, None, length, get_or, refl, sym, ap, subst, arith}
use Rattle.std.specs.Prelude.{is_some}
use Rattle.domain_run.specs.declared.task.Task.{Task}
use Rattle.std.proofs.lemmas.Grind.{common_steps}
use Rattle.domain_run.specs.private.TaskTable.{TaskTableView, without_zero_lag}
use Rattle.domain_run.proofs.Due.{step_none}
use Rattle.domain_run.proofs.DeferringTimers.{seen_alike}
use Rattle.domain_run.proofs.task_table.TaskTable.defer_at.Goals as goal

pub apply-requires-clause-there : goal.apply-requires-clause-there
apply-requires-clause-there c = grind (arith, common_steps)

pub apply-requires-clause-fits : goal.apply-requires-clause-fits
apply-requires-clause-fits c = grind (arith, common_steps)

pub apply-requires-clause-sound : goal.apply-requires-clause-sound
apply-requires-clause-sound c = grind (arith, common_steps)

pub apply-requires-clause-may : goal.apply-requires-clause-may
apply-requires-clause-may c = grind (arith, common_steps)

pub returns-then-is_some-clause-cpus : goal.returns-then-is_some-clause-cpus
returns-then-is_some-clause-cpus c = grind (arith, common_steps)

pub returns-then-is_some-clause-places : goal.returns-then-is_some-clause-places
returns-then-is_some-clause-places c = grind (arith, common_steps)

pub returns-then-is_some-clause-step : goal.returns-then-is_some-clause-step
returns-then-is_some-clause-step c = grind (arith, common_steps)

pub returns-then-is_some-clause-sound : goal.returns-then-is_some-clause-sound
returns-then-is_some-clause-sound c = grind (arith, common_steps)

pub returns-else-is_some-clause-cpus : goal.returns-else-is_some-clause-cpus
returns-else-is_some-clause-cpus c = grind (arith, common_steps)

pub returns-else-is_some-clause-places : goal.returns-else-is_some-clause-places
returns-else-is_some-clause-places c = grind (arith, common_steps)

pub returns-else-is_some-clause-sound : goal.returns-else-is_some-clause-sound
returns-else-is_some-clause-sound c = grind (arith, common_steps)

pub returns-then-is_some-clause-lag : goal.returns-then-is_some-clause-lag
returns-then-is_some-clause-lag c d =
    let s = c.self.inside in
    let p = c.args.place in
    let x = c.at.result.now in
    let within = subst (λ (r : TaskTableView). p < length r.tasks) (sym c.self.view_is) c.requires.there in
    let a = seen_alike s.charges s.tasks p x d within c.at.ensures in
    subst (λ (r : TaskTableView). x.zero_lag ≡ (get_or r.tasks p d).zero_lag) c.self.view_is (sym a.zero_lag)

pub returns-else-is_some-clause-lag : goal.returns-else-is_some-clause-lag
returns-else-is_some-clause-lag c d =
    let s = c.self.inside in
    let p = c.args.place in
    let x = c.at.result.now in
    let within = subst (λ (r : TaskTableView). p < length r.tasks) (sym c.self.view_is) c.requires.there in
    let a = seen_alike s.charges s.tasks p x d within c.at.ensures in
    subst (λ (r : TaskTableView). x.zero_lag ≡ (get_or r.tasks p d).zero_lag) c.self.view_is (sym a.zero_lag)

pub at-requires : goal.at-requires
at-requires c = grind (arith, common_steps)

bared_none : (t : Task) → t.zero_lag ≡ None → without_zero_lag t ≡ t
bared_none t e = ap (λ (o : Option ℕ). record t { zero_lag = o }) (sym e)

none_is : (o : Option ℕ) → is_some o ≡ false → o ≡ None
none_is None e = refl
none_is (Some z) e = absurd cc

pub returns-else-is_some-clause-step : goal.returns-else-is_some-clause-step
returns-else-is_some-clause-step c =
    let s = c.self.inside in
    let p = c.args.place in
    let x = c.at.result.now in
    let old = c.args.self.now.tasks in
    let within = subst (λ (r : TaskTableView). p < length r.tasks) (sym c.self.view_is) c.requires.there in
    let none : x.zero_lag ≡ None = none_is x.zero_lag (sym c.is_some.ensures ∙ c.if-is_some.false) in
    step_none old p without_zero_lag (λ d.
    bared_none (get_or old p d) (subst (λ (r : TaskTableView). (get_or r.tasks p d).zero_lag ≡ None) c.self.view_is ((seen_alike s.charges s.tasks p x d within c.at.ensures).zero_lag ∙ none)))
