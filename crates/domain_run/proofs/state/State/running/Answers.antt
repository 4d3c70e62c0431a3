use Rattle.std.proofs.Common.{◌<◌, ◌≤◌, ◌^◌, length, sym, ap, subst, ◌∙◌, arith}
use Rattle.std.specs.Prelude.{pos, ◌<ℤ◌, ◌≤ℤ◌, IfSome, is_some}
use Rattle.std.proofs.lemmas.Grind.{common_steps}
use Rattle.domain_run.specs.declared.running.Running.{Running}
use Rattle.domain_run.specs.Domain.{Domain}
use Rattle.domain_run.specs.Jump.{running_numbers, running}
use Rattle.domain_run.proofs.Runners.{runner_now, few_now}
use Rattle.domain_run.proofs.state.State.running.Goals as goal

pub returns-in_default-clause-few : goal.returns-in_default-clause-few
returns-in_default-clause-few c = few_now c.self.view_is c.self.invariant.domain.steady

pub returns-clause-few : goal.returns-clause-few
returns-clause-few c = few_now c.self.view_is c.self.invariant.domain.steady

pub returns-clause-running : goal.returns-clause-running
returns-clause-running c =
    let is = runner_now c.self.view_is c.self.invariant.domain.steady c.requires.placed (ap running_numbers c.occupants-places.ensures.occupants) c.in-Some.ensures c.runner.ensures in
    sym is.same ∙ ap (λ (x : Domain). running x c.args.i) c.self.view_is

pub returns-clause-there : goal.returns-clause-there
returns-clause-there c =
    let is = runner_now c.self.view_is c.self.invariant.domain.steady c.requires.placed (ap running_numbers c.occupants-places.ensures.occupants) c.in-Some.ensures c.runner.ensures in
    (λ h. subst (λ (x : Domain). c.args.i < length (running_numbers x.curr)) c.self.view_is is.there, λ h. ap is_some is.is)

pub returns-clause-some : goal.returns-clause-some
returns-clause-some c =
    let is = runner_now c.self.view_is c.self.invariant.domain.steady c.requires.placed (ap running_numbers c.occupants-places.ensures.occupants) c.in-Some.ensures c.runner.ensures in
    subst (λ o. IfSome o (λ (x : Running). 0 < x.work)) (sym is.is) is.busy

pub returns-clause-lifted : goal.returns-clause-lifted
returns-clause-lifted c =
    let is = runner_now c.self.view_is c.self.invariant.domain.steady c.requires.placed (ap running_numbers c.occupants-places.ensures.occupants) c.in-Some.ensures c.runner.ensures in
    subst (λ o. IfSome o (λ (x : Running). pos 0 <ℤ x.left)) (sym is.is) is.lifted

pub returns-clause-high : goal.returns-clause-high
returns-clause-high c =
    let is = runner_now c.self.view_is c.self.invariant.domain.steady c.requires.placed (ap running_numbers c.occupants-places.ensures.occupants) c.in-Some.ensures c.runner.ensures in
    subst (λ o. IfSome o (λ (x : Running). x.left ≤ℤ pos (2 ^ 52))) (sym is.is) is.high

pub returns-clause-short : goal.returns-clause-short
returns-clause-short c =
    let is = runner_now c.self.view_is c.self.invariant.domain.steady c.requires.placed (ap running_numbers c.occupants-places.ensures.occupants) c.in-Some.ensures c.runner.ensures in
    subst (λ o. IfSome o (λ (x : Running). x.uinact ≤ 2 ^ 26)) (sym is.is) is.short

pub running_at-requires : goal.running_at-requires
running_at-requires c listed = c.deref.ensures.value ∙ c.self.invariant.running_is listed ∙ ap running_numbers (sym c.occupants-places.ensures.occupants)

pub returns-in_default-clause-running : goal.returns-in_default-clause-running
returns-in_default-clause-running c = grind (arith, common_steps)

pub returns-in_default-clause-some : goal.returns-in_default-clause-some
returns-in_default-clause-some c = grind (arith, common_steps)

pub returns-in_default-clause-lifted : goal.returns-in_default-clause-lifted
returns-in_default-clause-lifted c = grind (arith, common_steps)

pub returns-in_default-clause-short : goal.returns-in_default-clause-short
returns-in_default-clause-short c = grind (arith, common_steps)

pub returns-in_default-clause-high : goal.returns-in_default-clause-high
returns-in_default-clause-high c = grind (arith, common_steps)

pub runner-requires : goal.runner-requires
runner-requires c = grind (arith, common_steps)
