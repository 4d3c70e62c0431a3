use Rattle.std.proofs.Common.{◌≡◌, ◌+◌, ◌≤◌, length, arith, sym, subst}
use Rattle.std.specs.Prelude.{fold, take}
use Rattle.deadline_promise.specs.declared.listed.Listed.{Listed}
use Rattle.deadline_promise.specs.private.Listed.{none_listed, with_listed}
use Rattle.deadline_promise.proofs.Listing.{AreListed, listed_step, listed_is}
use Rattle.deadline_promise.proofs.listed.Listed.of.Goals as goal

pub loop-place-preserved : goal.loop-place-preserved
loop-place-preserved c =
    let at = c.loop-place.place in
    let tasks = c.args.state.now.tasks in
    let kept = listed_step tasks at c.params_at.result c.loop-place.listed c.params_at.ensures c.loop-place.invariant in
    subst (λ (l : Listed). (l ≡ fold (λ k t. with_listed k t.params) none_listed (take (at + 1) tasks)) × (l.count ≤ at + 1)) (sym c.with-listed.ensures) kept

read : (c : goal.After-loop-place) → AreListed c.loop-place.listed c.args.state.now.tasks
read c =
    let few : length c.args.state.now.tasks ≤ c.loop-place.place = omega (arith, c.now.ensures.domain.steady.listed, c.loop-place-test.false) in
    listed_is c.args.state.now.tasks c.loop-place.place c.loop-place.listed few c.loop-place.invariant.0

pub returns-clause-count : goal.returns-clause-count
returns-clause-count c = (read c).count

pub returns-clause-few : goal.returns-clause-few
returns-clause-few c = omega (arith, (read c).count, c.now.ensures.domain.steady.listed)

pub returns-clause-reclaims : goal.returns-clause-reclaims
returns-clause-reclaims c = (read c).reclaims

pub returns-clause-short : goal.returns-clause-short
returns-clause-short c = (read c).short
