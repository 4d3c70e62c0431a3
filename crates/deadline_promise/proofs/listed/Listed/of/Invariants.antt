use Rattle.std.proofs.Common.{◌≡◌, ◌≤◌}
use Rattle.std.specs.Prelude.{fold, take}
use Rattle.deadline_promise.specs.private.Listed.{none_listed, with_listed}
use Rattle.deadline_promise.proofs.listed.Listed.of.Given as goal

abbrev pub invariant-loop-place : goal.invariant-loop-place
invariant-loop-place l =
    (l.listed ≡ fold (λ k t. with_listed k t.params) none_listed (take l.place l.state.tasks)) × (l.listed.count ≤ l.place)
