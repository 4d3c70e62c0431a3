use Rattle.std.proofs.Common.{◌≡◌, ℕ, length, subst, arith, Some}
use Rattle.compare_report.specs.private.SoFar.{IsLeastSoFar, IsFirstSoFar}
use Rattle.compare_report.proofs.Firsts.{of_all}
use Rattle.compare_report.proofs.first.earliest.Goals as goal

pub returns-in-Some : goal.returns-in-Some
returns-in-Some c =
    let starts = c.args.starts.now in
    let f : ℕ × ℕ = (c.in-Some.place, c.in-Some.field-0-1) in
    let so : IsFirstSoFar starts c.loop-place.place (Some f) = subst (IsFirstSoFar starts c.loop-place.place) c.in-Some.is c.loop-place.invariant in
    let all : c.loop-place.place ≡ length starts = omega (arith, c.loop-place-test.false, c.loop-place.auto.place-end) in
    of_all starts f (subst (λ n. IsLeastSoFar starts n f) all so)
