use Rattle.std.proofs.Common.{◌≡◌, ℕ, suc, ◌+◌, ◌<◌, ◌≤◌, length, map, set, refl, subst, ◌∙◌, arith}
use Rattle.std.proofs.lemmas.List.{length-map}
use Rattle.switch_text.proofs.SliceFronts.{kept_set}
use Rattle.switch_text.proofs.EventFronts.{HaveForgottenLogged, logged_forgotten_none, logged_forgotten_more, logged_forgotten_left}
use Rattle.switch_text.proofs.event_slices.forget_all.Goals as goal

pub runs-init : goal.runs-init
runs-init g c = record { forgotten = logged_forgotten_none c.args.cut (map g.S.EventSlices.sliced c.args.slices.now); kept = refl }

pub runs-preserved : goal.runs-preserved
runs-preserved g c =
    let f = g.S.EventSlices.sliced in
    let i = c.runs.slice-index in
    let xs = c.runs.slices in
    let y = c.forget_before.new.slices in
    let olds = c.args.slices.now in
    let inside : i < length xs = omega (arith, c.runs-test.true, c.runs.auto.slices) in
    let next : suc i ≡ i + 1 = omega arith in
    record {
      forgotten = subst (λ (k : ℕ). HaveForgottenLogged c.args.cut k (map f olds) (map f (set xs i y))) next
          (logged_forgotten_more f c.args.cut i olds xs y _ c.runs.invariant.forgotten inside c.forget_before.ensures.left);
      kept = kept_set g.S.EventSlices.kept xs i y _ c.forget_before.ensures.kept ∙ c.runs.invariant.kept;
    }

pub returns-clause-left : goal.returns-clause-left
returns-clause-left g c =
    let f = g.S.EventSlices.sliced in
    let olds = c.args.slices.now in
    let done : length (map f olds) ≤ c.runs.slice-index = omega (arith, length-map olds f, c.runs-test.false) in
    logged_forgotten_left c.args.cut c.runs.slice-index (map f olds) (map f c.runs.slices) done c.runs.invariant.forgotten
