use Rattle.std.proofs.Common.{ℕ, ◌+◌, ◌<◌, Option, length, map, take, set, refl, sym, subst, ◌∙◌, arith}
use Rattle.switch_text.specs.private.Sliced.{AreCutAt, earlier_of}
use Rattle.switch_text.proofs.Slicing.{IsFilled, AreCutAt-start, AreCutAt-more}
use Rattle.switch_text.proofs.SliceFronts.{wholes_set, kept_set, taken_set, taken_all}
use Rattle.switch_text.proofs.slices.fill_all.Goals as goal

pub runs-init : goal.runs-init
runs-init g c = record { whole = refl; cut = AreCutAt-start; kept = refl }

pub runs-preserved : goal.runs-preserved
runs-preserved g c =
    let f = g.S.Slices.sliced in
    let i = c.runs.slice-index in
    let xs = c.runs.slices in
    let y = c.fill.new.self in
    let next = c.fill.result in
    let filled : IsFilled next (f y) = record { none = c.fill.ensures.none; some = c.fill.ensures.some; past = c.fill.ensures.past; later = c.fill.ensures.later } in
    let inside : i < length xs = omega (arith, c.runs-test.true, c.runs.auto.slices) in
    record {
      whole = wholes_set f xs i y _ c.fill.ensures.whole ∙ c.runs.invariant.whole;
      cut = subst (λ (k : Option ℕ). AreCutAt k (take (i + 1) (map f (set xs i y)))) (sym c.earlier-cut.ensures)
          (subst (AreCutAt (earlier_of c.runs.cut next)) (sym (taken_set f xs i y inside)) (AreCutAt-more c.runs.cut next (take i (map f xs)) (f y) c.runs.invariant.cut filled));
      kept = kept_set g.S.Slices.kept xs i y _ c.fill.ensures.kept ∙ c.runs.invariant.kept;
    }

pub returns : goal.returns
returns g c =
    let f = g.S.Slices.sliced in
    let xs = c.runs.slices in
    record {
      whole = c.runs.invariant.whole;
      cut = subst (AreCutAt c.runs.cut) (taken_all f xs c.runs.slice-index (omega (arith, c.runs-test.false, c.runs.auto.slices))) c.runs.invariant.cut;
      kept = c.runs.invariant.kept;
    }
