use Rattle.std.proofs.Common.{◌≡◌, ℕ, ◌+◌, ◌<◌, Option, List, length, map, take, set, refl, sym, subst, ◌∙◌, arith}
use Rattle.std.specs.Prelude.{All, IsTrue}
use Rattle.domain_run.specs.declared.happened.Happened.{Happened}
use Rattle.switch_text.specs.LoggedLine.{has_line}
use Rattle.switch_text.specs.private.Sliced.{earlier_of}
use Rattle.switch_text.specs.private.EventSlicing.{AreEventsCutAt}
use Rattle.switch_text.proofs.EventRounds.{IsFilledUp, AreEventsCutAt-start, AreEventsCutAt-more}
use Rattle.switch_text.proofs.EventFronts.{logged_runs_set}
use Rattle.switch_text.proofs.SliceFronts.{kept_set, taken_set, taken_all}
use Rattle.switch_text.proofs.event_slices.fill_all.Goals as goal

pub runs-init : goal.runs-init
runs-init g c = record { whole = refl; cut = AreEventsCutAt-start; kept = refl }

pub runs-preserved : goal.runs-preserved
runs-preserved g c =
    let f = g.S.EventSlices.sliced in
    let i = c.runs.slice-index in
    let xs = c.runs.slices in
    let y = c.fill-made.new.self in
    let next = c.fill-made.result in
    let lines = subst (λ (hs : List Happened). All (λ h. IsTrue (has_line h.what)) hs) c.logged.ensures.happened c.logged.ensures.lines in
    let e = c.fill-made.ensures in
    let filled : IsFilledUp next (f y) = record { none = e.none; some = e.some; past = e.past; logged = e.logged; later = e.later; unlogged = e.unlogged; lines = lines } in
    let inside : i < length xs = omega (arith, c.runs-test.true, c.runs.auto.slices) in
    record {
      whole = logged_runs_set f xs i y _ e.whole ∙ c.runs.invariant.whole;
      cut = subst (λ (k : Option ℕ). AreEventsCutAt k (take (i + 1) (map f (set xs i y)))) (sym c.earlier-cut.ensures)
          (subst (AreEventsCutAt (earlier_of c.runs.cut next)) (sym (taken_set f xs i y inside)) (AreEventsCutAt-more c.runs.cut next (take i (map f xs)) (f y) c.runs.invariant.cut filled));
      kept = kept_set g.S.EventSlices.kept xs i y _ e.kept ∙ c.runs.invariant.kept;
    }

pub returns : goal.returns
returns g c =
    let f = g.S.EventSlices.sliced in
    let xs = c.runs.slices in
    record {
      whole = c.runs.invariant.whole;
      cut = subst (AreEventsCutAt c.runs.cut) (taken_all f xs c.runs.slice-index (omega (arith, c.runs-test.false, c.runs.auto.slices))) c.runs.invariant.cut;
      kept = c.runs.invariant.kept;
    }
