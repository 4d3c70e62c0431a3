use Rattle.std.proofs.Common.{◌≡◌, map, take}
use Rattle.switch_text.specs.SlicedEvents.{logged_runs}
use Rattle.switch_text.specs.private.EventSlicing.{AreEventsCutAt}
use Rattle.switch_text.proofs.event_slices.fill_all.Given as goal

abbrev pub invariant-runs : goal.invariant-runs
invariant-runs g l = record {
  whole : logged_runs (map g.S.EventSlices.sliced l.slices) ≡ logged_runs (map g.S.EventSlices.sliced l.fn.slices);
  cut : AreEventsCutAt l.cut (take l.slice-index (map g.S.EventSlices.sliced l.slices));
  kept : map g.S.EventSlices.kept l.slices ≡ map g.S.EventSlices.kept l.fn.slices;
}
