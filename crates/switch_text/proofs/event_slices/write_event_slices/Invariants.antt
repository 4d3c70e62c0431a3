use Rattle.std.proofs.Common.{length, map, ◌≡◌, ◌≤◌, ◌+◌, false, cond, All, []}
use Rattle.counted_io.specs.Sides.{inner_of}
use Rattle.switch_text.specs.SlicedEvents.{logged_runs, events_in}
use Rattle.switch_text.specs.private.Ready.{AreEnough, IsSlot, IsTexts}
use Rattle.switch_text.specs.private.EventSlicing.{IsSlicingEvents, names_logged_by}
use Rattle.switch_text.proofs.event_slices.write_event_slices.Given as goal

abbrev pub invariant-rounds : goal.invariant-rounds
invariant-rounds g l = record {
  slicing : IsSlicingEvents (g.W.Write.contents (inner_of l.fn.writer)) (g.W.Write.contents (inner_of l.writer)) (logged_runs (map g.S.EventSlices.sliced l.fn.slices)) (logged_runs (map g.S.EventSlices.sliced l.slices)) l.written l.batch;
  last : l.has_more ≡ false → events_in (logged_runs (map g.S.EventSlices.sliced l.slices)) ≡ [];
  few : length l.slices ≤ 8;
  room : length l.batch ≤ 65536;
  many : AreEnough l.slots;
  slots : All (IsSlot (names_logged_by (logged_runs (map g.S.EventSlices.sliced l.slices)))) l.slots;
  texts : IsTexts l.texts;
  kept : map g.S.EventSlices.kept l.slices ≡ map g.S.EventSlices.kept l.fn.slices;
  faults : l.writer.faults ≡ l.fn.writer.faults;
}

abbrev pub ghost-send_fronts : goal.ghost-send_fronts
ghost-send_fronts g a = names_logged_by (logged_runs (map g.S.EventSlices.sliced a.slices.now))

abbrev pub decreases-rounds : goal.decreases-rounds
decreases-rounds g l = length (events_in (logged_runs (map g.S.EventSlices.sliced l.slices))) + cond l.has_more 1 0
