use Rattle.std.proofs.Common.{length, map, ◌≡◌, ◌≤◌, ◌+◌, false, cond, All, []}
use Rattle.counted_io.specs.Sides.{inner_of}
use Rattle.switch_text.specs.SlicedTrace.{wholes, all_entries, AreEndsOf}
use Rattle.switch_text.specs.private.Ready.{AreEnough, IsSlot, IsTexts}
use Rattle.switch_text.specs.private.Sliced.{IsSlicing, names_by}
use Rattle.switch_text.proofs.slices.write_rounds.Given as goal

abbrev pub invariant-rounds : goal.invariant-rounds
invariant-rounds g l = record {
  slicing : IsSlicing (g.W.Write.contents (inner_of l.fn.writer)) (g.W.Write.contents (inner_of l.writer)) (wholes (map g.S.Slices.sliced l.fn.slices)) (wholes (map g.S.Slices.sliced l.slices)) l.written l.batch;
  left : AreEndsOf (wholes (map g.S.Slices.sliced l.fn.slices)) (wholes (map g.S.Slices.sliced l.slices));
  last : l.has_more ≡ false → all_entries (wholes (map g.S.Slices.sliced l.slices)) ≡ [];
  few : length l.slices ≤ 8;
  room : length l.batch ≤ 65536;
  many : AreEnough l.slots;
  slots : All (IsSlot (names_by (wholes (map g.S.Slices.sliced l.slices)))) l.slots;
  texts : IsTexts l.texts;
  kept : map g.S.Slices.kept l.slices ≡ map g.S.Slices.kept l.fn.slices;
  faults : l.writer.faults ≡ l.fn.writer.faults;
}

abbrev pub ghost-send_fronts : goal.ghost-send_fronts
ghost-send_fronts g a = names_by (wholes (map g.S.Slices.sliced a.slices.now))

abbrev pub decreases-rounds : goal.decreases-rounds
decreases-rounds g l = length (all_entries (wholes (map g.S.Slices.sliced l.slices))) + cond l.has_more 1 0
