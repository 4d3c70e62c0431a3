use Rattle.std.proofs.Common.{◌≡◌, map, take}
use Rattle.switch_text.specs.SlicedTrace.{wholes}
use Rattle.switch_text.specs.private.Sliced.{AreCutAt}
use Rattle.switch_text.proofs.slices.fill_all.Given as goal

abbrev pub invariant-runs : goal.invariant-runs
invariant-runs g l = record {
  whole : wholes (map g.S.Slices.sliced l.slices) ≡ wholes (map g.S.Slices.sliced l.fn.slices);
  cut : AreCutAt l.cut (take l.slice-index (map g.S.Slices.sliced l.slices));
  kept : map g.S.Slices.kept l.slices ≡ map g.S.Slices.kept l.fn.slices;
}
