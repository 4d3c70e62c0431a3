use Rattle.std.proofs.Common.{◌≡◌, map}
use Rattle.switch_text.proofs.SliceFronts.{HaveForgotten}
use Rattle.switch_text.proofs.slices.forget_all.Given as goal

abbrev pub invariant-runs : goal.invariant-runs
invariant-runs g l = record {
  forgotten : HaveForgotten l.cut l.slice-index (map g.S.Slices.sliced l.fn.slices) (map g.S.Slices.sliced l.slices);
  kept : map g.S.Slices.kept l.slices ≡ map g.S.Slices.kept l.fn.slices;
}
