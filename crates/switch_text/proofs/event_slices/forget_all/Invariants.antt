use Rattle.std.proofs.Common.{◌≡◌, map}
use Rattle.switch_text.proofs.EventFronts.{HaveForgottenLogged}
use Rattle.switch_text.proofs.event_slices.forget_all.Given as goal

abbrev pub invariant-runs : goal.invariant-runs
invariant-runs g l = record {
  forgotten : HaveForgottenLogged l.cut l.slice-index (map g.S.EventSlices.sliced l.fn.slices) (map g.S.EventSlices.sliced l.slices);
  kept : map g.S.EventSlices.kept l.slices ≡ map g.S.EventSlices.kept l.fn.slices;
}
