use Rattle.std.proofs.Common.{ℕ, ◌≡◌, ◌<◌, length, get_or}
use Rattle.switch_text.specs.declared.run.Run.{Run}
use Rattle.switch_text.specs.private.Sliced.{IsFront}
use Rattle.switch_text.specs.private.EventSlicing.{switches_part}
use Rattle.switch_text.proofs.event_slices.run_fronts.Given as goal

abbrev pub invariant-runs : goal.invariant-runs
invariant-runs g l = record {
  long : length l.runs ≡ 8;
  are : (k : ℕ) (s : g.row.S.Denot) (r : Run) → k < l.i → IsFront l.cut (switches_part (g.S.EventSlices.sliced (get_or l.slices k s))) (get_or l.runs k r);
}
