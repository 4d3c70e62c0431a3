use Rattle.std.proofs.Common.{◌+◌, ◌≤◌, List, ℕ, ◌++◌, map, length}
use Rattle.recorded_text.specs.Names.{Grows}
use Rattle.recorded_text.specs.Steps.{step_view, AreNamed}
use Rattle.recorded_text.specs.private.SoFar.{Lacks, IsReadSoFar, BringsOn}
use Rattle.recorded_text.proofs.reading.take_piece.Given as goal

abbrev pub invariant-loop-i : goal.invariant-loop-i
invariant-loop-i l = record {
  so_far : (whole after : List ℕ) → IsReadSoFar whole ((l.initial.rest.items ++ l.piece) ++ after) l.initial.lines (map (step_view l.initial.names) l.initial.steps.items)
      → IsReadSoFar whole ((l.rest.items ++ l.left) ++ after) l.lines (map (step_view l.names) l.steps.items);
  called : (first : List (List ℕ)) → BringsOn first l.initial.names (map (step_view l.initial.names) l.initial.steps.items)
      → BringsOn first l.names (map (step_view l.names) l.steps.items);
  lacks : Lacks 10 l.rest.items;
  named : AreNamed l.names l.steps.items;
  few : l.lines + length l.left ≤ l.initial.lines + length l.piece;
  grows : Grows l.initial.names l.names;
}

abbrev pub decreases-loop-i : goal.decreases-loop-i
decreases-loop-i l = length l.left
