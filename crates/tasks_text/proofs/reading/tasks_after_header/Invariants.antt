use Rattle.std.proofs.Common.{◌≡◌, ◌++◌, ◌+◌, codes, length}
use Rattle.tasks_text.specs.private.SoFar.{IsReadTo}
use Rattle.tasks_text.proofs.reading.tasks_after_header.Given as goal

abbrev pub invariant-loop-rest : goal.invariant-loop-rest
invariant-loop-rest l = record {
  read : IsReadTo (codes "dltasks 1\n" ++ l.text) l.rest l.tasks.items;
  place : l.line ≡ length l.tasks.items + 2;
}

abbrev pub decreases-loop-rest : goal.decreases-loop-rest
decreases-loop-rest l = length l.rest
