use Rattle.std.proofs.Common.{◌≡◌}
use Rattle.std.specs.Prelude.{fold, take}
use Rattle.deadline_promise.specs.private.Blocking.{no_blocks, with_blocks}
use Rattle.deadline_promise.proofs.blocks.Blocks.of_phases.Given as goal

abbrev pub invariant-loop-i : goal.invariant-loop-i
invariant-loop-i l = l.blocks ≡ fold (λ b p. with_blocks b p.events) no_blocks (take l.i l.phases)
