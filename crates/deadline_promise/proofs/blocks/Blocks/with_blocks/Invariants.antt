use Rattle.std.proofs.Common.{◌≡◌}
use Rattle.std.specs.Prelude.{fold, take}
use Rattle.deadline_promise.specs.private.Blocking.{with_block}
use Rattle.deadline_promise.proofs.blocks.Blocks.with_blocks.Given as goal

abbrev pub invariant-loop-i : goal.invariant-loop-i
invariant-loop-i l = l.blocks ≡ fold with_block l.fn.self (take l.i l.events)
