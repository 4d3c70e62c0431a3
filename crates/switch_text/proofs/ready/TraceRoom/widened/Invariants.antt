use Rattle.std.proofs.Common.{◌≤◌, ◌-◌, length}
use Rattle.std.specs.Prelude.{vec_capacity}
use Rattle.switch_text.specs.private.Ready.{AreEnough, AreNobodys}
use Rattle.switch_text.proofs.ready.TraceRoom.widened.Given as goal

abbrev pub invariant-loop-slots : goal.invariant-loop-slots
invariant-loop-slots l =
    AreEnough l.slots.items × AreNobodys l.slots.items × (2176 ≤ vec_capacity l.slots)

abbrev pub decreases-loop-slots : goal.decreases-loop-slots
decreases-loop-slots l = 2176 - length l.slots.items
