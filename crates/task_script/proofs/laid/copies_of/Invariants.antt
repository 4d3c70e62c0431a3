use Rattle.std.proofs.Common.{◌≡◌, ◌≤◌, length, take, vec_capacity}
use Rattle.task_script.proofs.laid.copies_of.Given as goal

abbrev pub invariant-loop-phase : goal.invariant-loop-phase
invariant-loop-phase l = (l.copies.items ≡ take l.phase-index l.phases) × (length l.phases ≤ vec_capacity l.copies)
