use Rattle.std.proofs.Common.{◌≡◌, ◌+◌, drop}
use Rattle.recorded_jobs.specs.private.Groups.{group_len}
use Rattle.recorded_jobs.proofs.cutting.group_len.Given as goal

abbrev pub invariant-loop-i : goal.invariant-loop-i
invariant-loop-i l = group_len l.stretches ≡ l.i + group_len (drop l.i l.stretches)
