use Rattle.std.proofs.Common.{◌≡◌, ◌≤◌, ◌-◌, Some, length, take}
use Rattle.json_order.specs.private.AtOnce.{parts_after}
use Rattle.json_order.proofs.taking.number_run.Given as goal

abbrev pub invariant-parts : goal.invariant-parts
invariant-parts l = record {
  within : l.len ≤ length l.bytes;
  read : parts_after l.fn.part (take l.len l.bytes) ≡ Some l.read;
}

abbrev pub decreases-parts : goal.decreases-parts
decreases-parts l = length l.bytes - l.len
