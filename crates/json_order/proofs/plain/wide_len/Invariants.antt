use Rattle.std.proofs.Common.{◌≡◌, ◌+◌, ◌-◌, ◌≤◌, length, drop}
use Rattle.std.specs.List.{prefix_len}
use Rattle.json_order.specs.Grammar.{is_plain}
use Rattle.json_order.proofs.plain.wide_len.Given as goal

abbrev pub invariant-wide : goal.invariant-wide
invariant-wide l = record {
  within : l.len ≤ length l.bytes;
  run : prefix_len is_plain l.bytes ≡ l.len + prefix_len is_plain (drop l.len l.bytes);
}

abbrev pub decreases-wide : goal.decreases-wide
decreases-wide l = length l.bytes - l.len
