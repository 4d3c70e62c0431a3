use Rattle.std.proofs.Common.{◌≡◌, ◌+◌, ◌-◌, ◌≤◌, length, drop}
use Rattle.std.specs.List.{prefix_len}
use Rattle.json_order.specs.Grammar.{is_plain}
use Rattle.json_order.proofs.plain.plain_len.Given as goal

abbrev pub invariant-vectors : goal.invariant-vectors
invariant-vectors l = record {
  within : l.len ≤ length l.bytes;
  run : prefix_len is_plain l.bytes ≡ l.len + prefix_len is_plain (drop l.len l.bytes);
}

abbrev pub decreases-vectors : goal.decreases-vectors
decreases-vectors l = length l.bytes - l.len
