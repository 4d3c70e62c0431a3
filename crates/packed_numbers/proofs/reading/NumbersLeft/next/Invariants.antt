use Rattle.std.proofs.Common.{◌≡◌, drop}
use Rattle.packed_numbers.specs.private.Groups.{read_of}
use Rattle.packed_numbers.proofs.Rest.{from}
use Rattle.packed_numbers.proofs.reading.NumbersLeft.next.Given as goal

-- the bytes so far are the first groups of the next number
abbrev pub invariant-loop-at : goal.invariant-loop-at
invariant-loop-at l = record {
  groups : from l.part (drop l.at l.bytes) ≡ read_of l.bytes;
  same : l.self-inside.bytes.now ≡ l.bytes;
}
