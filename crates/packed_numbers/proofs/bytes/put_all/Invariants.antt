use Rattle.std.proofs.Common.{◌≡◌, ◌≤◌, ◌+◌, ◌*◌, ◌-◌, ◌++◌, take, length}
use Rattle.std.specs.Prelude.{vec_len, vec_capacity}
use Rattle.packed_numbers.specs.private.Groups.{read_of, IsReadWhole}
use Rattle.packed_numbers.proofs.bytes.put_all.Given as goal

-- those so far are put, and there is room for the others
abbrev pub invariant-loop-number : goal.invariant-loop-number
invariant-loop-number l = record {
  numbers : (read_of l.bytes.items).numbers ≡ (read_of l.initial.bytes.items).numbers ++ take l.number-index l.numbers;
  whole : IsReadWhole (read_of l.bytes.items);
  room : vec_len l.bytes + 10 * (length l.numbers - l.number-index) ≤ vec_capacity l.bytes;
}
