use Rattle.std.proofs.Common.{◌≡◌, ◌≤◌, All, decimal, map, length, take}
use Rattle.std.specs.List.{slice_split}
use Rattle.std.specs.Vec.{vec_capacity}
use Rattle.domain_run.specs.Domain.{IsCpus}
use Rattle.run_options.specs.Words.{is_comma}
use Rattle.run_options.proofs.words.read_list.Given as goal

-- what was read is the pieces so far
abbrev pub invariant-loop-piece : goal.invariant-loop-piece
invariant-loop-piece l = record {
  told : map decimal l.list.items ≡ take l.piece-index (slice_split is_comma l.fn.text);
  range : All IsCpus l.list.items;
  count : length l.list.items ≡ l.piece-index;
  capacity : 8 ≤ vec_capacity l.list;
}
