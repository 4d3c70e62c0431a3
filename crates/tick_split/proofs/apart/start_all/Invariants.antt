use Rattle.std.proofs.Common.{◌≡◌, ℕ, ◌<◌, get_or, vec_len, vec_capacity}
use Rattle.tick_split.specs.Pieces.{piece_of}
use Rattle.tick_split.proofs.apart.start_all.Given as goal

abbrev pub invariant-loop-k : goal.invariant-loop-k
invariant-loop-k g l = record {
  len : vec_len l.workers ≡ l.k;
  room : vec_capacity l.workers ≡ l.pieces;
  each : (k : ℕ) (d : _) → k < l.k → (get_or l.workers.items k d).promise.0.value.items ≡ piece_of k l.pieces l.items;
}
