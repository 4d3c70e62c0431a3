use Rattle.std.proofs.Common.{◌≡◌, ◌++◌, map, take, drop, length}
use Rattle.tick_split.specs.Pieces.{piece_start}
use Rattle.tick_split.proofs.workers.put_back.Given as goal

abbrev pub invariant-loop-k : goal.invariant-loop-k
invariant-loop-k g l =
    let at = piece_start l.k (length l.parts) (length l.initial.items) in
    l.items ≡ map g.W.Work.done (take at l.initial.items) ++ drop at l.initial.items
