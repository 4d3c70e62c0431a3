use Rattle.std.proofs.Common.{All}
use Rattle.trace_compare.specs.Matched.{IsSoundMatching}
use Rattle.trace_compare.specs.Compared.{AreMatched}
use Rattle.trace_compare.proofs.comparing.match_all.Given as goal

abbrev pub invariant-loop-j : goal.invariant-loop-j
invariant-loop-j l = record {
  matched : AreMatched l.within l.shift l.tasks l.j l.matchings.items;
  sound : All IsSoundMatching l.matchings.items;
}
