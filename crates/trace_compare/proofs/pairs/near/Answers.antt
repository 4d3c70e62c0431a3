use Rattle.std.proofs.Common.{rules}
use Rattle.trace_compare.proofs.pairs.near.Goals as goal

pub returns-then-a-b : goal.returns-then-a-b
returns-then-a-b c = search rules
