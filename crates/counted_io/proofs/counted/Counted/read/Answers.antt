use Rattle.std.proofs.Common.{rules}
use Rattle.counted_io.proofs.counted.Counted.read.Goals as goal

pub returns-then-is_none-clause-asked : goal.returns-then-is_none-clause-asked
returns-then-is_none-clause-asked g c = search rules

pub returns-else-is_none-clause-asked : goal.returns-else-is_none-clause-asked
returns-else-is_none-clause-asked g c = search rules
