use Rattle.std.proofs.Common.{rules}
use Rattle.counted_io.proofs.counted.Counted.write.Goals as goal

pub returns-in-Some-clause-count : goal.returns-in-Some-clause-count
returns-in-Some-clause-count g c = search rules
