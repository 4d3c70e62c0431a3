use Rattle.std.proofs.Common.{rules}
use Rattle.streamed_run.proofs.streaming.stream.Goals as goal

pub returns-clause-empty : goal.returns-clause-empty
returns-clause-empty c = search rules

pub returns-clause-streamed : goal.returns-clause-streamed
returns-clause-streamed c = search rules
