use Rattle.std.proofs.Common.{rules}
use Rattle.streamed_run.proofs.streaming.open_streamed.Goals as goal

pub returns : goal.returns
returns c = search rules
