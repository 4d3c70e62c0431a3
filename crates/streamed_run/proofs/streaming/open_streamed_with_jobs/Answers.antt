use Rattle.std.proofs.Common.{rules}
use Rattle.streamed_run.proofs.streaming.open_streamed_with_jobs.Goals as goal

pub returns : goal.returns
returns c = search rules
