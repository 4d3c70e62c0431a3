use Rattle.std.proofs.Common.{rules}
use Rattle.domain_run.proofs.switch.Switch.prev.Goals as goal

pub returns-in-PreemptedToIdle : goal.returns-in-PreemptedToIdle
returns-in-PreemptedToIdle c = search rules
