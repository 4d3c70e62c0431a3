use Rattle.std.proofs.Common.{rules}
use Rattle.switch_text.proofs.lines.letters.Goals as goal

pub returns-in-Preempted : goal.returns-in-Preempted
returns-in-Preempted c = search rules
