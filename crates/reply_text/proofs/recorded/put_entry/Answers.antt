use Rattle.std.proofs.Common.{rules}
use Rattle.reply_text.proofs.recorded.put_entry.Goals as goal

pub returns-in-Some : goal.returns-in-Some
returns-in-Some c = search rules
