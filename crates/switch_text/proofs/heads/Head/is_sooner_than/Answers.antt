use Rattle.std.proofs.Common.{rules}
use Rattle.switch_text.proofs.heads.Head.is_sooner_than.Goals as goal

pub returns : goal.returns
returns c = search rules
