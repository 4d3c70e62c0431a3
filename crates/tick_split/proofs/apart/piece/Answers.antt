use Rattle.std.proofs.Common.{rules}
use Rattle.tick_split.proofs.apart.piece.Goals as goal

pub returns : goal.returns
returns g c = search rules
