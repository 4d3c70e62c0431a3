use Rattle.std.proofs.lemmas.List.{take-replicate}
use Rattle.switch_text.proofs.piece.ShortPiece.spaces.Goals as goal

pub returns : goal.returns
returns c = take-replicate c.args.times 32 32 c.requires
