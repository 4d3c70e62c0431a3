use Rattle.std.proofs.Common.{take, ap, ◌∙◌}
use Rattle.std.proofs.lemmas.List.{take-take}
use Rattle.switch_text.proofs.piece.ShortPiece.front.Goals as goal

pub returns : goal.returns
returns c = ap (take c.args.len) c.copy_from_slice.ensures.after ∙ take-take c.args.len 32 c.args.text.now c.requires
