use Rattle.std.proofs.Common.{◌≡◌, ◌++◌, length, take, take-take, ap, ◌∙◌, arith}
use Rattle.std.proofs.lemmas.List.{length-take-le}
use Rattle.switch_text.proofs.Overhang.{take-put_chunk_front}
use Rattle.switch_text.proofs.piece.ShortPiece.put.Goals as goal

pub returns-clause-text : goal.returns-clause-text
returns-clause-text c =
    let at = c.args.at in
    let out = c.args.out.now in
    let piece = c.args.self.now in
    let front = take 32 piece.bytes in
    let long : length front ≡ 32 = length-take-le 32 piece.bytes (omega arith) in
    take-put_chunk_front at piece.len out front (omega (arith, piece.short)) (omega arith)
    ∙ ap (λ ys. take at out ++ ys) (take-take piece.len 32 piece.bytes piece.short)
