-- Short texts that are kept ready.
use Rattle.std.specs.Prelude.{ℕ, List, take}
use Rattle.switch_text.specs.declared.piece.Piece.{Piece}
use Rattle.switch_text.specs.declared.piece.ShortPiece.{ShortPiece}

abbrev pub piece_text : Piece → List ℕ
piece_text p = take p.len p.bytes

abbrev pub short_text_of : ShortPiece → List ℕ
short_text_of p = take p.len p.bytes
