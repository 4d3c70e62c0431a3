use Rattle.std.proofs.Common.{◌≡◌, length, take, map}
use Rattle.bw_gate.specs.Word.{first_word}
use Rattle.bw_gate.proofs.terms.first_words.Given as goal

-- so many words are written
abbrev pub invariant-loop-i : goal.invariant-loop-i
invariant-loop-i l = (length l.row ≡ 8) × (take l.i l.row ≡ map first_word (take l.i l.rooms))
