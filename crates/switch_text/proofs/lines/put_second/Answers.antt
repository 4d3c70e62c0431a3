use Rattle.std.proofs.Common.{length, ap, arith}
use Rattle.std.specs.Prelude.{codes, decimal}
use Rattle.std.proofs.lemmas.List.{length-append}
use Rattle.draft.specs.Columns.{right}
use Rattle.switch_text.proofs.Room.{length-second_part}
use Rattle.switch_text.proofs.lines.put_second.Goals as goal

pub returns-clause-short : goal.returns-clause-short
returns-clause-short c = omega (arith, length-second_part c.args.second c.requires.small, ap (λ ds. length (right 5 ds)) c.decimal_piece.ensures, length-append (right 5 (decimal c.args.second)) (codes "."))
