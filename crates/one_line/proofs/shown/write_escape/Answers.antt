use Rattle.std.proofs.Output.{has_written_of_eq}
use Rattle.one_line.proofs.Escapes.{escape_written}
use Rattle.one_line.proofs.shown.write_escape.Goals as goal

pub returns : goal.returns
returns g c = λ plain ok.
    let w = c.write.ensures.writes in
    let laid = rw c.laid_out.ensures at w in
    let told = rw c.in_radix.ensures at laid in
    let laid2 = rw c.laid_out-2.ensures at told in
    let told2 = rw c.in_radix-2.ensures at laid2 in
    has_written_of_eq _ _ _ _ _ (escape_written c.args.code c.requires) (told2 plain ok)
