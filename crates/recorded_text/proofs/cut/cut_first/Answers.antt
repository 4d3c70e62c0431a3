use Rattle.std.proofs.Common.{◌+◌, length, sym, arith}
use Rattle.recorded_text.proofs.Cutting.{first_found, first_missing, nowhere, rest_is}
use Rattle.recorded_text.proofs.cut.cut_first.Goals as goal

pub returns-in-Some : goal.returns-in-Some
returns-in-Some c =
    let found = c.in-Some.ensures in
    rw (rest_is (c.in-Some.i + length c.args.mark.now) c.args.text.now) (sym (first_found c.args.mark.now c.args.text.now c.in-Some.i c.requires (λ j l h. found.0.before j (omega arith) l h) found.1))

pub returns-in-None : goal.returns-in-None
returns-in-None c = sym (first_missing c.args.mark.now c.args.text.now c.requires (nowhere c.args.text.now c.args.mark.now c.in-None.ensures))
