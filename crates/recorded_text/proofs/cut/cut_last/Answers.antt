use Rattle.std.proofs.Common.{◌+◌, length, sym, arith}
use Rattle.recorded_text.proofs.Cutting.{last_found, last_missing, nowhere, rest_is}
use Rattle.recorded_text.proofs.cut.cut_last.Goals as goal

pub returns-in-Some : goal.returns-in-Some
returns-in-Some c =
    let found = c.in-Some.ensures in
    rw (rest_is (c.in-Some.i + length c.args.mark.now) c.args.text.now) (sym (last_found c.args.mark.now c.args.text.now c.in-Some.i c.requires (λ j l h. found.0.after j (omega (arith, l)) (omega (arith, h.fits)) h) found.1))

pub returns-in-None : goal.returns-in-None
returns-in-None c = sym (last_missing c.args.mark.now c.args.text.now c.requires (nowhere c.args.text.now c.args.mark.now c.in-None.ensures))
