use Rattle.std.proofs.Common.{◌+◌, sym, arith}
use Rattle.std.proofs.lemmas.Bool.{eqb-true, eq-eqb}
use Rattle.calls_text.proofs.Cuts.{cut_found, cut_missing, rest_is}
use Rattle.calls_text.proofs.cut.cut_far.Goals as goal

pub returns-in-Some : goal.returns-in-Some
returns-in-Some c =
    let found = c.in-Some.ensures in
    rw (rest_is (c.in-Some.i + 1) c.args.text.now) (sym (cut_found c.args.at c.in-Some.i c.args.text.now found.0.high (λ k lt e. found.0.before k (omega arith) lt (eq-eqb _ _ e)) (eqb-true _ _ found.1)))

pub returns-in-None : goal.returns-in-None
returns-in-None c = sym (cut_missing c.args.at c.args.text.now (λ k lt e. c.in-None.ensures k (omega arith) lt (eq-eqb _ _ e)))
