use Rattle.std.proofs.Common.{[], length, ap, arith}
use Rattle.std.proofs.lemmas.Result.{err_from_is_err_and}
use Rattle.calls_text.specs.private.Reading.{number_within_at}
use Rattle.calls_text.proofs.Numbers.{none_by, within_front, within_by, bad_within}
use Rattle.calls_text.proofs.number.number_within.Goals as goal

pub returns-in_err-n-clause-gives : goal.returns-in_err-n-clause-gives
returns-in_err-n-clause-gives c =
    let p = err_from_is_err_and c.from_residual.result c.from_residual.ensures.1 in
    rw (p.1, p.2) (bad_within c.args.least c.args.most c.args.text.now c.in_err-n.field-0.0 (λ n is. c.in_err-n.ensures.found n [] is tt))

pub returns-in_default-empty-clause-gives : goal.returns-in_default-empty-clause-gives
returns-in_default-empty-clause-gives c =
    within_by c.args.least c.args.most c.args.text.now c.in_ok-n.field-0.0 c.in_ok-n.field-0.1.now c.requires c.in_default-empty.len_below c.in_ok-n.ensures.spelled

pub returns-in_default-clause-gives : goal.returns-in_default-clause-gives
returns-in_default-clause-gives c =
    none_by (number_within_at c.args.least c.args.most c.args.text.now) (λ n h.
    let found = (c.in_ok-n.ensures.found n [] (within_front c.args.least c.args.most c.args.text.now n h) tt).1 in
    omega (arith, ap length found, c.in_default.len_at_least))
