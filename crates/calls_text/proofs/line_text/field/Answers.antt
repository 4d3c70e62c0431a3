use Rattle.std.proofs.Common.{◌≡◌, ◌-◌, ◌∷◌, ℕ, List, length, take, drop, get_or, refl, ap, arith}
use Rattle.std.proofs.lemmas.Result.{err_from_is_err_and}
use Rattle.calls_text.specs.private.Reading.{field_at}
use Rattle.calls_text.proofs.Numbers.{none_by}
use Rattle.calls_text.proofs.Cuts.{front_byte}
use Rattle.calls_text.proofs.Lines.{bad_field, field_front, front_field}
use Rattle.calls_text.proofs.line_text.field.Goals as goal
use Rattle.calls_text.proofs.line_text.field.Goals.{in_default-via-then-branch-lt1, in_default-via-else-branch-lt1+in_default-1}

pub returns-in_err-number_first-clause-gives : goal.returns-in_err-number_first-clause-gives
returns-in_err-number_first-clause-gives c =
    let p = err_from_is_err_and c.from_residual.result c.from_residual.ensures.1 in
    rw (p.1, p.2) (bad_field c.args.least c.args.most c.args.text.now c.in_err-number_first.field-0.0 (λ n rest is. c.in_err-number_first.ensures.found n (32 ∷ rest) is refl))

pub returns-in_default-eq32-clause-gives : goal.returns-in_default-eq32-clause-gives
returns-in_default-eq32-clause-gives c =
    let after = c.in_ok-number_first.field-0.1.now in
    let head : get_or after 0 0 ≡ 32 = omega arith in
    field_front c.args.least c.args.most c.args.text.now c.in_ok-number_first.field-0.0 after (take (length after - 1) (drop 1 after)) c.requires (front_byte 32 after c.in_default-eq32.len_at_least head) c.in_ok-number_first.ensures.spelled

pub returns-in_default-clause-gives : goal.returns-in_default-clause-gives
returns-in_default-clause-gives c =
    none_by (field_at c.args.least c.args.most c.args.text.now) (λ f h.
    let after = c.in_ok-number_first.field-0.1.now in
    let same : after ≡ 32 ∷ f.1 = (c.in_ok-number_first.ensures.found f.0 (32 ∷ f.1) (front_field c.args.least c.args.most c.args.text.now f h) refl).1 in
    let long : length after ≡ length (32 ∷ f.1) = ap length same in
    let head : get_or after 0 0 ≡ 32 = ap (λ (xs : List ℕ). get_or xs 0 0) same in
    elim c.in_default.branch [
      | in_default-via-then-branch-lt1 w ↦ grind (arith, long)
      | in_default-via-else-branch-lt1+in_default-1 w ↦ grind (arith, head)
    ])
