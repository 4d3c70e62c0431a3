use Rattle.std.proofs.Common.{◌≡◌, ℕ, List, length, get_or, ap, inl, inr, arith}
use Rattle.std.proofs.lemmas.Result.{err_from_is_err_and}
use Rattle.calls_text.proofs.Events.{alone, before_comma, no_event, bad_event}
use Rattle.calls_text.proofs.script_text.event_first.Goals as goal

pub returns-in_err-event : goal.returns-in_err-event
returns-in_err-event c =
    let p = err_from_is_err_and c.from_residual.result c.from_residual.ensures.1 in
    rw (p.1, p.2) (bad_event c.args.text.now c.in_err-event.field-0.0 (λ e rest t. c.in_err-event.ensures.found e rest t.first t.none))

pub returns-in_default-empty : goal.returns-in_default-empty
returns-in_default-empty c =
    alone c.args.text.now c.in_ok-event.field-0.0 c.in_ok-event.field-0.1.now c.in_default-empty.len_below c.in_ok-event.ensures.spelled

pub returns-in_default-eq44 : goal.returns-in_default-eq44
returns-in_default-eq44 c =
    let after = c.in_ok-event.field-0.1.now in
    let head : get_or after 0 0 ≡ 44 = omega arith in
    before_comma c.args.text.now c.in_ok-event.field-0.0 after c.in_default-eq44.len_at_least head c.in_ok-event.ensures.spelled

pub returns-in_default : goal.returns-in_default
returns-in_default c =
    no_event c.args.text.now (λ e rest t.
    let after = c.in_ok-event.field-0.1.now in
    let same : after ≡ rest = (c.in_ok-event.ensures.found e rest t.first t.none).1 in
    let long : length after ≡ length rest = ap length same in
    let head : get_or after 0 0 ≡ get_or rest 0 0 = ap (λ (xs : List ℕ). get_or xs 0 0) same in
    elim t.ends [
      | inl none ↦ omega (arith, long, none, c.in_default.len_at_least)
      | inr comma ↦ omega (arith, head, comma)
    ])
