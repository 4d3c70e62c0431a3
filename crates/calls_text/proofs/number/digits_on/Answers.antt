use Rattle.std.proofs.Common.{◌≡◌, ◌+◌, ◌*◌, ◌∙◌, ℕ, List, drop, sym, ap, arith}
use Rattle.calls_text.specs.private.Reading.{digits_front}
use Rattle.calls_text.proofs.Numbers.{front_above, front_step}
use Rattle.calls_text.proofs.number.digits_on.Goals as goal

pub returns-then-n-most-clause-above : goal.returns-then-n-most-clause-above
returns-then-n-most-clause-above c =
    let text = c.args.text.now in
    let i = c.loop-i.i in
    let n = c.loop-i.n * 10 + c.from.result in
    let step = front_step c.loop-i.n text i (omega arith) (sym c.is_ascii_digit.ensures.value ∙ c.if-not-is_ascii_digit.false) in
    let more = ap (λ (d : ℕ). digits_front (c.loop-i.n * 10 + d) (drop (i + 1) text)) c.from.ensures in
    let so_far : digits_front n (drop (i + 1) text) ≡ digits_front c.args.first text = more ∙ (sym step ∙ c.loop-i.invariant.so_far) in
    omega (arith, front_above n (drop (i + 1) text), ap (λ (p : ℕ × List ℕ). p.0) so_far, c.if-n-most.true)
