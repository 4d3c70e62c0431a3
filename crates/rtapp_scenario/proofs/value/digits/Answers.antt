use Rattle.std.proofs.Common.{sym, ◌∙◌, refl}
use Rattle.rtapp_scenario.proofs.Naturals.{no_digit, too_large}
use Rattle.rtapp_scenario.proofs.value.digits.Goals as goal

pub returns-then-not-is_ascii_digit : goal.returns-then-not-is_ascii_digit
returns-then-not-is_ascii_digit c = rw (no_digit c.args.text.now c.loop-digit.digit-index c.loop-digit-test.true (sym c.is_ascii_digit.ensures.value ∙ c.if-not-is_ascii_digit.true) c.loop-digit.invariant.digits) refl

pub returns-then-n-gt-MOST_BEFORE : goal.returns-then-n-gt-MOST_BEFORE
returns-then-n-gt-MOST_BEFORE c = rw (too_large c.args.text.now c.loop-digit.digit-index c.loop-digit.n c.loop-digit-test.true c.if-n-gt-MOST_BEFORE.true c.loop-digit.invariant.value) refl
