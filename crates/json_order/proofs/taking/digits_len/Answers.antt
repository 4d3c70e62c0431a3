use Rattle.std.proofs.Common.{◌≡◌, true, length, take, sym, ◌∙◌, subst, arith}
use Rattle.std.specs.Char.{is_ascii_digit}
use Rattle.std.specs.List.{All}
use Rattle.std.proofs.lemmas.List.Elements.{All-nil, All-more}
use Rattle.json_order.proofs.taking.digits_len.Goals as goal

pub loop-i-init : goal.loop-i-init
loop-i-init c = All-nil (λ b. is_ascii_digit b ≡ true)

pub returns-then-not-is_ascii_digit-clause-digits : goal.returns-then-not-is_ascii_digit-clause-digits
returns-then-not-is_ascii_digit-clause-digits c = c.loop-i.invariant

pub loop-i-preserved : goal.loop-i-preserved
loop-i-preserved c = All-more (λ b. is_ascii_digit b ≡ true) c.args.bytes.now c.loop-i.i 0 c.loop-i-test.true c.loop-i.invariant (sym c.is_ascii_digit.ensures.value ∙ c.if-not-is_ascii_digit.false)

pub returns-clause-digits : goal.returns-clause-digits
returns-clause-digits c =
    let e : c.loop-i.i ≡ length c.args.bytes.now = omega arith in
    subst (λ n. All (λ b. is_ascii_digit b ≡ true) (take n c.args.bytes.now)) e c.loop-i.invariant
