use Rattle.std.proofs.Common.{inl, inr, refl}
use Rattle.json_order.proofs.Strings.{high_from, low_from}
use Rattle.json_order.proofs.escape.char_of.Goals as goal

-- A unit that is no surrogate. Both terms here stand in place of a search, for speed.
pub returns-then-unit-lt55296 : goal.returns-then-unit-lt55296
returns-then-unit-lt55296 c =
    let one = c.in_ok-c.ensures.value in
    inl (one.1, one.0, refl)

-- A pair of them.
pub returns : goal.returns
returns c =
    let pair = c.in_ok-c-2.ensures.value in
    let high = high_from c.args.unit c.if-unit-lt55296.false c.if-unit-gt56319.false in
    let low = low_from c.in_ok-low.low c.if-low-lt56320.false c.if-low-gt57343.false in
    inr (high, (c.in_ok-low.low, c.in_ok-low.ensures.spelt, low, pair.1))
