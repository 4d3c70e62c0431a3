use Rattle.std.proofs.Common.{◌+◌, ◌*◌, ◌∷◌, ℕ, List, sym, ap, ◌∙◌, subst, arith}
use Rattle.std.proofs.lemmas.List.{take_rest}
use Rattle.packed_numbers.specs.private.Groups.{Read, read_of, IsReadWhole}
use Rattle.packed_numbers.proofs.Rest.{at_last, number_fits, rest_whole, part_fits, none_left}
use Rattle.packed_numbers.proofs.reading.NumbersLeft.next.Goals as goal

pub invariant_of-self : goal.invariant_of-self
invariant_of-self c = subst (λ (bs : List ℕ). IsReadWhole (read_of bs)) (sym c.loop-at.invariant.same) c.self.invariant

pub overflow_mul-result : goal.overflow_mul-result
overflow_mul-result c =
    let small = number_fits c.self.inside.bytes.now c.loop-at.at c.loop-at.part c.self.invariant c.loop-at-test.true c.loop-at.invariant.groups c.if-byte-lt128.true in
    omega (arith, small)

pub overflow_add-result : goal.overflow_add-result
overflow_add-result c =
    let small = number_fits c.self.inside.bytes.now c.loop-at.at c.loop-at.part c.self.invariant c.loop-at-test.true c.loop-at.invariant.groups c.if-byte-lt128.true in
    omega (arith, small, c.from.ensures)

pub invariant_of-self-then-byte-lt128 : goal.invariant_of-self-then-byte-lt128
invariant_of-self-then-byte-lt128 c =
    let bytes = c.self.inside.bytes.now in
    subst (λ (bs : List ℕ). IsReadWhole (read_of bs)) (sym (take_rest bytes (c.loop-at.at + 1)))
    (rest_whole bytes c.loop-at.at c.loop-at.part c.self.invariant c.loop-at-test.true c.loop-at.invariant.groups c.if-byte-lt128.true)

pub returns-then-byte-lt128 : goal.returns-then-byte-lt128
returns-then-byte-lt128 c =
    let bytes = c.self.inside.bytes.now in
    let at = c.loop-at.at in
    sym c.self.view_is
    ∙ ap (λ (r : Read). r.numbers) (at_last bytes at c.loop-at.part c.loop-at-test.true c.loop-at.invariant.groups c.if-byte-lt128.true)
    ∙ (λ i. (c.loop-at.part * 128 + sym c.from.ensures i) ∷ (read_of (sym (take_rest bytes (at + 1)) i)).numbers)

pub overflow_mul-part : goal.overflow_mul-part
overflow_mul-part c =
    let small = part_fits c.self.inside.bytes.now c.loop-at.at c.loop-at.part c.self.invariant c.loop-at-test.true c.loop-at.invariant.groups c.if-byte-lt128.false in
    omega (arith, small)

pub overflow_add-part : goal.overflow_add-part
overflow_add-part c =
    let small = part_fits c.self.inside.bytes.now c.loop-at.at c.loop-at.part c.self.invariant c.loop-at-test.true c.loop-at.invariant.groups c.if-byte-lt128.false in
    omega (arith, small, c.from-in-loop-at.ensures)

pub returns : goal.returns
returns c =
    let none = none_left c.self.inside.bytes.now c.loop-at.at c.loop-at.part c.loop-at-test.false c.loop-at.invariant.groups in
    (sym c.self.view_is ∙ none, ap (λ (bs : List ℕ). (read_of bs).numbers) c.loop-at.invariant.same ∙ none)
