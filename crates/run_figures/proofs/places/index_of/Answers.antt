use Rattle.std.proofs.Common.{◌≡◌, ℕ, ◌-◌, List, ◌++◌, take, replicate, refl, sym, ◌∙◌, subst}
use Rattle.run_figures.specs.Places.{IsIndex}
use Rattle.run_figures.proofs.Indexing.{nothing_seen, one_seen}
use Rattle.run_figures.proofs.places.index_of.Goals as goal

pub loop-place-init : goal.loop-place-init
loop-place-init c =
    let all : c.resize.new.self.items ≡ replicate 65536 0 = c.in_ok-resize.ensures.items ∙ (λ i. take 65536 (c.new-codes.ensures.items i) ++ replicate (65536 - c.new-codes.ensures.len i) 0) in
    subst (λ (xs : List ℕ). IsIndex c.args.numbers.now 0 xs) (sym all) (nothing_seen c.args.numbers.now)

pub loop-place-preserved : goal.loop-place-preserved
loop-place-preserved c =
    one_seen c.args.numbers.now c.loop-place.place c.loop-place.codes.items _ c.loop-place.invariant refl (c.requires.small c.loop-place.place 0 c.loop-place-test.true)
