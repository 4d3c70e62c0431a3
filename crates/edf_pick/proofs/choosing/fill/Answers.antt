use Rattle.std.proofs.Common.{◌++◌, ◌∙◌, sym, inl, inr, arith}
use Rattle.std.proofs.lemmas.List.Sorted.{IsPermutation-refl, IsPermutation-trans}
use Rattle.edf_pick.specs.private.Ready.{all_held}
use Rattle.edf_pick.proofs.Rising.{none_there, some_there}
use Rattle.edf_pick.proofs.choosing.fill.Goals as goal

pub free-preserved : goal.free-preserved
free-preserved c =
    let first = all_held c.args.running.now ++ (c.args.movers.now ++ c.args.ready_rest.now) in
    let then = all_held c.free.running ++ (c.free.movers ++ c.free.ready_rest) in
    let last = all_held c.choose_first.new.running ++ (c.choose_first.new.movers ++ c.choose_first.new.ready_rest) in
    record { is = c.choose_first.ensures.is; same = IsPermutation-trans first then last c.free.invariant.same c.choose_first.ensures.same }

pub free-init : goal.free-init
free-init c = record { is = c.requires.is; same = IsPermutation-refl (all_held c.args.running.now ++ (c.args.movers.now ++ c.args.ready_rest.now)) }

pub is_empty-requires : goal.is_empty-requires
is_empty-requires c = tt

pub busy-requires : goal.busy-requires
busy-requires c = tt

pub len-requires : goal.len-requires
len-requires c = tt

pub overflow_add-busy : goal.overflow_add-busy
overflow_add-busy c = let few = c.free.invariant.is.few in omega (arith, few, c.requires.few)

pub choose_first-requires-clause-few : goal.choose_first-requires-clause-few
choose_first-requires-clause-few c = c.requires.few

pub choose_first-requires-clause-some : goal.choose_first-requires-clause-some
choose_first-requires-clause-some c = some_there c.free.ready_rest (sym c.is_empty.ensures ∙ c.free-test.true)

pub choose_first-requires-clause-is : goal.choose_first-requires-clause-is
choose_first-requires-clause-is c = c.free.invariant.is

pub choose_first-requires-clause-free : goal.choose_first-requires-clause-free
choose_first-requires-clause-free c = omega arith

pub free-smaller : goal.free-smaller
free-smaller c = c.choose_first.ensures.fewer

pub returns-else-busy-len-clause-is : goal.returns-else-busy-len-clause-is
returns-else-busy-len-clause-is c = c.free.invariant.is

pub returns-else-busy-len-clause-same : goal.returns-else-busy-len-clause-same
returns-else-busy-len-clause-same c = c.free.invariant.same

pub returns-else-busy-len-clause-all : goal.returns-else-busy-len-clause-all
returns-else-busy-len-clause-all c = let few = c.free.invariant.is.few in inr (omega (arith, few))

pub returns-after-free-clause-is : goal.returns-after-free-clause-is
returns-after-free-clause-is c = c.free.invariant.is

pub returns-after-free-clause-same : goal.returns-after-free-clause-same
returns-after-free-clause-same c = c.free.invariant.same

pub returns-after-free-clause-all : goal.returns-after-free-clause-all
returns-after-free-clause-all c = inl (none_there c.free.ready_rest (sym c.is_empty.ensures ∙ c.free-test.false))
