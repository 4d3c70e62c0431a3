use Rattle.std.proofs.Common.{◌∙◌, subst, List, ℕ, length}
use Rattle.run_figures.specs.Places.{IsIndex}
use Rattle.run_figures.proofs.Indexing.{numbers_small, all_indexed}
use Rattle.run_figures.proofs.places.Places.of.Goals as goal

pub index_of-requires : goal.index_of-requires
index_of-requires c = record { small = numbers_small c.args.tasks.now c.deref.result.now (c.deref.ensures.value ∙ c.in_ok-numbers.ensures) c.requires }

pub invariant_of-result : goal.invariant_of-result
invariant_of-result c =
    all_indexed c.args.tasks.now c.in_ok-numbers.numbers.items c.in_ok-codes.codes.items c.in_ok-numbers.ensures c.requires
    (subst (λ (ns : List ℕ). IsIndex ns (length ns) c.in_ok-codes.codes.items) c.deref.ensures.value c.in_ok-codes.ensures)
