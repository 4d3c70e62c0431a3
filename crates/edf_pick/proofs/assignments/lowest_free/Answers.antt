use Rattle.std.proofs.Common.{◌∙◌, sym, arith}
use Rattle.edf_pick.proofs.Occupants.{lowest_at, lowest_none}
use Rattle.edf_pick.proofs.assignments.lowest_free.Goals as goal

pub returns-then-cpu-places-clause-lowest : goal.returns-then-cpu-places-clause-lowest
returns-then-cpu-places-clause-lowest c =
    let cpu = c.first_bare-cpu.result in
    let few = c.requires.few in
    sym (lowest_at c.args.places.now cpu (omega arith) (sym (c.requires.taken cpu) ∙ c.first_bare-cpu.ensures.bare (omega (arith, few))) (λ k l. sym (c.requires.taken k) ∙ c.first_bare-cpu.ensures.lowest k l))

pub returns-clause-lowest : goal.returns-clause-lowest
returns-clause-lowest c = sym (lowest_none c.args.places.now (λ k l. sym (c.requires.taken k) ∙ c.first_bare-cpu.ensures.lowest k (omega arith)))
