use Rattle.std.proofs.Common.{◌≡◌, ◌<◌, ℕ, Option, None, Some, length, sym, rules, tests}
use Rattle.std.specs.Prelude.{IfSome, position}
use Rattle.std.proofs.lemmas.Iterator.{YieldsList-from_slice}
use Rattle.std.proofs.lemmas.Iterator.Search.{position_from_yields_List}
use Rattle.edf_pick.specs.Places.{Places, is_task}
use Rattle.domain_run.proofs.Placing.{position_within}
use Rattle.domain_run.proofs.log.homing.cpu_among.Goals as goal

pub returns-clause-cpu : goal.returns-clause-cpu
returns-clause-cpu c =
    let places : Places = c.args.places.now in
    let test = is_task c.args.number in
    position_from_yields_List test _ _ c.position.result c.position.ensures.ran (YieldsList-from_slice places c.iter.ensures.rest) (λ x b q k. search (rules, tests))

within : (number : ℕ) (places : Places) (o : Option ℕ) → o ≡ position (is_task number) places → IfSome o (λ cpu. cpu < length places)
within number places None is = tt
within number places (Some cpu) is = position_within number places cpu (sym is)

pub returns-clause-within : goal.returns-clause-within
returns-clause-within c = within c.args.number c.args.places.now c.position.result (returns-clause-cpu c)
