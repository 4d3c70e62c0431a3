use Rattle.std.proofs.Common.{map, sym, ap, ◌∙◌, rules, tests}
use Rattle.std.specs.Option.{option_map}
use Rattle.std.proofs.lemmas.Iterator.{YieldsList-from_slice}
use Rattle.std.proofs.lemmas.Iterator.Search.{position_from_yields_List}
use Rattle.session.specs.Asks.{domain_with_cpus, same_cpus}
use Rattle.session.proofs.Asked.{position_of}
use Rattle.session.proofs.shared.place_of.Goals as goal

pub returns-in-Some : goal.returns-in-Some
returns-in-Some c =
    let sets = c.args.cpu_sets.now.items in
    let found = position_from_yields_List (λ s. same_cpus c.in-Some.cpus.items s.items) _ _ c.position.result c.position.ensures.ran (YieldsList-from_slice sets (c.iter.ensures.rest ∙ c.deref.ensures.value)) (λ x b q k. search (rules, tests)) in
    found ∙ position_of (λ s. s.items) (same_cpus c.in-Some.cpus.items) sets ∙ ap (λ o. domain_with_cpus (map (λ s. s.items) sets) (option_map (λ v. v.items) o)) (sym c.in-Some.is)
