use Rattle.std.proofs.Common.{◌∙◌, List, not, rules, tests}
use Rattle.std.proofs.lemmas.Iterator.{YieldsList-from_slice}
use Rattle.std.proofs.lemmas.Iterator.Search.{any_from_yields_List}
use Rattle.rtapp_scenario.specs.Values.{Member, member_of, members_of, members}
use Rattle.rtapp_scenario.specs.Threads.{has_event}
use Rattle.rtapp_scenario.proofs.Walks.{any_of_map}
use Rattle.rtapp_scenario.proofs.threads.is_idle_phases.Goals as goal

pub returns : goal.returns
returns c =
    let phases = c.args.phases.now in
    any_from_yields_List (λ x. not (has_event (members (member_of x).value))) _ _ _ c.any.ensures.ran (YieldsList-from_slice phases cc) (λ x b q k. search (rules, tests))
    ∙ any_of_map (λ (m : Member). not (has_event (members m.value))) member_of phases
    ∙ any_of_map (λ (ms : List Member). not (has_event ms)) (λ m. members m.value) (members_of phases)
