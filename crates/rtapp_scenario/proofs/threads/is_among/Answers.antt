use Rattle.std.proofs.Common.{◌∙◌, rules, tests}
use Rattle.std.proofs.lemmas.Iterator.{YieldsList-from_slice}
use Rattle.std.proofs.lemmas.Iterator.Search.{any_from_yields_List}
use Rattle.rtapp_scenario.specs.Keys.{is_text}
use Rattle.rtapp_scenario.specs.FaultText.{ref_seen}
use Rattle.rtapp_scenario.proofs.Walks.{any_of_map}
use Rattle.rtapp_scenario.proofs.threads.is_among.Goals as goal

pub returns : goal.returns
returns c =
    let refs = c.args.refs.now in
    any_from_yields_List (λ x. is_text c.args.own.now (ref_seen x)) _ _ _ c.any.ensures.ran (YieldsList-from_slice refs cc) (λ x b q k. search (rules, tests)) ∙ any_of_map (is_text c.args.own.now) ref_seen refs
