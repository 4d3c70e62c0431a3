use Rattle.std.proofs.Common.{◌≡◌, ◌<◌, ◌++◌, ◌∙◌, length, get_or, ap, subst, rules, arith}
use Rattle.std.proofs.lemmas.List.{get_or_default}
use Rattle.switch_text.specs.Line.{cpu_part}
use Rattle.switch_text.specs.private.Parts.{second_part}
use Rattle.switch_text.specs.private.Pieces.{short_text_of}
use Rattle.switch_text.proofs.ready.keep_lane.Goals as goal

pub returns-else-not-is_lane-clause-text : goal.returns-else-not-is_lane-clause-text
returns-else-not-is_lane-clause-text c = λ d.
    let lanes = c.args.lanes.now in
    let place = c.lane_place-place.result in
    let x = c.index-lanes-place.result in
    let lane = get_or lanes place x in
    let inside : place < length lanes = omega arith in
    let same = c.is_lane.ensures (search rules) in
    let text = c.requires.right place x inside ∙ ap (λ cpu. cpu_part cpu ++ second_part lane.second) same.0 ∙ ap (λ second. cpu_part c.args.cpu ++ second_part second) same.1 in
    subst (λ l. short_text_of l.text ≡ cpu_part c.args.cpu ++ second_part c.args.second) (get_or_default lanes place x d inside) text
