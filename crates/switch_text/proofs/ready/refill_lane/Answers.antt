use Rattle.std.proofs.Common.{◌≡◌, ◌++◌, ◌∙◌, ap, subst, sym, arith}
use Rattle.std.proofs.lemmas.List.{get_or-set_same}
use Rattle.std.proofs.lemmas.List.Elements.{All-set}
use Rattle.switch_text.specs.Line.{cpu_part}
use Rattle.switch_text.specs.private.Parts.{second_part}
use Rattle.switch_text.specs.private.Pieces.{short_text_of}
use Rattle.switch_text.specs.private.Ready.{IsLane}
use Rattle.switch_text.proofs.ready.refill_lane.Goals as goal

pub returns-clause-right : goal.returns-clause-right
returns-clause-right c = All-set IsLane c.args.lanes.now c.args.place c.lane_of.result c.lane_of.ensures.text c.requires.right

pub returns-clause-text : goal.returns-clause-text
returns-clause-text c = λ d.
    let made = c.lane_of.ensures.text ∙ ap (λ cpu. cpu_part cpu ++ second_part c.lane_of.result.second) c.lane_of.ensures.cpu ∙ ap (λ second. cpu_part c.args.cpu ++ second_part second) c.lane_of.ensures.second in
    subst (λ l. short_text_of l.text ≡ cpu_part c.args.cpu ++ second_part c.args.second) (sym (get_or-set_same c.args.lanes.now c.args.place c.lane_of.result d (omega arith))) made
