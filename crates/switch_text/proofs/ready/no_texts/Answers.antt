use Rattle.std.proofs.lemmas.List.Elements.{All-replicate}
use Rattle.switch_text.specs.private.Ready.{IsLane}
use Rattle.switch_text.proofs.ready.no_texts.Goals as goal

pub returns : goal.returns
returns c = record {
  lanes = All-replicate IsLane 128 c.lane_of-lane.result c.lane_of-lane.ensures.text;
  middles = c.all_middles-middles.ensures;
}
