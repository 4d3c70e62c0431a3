use Rattle.std.proofs.Common.{ap, ◌∙◌}
use Rattle.bw_gate.specs.declared.answer.Limit.TheVariants.{Set, Refused}
use Rattle.bw_gate.specs.Pieces.{BlankView}
use Rattle.bw_gate.proofs.Races.{limit_decided, limits_again, not_yet_set}
use Rattle.bw_gate.proofs.gate.Gate.limit.Goals as goal

pub loop-preserved : goal.loop-preserved
loop-preserved g c = (
  tt,
  tt,
  limits_again c.args.blank c.args.domain c.args.limit c.loop.blank c.in-Raced.back (record { expected = c.in-Raced.expected; seen = c.in-Raced.seen }) c.loop.invariant.2 c.in-Raced.ensures,
)

pub loop-init : goal.loop-init
loop-init g c = (tt, tt, not_yet_set c.args.blank c.args.domain c.args.limit)

pub try_limit-requires : goal.try_limit-requires
try_limit-requires g c = record { own = ap (λ (b : BlankView). b.gate) c.loop.invariant.2.blank ∙ c.requires.own; inside = c.requires.inside; limit = c.requires.limit }

pub returns-in-Set : goal.returns-in-Set
returns-in-Set g c = limit_decided c.args.blank c.args.domain c.args.limit c.loop.blank (Set c.in-Set.blank) c.loop.invariant.2 c.in-Set.ensures tt

pub returns-in-Refused : goal.returns-in-Refused
returns-in-Refused g c = limit_decided c.args.blank c.args.domain c.args.limit c.loop.blank (Refused c.in-Refused.blank c.in-Refused.seen) c.loop.invariant.2 c.in-Refused.ensures tt
