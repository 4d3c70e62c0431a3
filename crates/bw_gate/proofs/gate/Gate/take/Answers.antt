use Rattle.std.proofs.Common.{ap, ◌∙◌}
use Rattle.bw_gate.specs.declared.answer.Take.TheVariants.{Taken, Refused}
use Rattle.bw_gate.specs.Pieces.{BlankView}
use Rattle.bw_gate.proofs.Races.{not_yet_raced, raced_again, take_decided}
use Rattle.bw_gate.proofs.gate.Gate.take.Goals as goal

pub loop-preserved : goal.loop-preserved
loop-preserved g c = (
  tt,
  tt,
  raced_again c.args.blank c.args.domain c.args.bw c.loop.blank c.in-Raced.back (record { expected = c.in-Raced.expected; seen = c.in-Raced.seen }) c.loop.invariant.2 c.in-Raced.ensures,
)

pub loop-init : goal.loop-init
loop-init g c = (tt, tt, not_yet_raced c.args.blank c.args.domain c.args.bw)

pub try_take-requires : goal.try_take-requires
try_take-requires g c = record { own = ap (λ (b : BlankView). b.gate) c.loop.invariant.2.blank ∙ c.requires.own; inside = c.requires.inside; one_cpu = c.requires.one_cpu }

pub returns-in-Taken : goal.returns-in-Taken
returns-in-Taken g c = take_decided c.args.blank c.args.domain c.args.bw c.loop.blank (Taken c.in-Taken.ticket) c.loop.invariant.2 c.in-Taken.ensures tt

pub returns-in-Refused : goal.returns-in-Refused
returns-in-Refused g c = take_decided c.args.blank c.args.domain c.args.bw c.loop.blank (Refused c.in-Refused.blank c.in-Refused.seen) c.loop.invariant.2 c.in-Refused.ensures tt
