use Rattle.std.proofs.Common.{ap, ◌∙◌}
use Rattle.bw_gate.specs.declared.answer.Regrade.TheVariants.{Changed, Refused}
use Rattle.bw_gate.specs.Pieces.{TicketView}
use Rattle.bw_gate.proofs.Races.{changes_again, not_yet_changed, regrade_decided}
use Rattle.bw_gate.proofs.gate.Gate.regrade.Goals as goal

pub loop-preserved : goal.loop-preserved
loop-preserved g c = (
  tt,
  tt,
  changes_again c.args.ticket c.args.bw c.loop.ticket c.in-Raced.back (record { expected = c.in-Raced.expected; seen = c.in-Raced.seen }) c.loop.invariant.2 c.in-Raced.ensures,
)

pub loop-init : goal.loop-init
loop-init g c = (tt, tt, not_yet_changed c.args.ticket c.args.bw)

pub try_regrade-requires : goal.try_regrade-requires
try_regrade-requires g c = record { own = ap (λ (t : TicketView). t.gate) c.loop.invariant.2.ticket ∙ c.requires.own; one_cpu = c.requires.one_cpu }

pub returns-in-Changed : goal.returns-in-Changed
returns-in-Changed g c = regrade_decided c.args.ticket c.args.bw c.loop.ticket (Changed c.in-Changed.ticket) c.loop.invariant.2 c.in-Changed.ensures tt

pub returns-in-Refused : goal.returns-in-Refused
returns-in-Refused g c = regrade_decided c.args.ticket c.args.bw c.loop.ticket (Refused c.in-Refused.ticket c.in-Refused.seen) c.loop.invariant.2 c.in-Refused.ensures tt
