use Rattle.std.proofs.Common.{◌≡◌, ◌+◌, ℕ, length, vec_capacity}
use Rattle.bw_gate.specs.Pieces.{bw_of_tickets}
use Rattle.session.specs.private.Closing.{AreTicketsOf}
use Rattle.session.proofs.closing_session.pour_tickets.Given as goal

-- what was poured and what is left make what there was
abbrev pub invariant-loop-ticket : goal.invariant-loop-ticket
invariant-loop-ticket g l =
    AreTicketsOf g.N.Names.id.gate l.home.items × AreTicketsOf g.N.Names.id.gate l.tickets.items
    × (length l.home.items + length l.tickets.items ≡ length l.fn.home.items + length l.fn.tickets.items)
    × (vec_capacity l.home ≡ vec_capacity l.fn.home)
    × ((d : ℕ) → bw_of_tickets d l.home.items + bw_of_tickets d l.tickets.items ≡ bw_of_tickets d l.fn.home.items + bw_of_tickets d l.fn.tickets.items)

abbrev pub decreases-loop-ticket : goal.decreases-loop-ticket
decreases-loop-ticket g l = goal.left-loop-ticket g l
