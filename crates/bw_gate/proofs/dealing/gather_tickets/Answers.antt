use Rattle.std.proofs.Common.{◌≡◌, length, Some, sym, ap, ◌∙◌, arith}
use Rattle.std.proofs.lemmas.List.Elements.{All-pop}
use Rattle.std.proofs.lemmas.List.{length_push}
use Rattle.bw_gate.specs.declared.view.Piece.TheVariants.{Ticket}
use Rattle.std.proofs.lemmas.List.Sums.{sum_by_push}
use Rattle.bw_gate.specs.Pieces.{GateId, TicketView, bw_in, bw_of_tickets}
use Rattle.bw_gate.specs.Table.{held, held_by}
use Rattle.bw_gate.proofs.Views.{gathered_holds, gathered_counts}
use Rattle.bw_gate.proofs.Steps.{joins}
use Rattle.bw_gate.proofs.dealing.gather_tickets.Goals as goal

pub join_seat-requires : goal.join_seat-requires
join_seat-requires c =
    let inv = c.loop-ticket.invariant in
    let shared = c.args.shared.now in
    let seat = c.loop-ticket.seat in
    let other = c.ticket.inside.seat in
    let own = (All-pop (λ (x : TicketView). x.gate ≡ record { table = shared.table_id; terms = shared.key }) c.loop-ticket.tickets.items c.pop.new.self.items (Some c.in-Some.ticket) c.in-Some.ensures.items inv.6).1 in
    let gate = ap (λ (x : TicketView). x.gate) c.ticket.view_is ∙ own in (
      inv.0 ∙ c.requires.seat.0,
      ap (λ (g : GateId). g.table) gate,
      c.ticket.invariant.0,
      c.requires.words,
      joins shared.key seat.id other.id seat.me.0 other.me.0 inv.3,
    )

pub loop-ticket-preserved : goal.loop-ticket-preserved
loop-ticket-preserved c =
    let inv = c.loop-ticket.invariant in
    let shared = c.args.shared.now in
    let seat = c.loop-ticket.seat in
    let other = c.ticket.inside.seat in
    let t = c.ticket.inside in
    let step = c.join_seat.ensures in
    let now = step.2 in
    let one = c.ticket.invariant.1 in (
      step.0 ∙ inv.0,
      step.1 ∙ inv.1,
      ap (λ (m : _). m.1) now ∙ inv.2,
      ap (λ (m : _). m.0.terms) now ∙ inv.3,
      (λ d.
          let a = ap (λ (m : _). held_by d m.0) now in
          let b = gathered_holds d seat.me.0 other.me.0 (Ticket t.domain t.bw) one in
          let s = ap (bw_of_tickets d) c.in-Some.ensures.items ∙ sum_by_push (bw_in d) c.pop.new.self.items c.in-Some.ticket in
          let same : bw_in d c.in-Some.ticket ≡ held d (Ticket t.domain t.bw) = ap (bw_in d) (sym c.ticket.view_is) in
          let i = inv.4 d in
          omega (arith, a, b, s, same, i)),
      (
          let a = ap (λ (m : _). length m.0.pieces) now in
          let b = gathered_counts seat.me.0 other.me.0 (Ticket t.domain t.bw) one in
          let s = ap length c.in-Some.ensures.items ∙ length_push c.pop.new.self.items c.in-Some.ticket in
          let i = inv.5 in
          omega (arith, a, b, s, i)
          ),
      (All-pop (λ (x : TicketView). x.gate ≡ record { table = shared.table_id; terms = shared.key }) c.loop-ticket.tickets.items c.pop.new.self.items (Some c.in-Some.ticket) c.in-Some.ensures.items inv.6).0,
    )
