use Rattle.std.proofs.Common.{◌≡◌, ◌∙◌, Some, map, All, sym, subst}
use Rattle.std.proofs.lemmas.List.Elements.{All-map, All-pop, All-weaker}
use Rattle.bw_gate.specs.Pieces.{TicketView}
use Rattle.call_book.specs.declared.book.stock.Held.{Held}
use Rattle.call_book.specs.Pieces.{IsTicketOf}
use Rattle.call_book.proofs.book.stock.Stock.give_back.Goals as goal

pub loop-ticket-init : goal.loop-ticket-init
loop-ticket-init c =
    let own = c.args.self in
    let made = c.into_pieces-tickets in
    let P : TicketView → Type 0 = IsTicketOf own.gate own.domain in
    let held : All P (map (λ (h : Held). h.ticket) own.tickets) = All-map P (λ (h : Held). h.ticket) own.tickets made.ensures.pieces.held in
    let there : All P made.result.0.items = subst (All P) (sym made.ensures.tickets) held in
    All-weaker P (λ (t : TicketView). t.gate ≡ c.args.gate.now) (λ t is. is.own ∙ sym c.requires) made.result.0.items there

pub loop-ticket-preserved : goal.loop-ticket-preserved
loop-ticket-preserved c =
    (All-pop (λ (t : TicketView). t.gate ≡ c.args.gate.now) c.loop-ticket.tickets.items c.pop.new.self.items (Some c.in-Some.ticket) c.in-Some.ensures.items c.loop-ticket.invariant).0
