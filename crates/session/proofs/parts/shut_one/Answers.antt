use Rattle.std.proofs.Common.{◌≡◌, ◌∙◌}
use Rattle.std.proofs.lemmas.List.Elements.{All-weaker}
use Rattle.bw_gate.specs.Pieces.{TicketView}
use Rattle.call_book.specs.Pieces.{IsTicketOf}
use Rattle.session.proofs.parts.shut_one.Goals as goal

pub give_all-requires : goal.give_all-requires
give_all-requires c =
    let domain = c.args.domain in
    All-weaker (IsTicketOf domain.gate domain.domain) (λ (t : TicketView). t.gate ≡ c.args.gate.now) (λ t is. is.own ∙ c.requires) c.close-state.result.tickets.items c.close-state.ensures.homes
