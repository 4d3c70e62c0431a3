use Rattle.std.proofs.Common.{◌≡◌, ◌<◌, length, refl, sym, ap, ◌∙◌, subst, arith}
use Rattle.bw_gate.specs.declared.view.Piece.TheVariants.{Ticket}
use Rattle.bw_gate.specs.Pieces.{GateId}
use Rattle.bw_gate.specs.Terms.{TermsView}
use Rattle.bw_gate.specs.Kinds.{with_found}
use Rattle.bw_gate.proofs.Views.{seat_after}
use Rattle.bw_gate.proofs.Steps.{loads}
use Rattle.bw_gate.proofs.gate.Gate.load.Goals as goal

pub load-found-requires : goal.load-found-requires
load-found-requires c =
    let shared = c.self.inside.table.shared in
    let seat = c.ticket.inside.seat in
    let gate = ap (λ (t : _). t.gate) c.ticket.view_is ∙ c.requires ∙ sym c.self.view_is in
    let terms : seat.me.0.terms ≡ shared.key = ap (λ (g : GateId). g.terms) gate ∙ sym c.self.invariant.0 in
    let inside : c.ticket.inside.domain < length shared.key.cpus = subst (λ (t : TermsView). c.ticket.inside.domain < length t.cpus) terms c.ticket.invariant.3 in
    let words : shared.table_id.words ≡ length shared.key.cpus = c.self.invariant.1 ∙ ap (λ (t : TermsView). length t.cpus) (sym c.self.invariant.0) in (
      ap (λ (g : GateId). g.table) gate,
      omega (arith, inside, words),
      loads shared.key shared.table_id.slots seat.id c.ticket.inside.domain seat.me inside terms,
    )

pub invariant_of-ticket : goal.invariant_of-ticket
invariant_of-ticket c =
    let seat = c.ticket.inside.seat in
    let found = c.load-found.result in
    let step = c.load-found.ensures.2.1 in
    let s = seat_after _ seat.me c.load-found.new.seat.me (with_found c.ticket.inside.domain found seat.me.0) (Ticket c.ticket.inside.domain c.ticket.inside.bw) seat.me.0.found c.ticket.inside.domain found c.ticket.invariant.0 step c.ticket.invariant.1 refl in
    (s.0, s.1, s.2, subst (λ (t : TermsView). c.ticket.inside.domain < length t.cpus) (sym (ap (λ (m : _). m.0.terms) step)) c.ticket.invariant.3, c.ticket.invariant.4)
