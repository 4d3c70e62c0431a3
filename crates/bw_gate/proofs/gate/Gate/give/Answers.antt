use Rattle.std.proofs.Common.{◌≡◌, ◌<◌, length, refl, sym, ap, ◌∙◌, subst, arith}
use Rattle.bw_gate.specs.declared.view.Piece.TheVariants.{Blank}
use Rattle.bw_gate.specs.Pieces.{GateId}
use Rattle.bw_gate.specs.Terms.{TermsView}
use Rattle.bw_gate.specs.Kinds.{made}
use Rattle.bw_gate.proofs.Views.{seat_after}
use Rattle.bw_gate.proofs.Steps.{gives}
use Rattle.bw_gate.proofs.gate.Gate.give.Goals as goal

pub fetch_sub-found-requires : goal.fetch_sub-found-requires
fetch_sub-found-requires c =
    let shared = c.self.inside.table.shared in
    let seat = c.ticket.inside.seat in
    let gate = ap (λ (t : _). t.gate) c.ticket.view_is ∙ c.requires ∙ sym c.self.view_is in
    let terms : seat.me.0.terms ≡ shared.key = ap (λ (g : GateId). g.terms) gate ∙ sym c.self.invariant.0 in
    let inside : c.ticket.inside.domain < length shared.key.cpus = subst (λ (t : TermsView). c.ticket.inside.domain < length t.cpus) terms c.ticket.invariant.3 in
    let words : shared.table_id.words ≡ length shared.key.cpus = c.self.invariant.1 ∙ ap (λ (t : TermsView). length t.cpus) (sym c.self.invariant.0) in (
      ap (λ (g : GateId). g.table) gate,
      omega (arith, inside, words),
      gives shared.key shared.table_id.slots seat.id c.ticket.inside.domain c.ticket.inside.bw seat.me inside terms c.ticket.invariant.1,
    )

pub invariant_of-result : goal.invariant_of-result
invariant_of-result c =
    let seat = c.ticket.inside.seat in
    let found = c.fetch_sub-found.result in
    seat_after _ seat.me c.fetch_sub-found.new.seat.me (made Blank c.ticket.inside.domain found seat.me.0) Blank seat.me.0.found c.ticket.inside.domain found c.ticket.invariant.0 c.fetch_sub-found.ensures.2.1 refl refl
