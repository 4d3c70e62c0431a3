use Rattle.std.proofs.Common.{◌≡◌, ◌<◌, ◌≤◌, ◌+◌, ◌-◌, ◌∷◌, [], length, refl, sym, ap, ◌∙◌, subst, arith}
use Rattle.bw_gate.specs.declared.view.Piece.TheVariants.{Ticket}
use Rattle.bw_gate.specs.Pieces.{GateId, TicketView, cpus_of}
use Rattle.bw_gate.specs.Terms.{TermsView, cpus_in}
use Rattle.bw_gate.specs.Word.{IsWord, used_of as used_part, cap_of as cap_part}
use Rattle.bw_gate.proofs.Parts.{other_used, over_in, room_in, same_cap}
use Rattle.bw_gate.specs.Table.{held_by}
use Rattle.bw_gate.specs.Kinds.{with_found, made}
use Rattle.bw_gate.proofs.Views.{seat_after, blank_of, ticket_shown, took, missed, held_one, held_here}
use Rattle.bw_gate.proofs.Steps.{regrades}
use Rattle.bw_gate.proofs.gate.Gate.try_regrade.Goals as goal

pub compare_exchange-found-requires : goal.compare_exchange-found-requires
compare_exchange-found-requires c =
    let shared = c.self.inside.table.shared in
    let seat = c.ticket.inside.seat in
    let d = c.ticket.inside.domain in
    let was = c.ticket.inside.bw in
    let seen = c.load-seen.result in
    let same = c.ticket.view_is ∙ c.load-seen.ensures.load.ticket in
    let gate = ap (λ (t : TicketView). t.gate) same ∙ c.requires.own ∙ sym c.self.view_is in
    let terms : seat.me.0.terms ≡ shared.key = ap (λ (g : GateId). g.terms) gate ∙ sym c.self.invariant.0 in
    let inside : d < length shared.key.cpus = subst (λ (t : TermsView). d < length t.cpus) terms c.ticket.invariant.3 in
    let words : shared.table_id.words ≡ length shared.key.cpus = c.self.invariant.1 ∙ ap (λ (t : TermsView). length t.cpus) (sym c.self.invariant.0) in
    let key : c.args.ticket.gate.terms ≡ shared.key = ap (λ (g : GateId). g.terms) c.requires.own ∙ ap (λ (g : GateId). g.terms) (sym c.self.view_is) ∙ sym c.self.invariant.0 in
    let word : IsWord (cpus_in shared.key d) seen = subst (λ k. IsWord (cpus_in shared.key k) seen) (sym (ap (λ (t : TicketView). t.domain) same)) (subst (λ (t : TermsView). IsWord (cpus_in t c.args.ticket.domain) seen) key c.load-seen.ensures.load.word) in
    let low : was ≤ used_part seen = omega (arith, ap (λ (t : TicketView). t.bw) same, c.load-seen.ensures.load.room) in
    let room : used_part seen - was + c.args.bw ≤ cap_part seen = omega (arith, c.used_of.ensures, c.cap_of.ensures, c.if-used_of-ticket.false) in
    let other = other_used seen was c.args.bw low (omega (arith, room, c.requires.one_cpu)) in (
      ap (λ (g : GateId). g.table) gate,
      omega (arith, inside, words),
      regrades shared.key shared.table_id.slots seat.id d was seen (seen - was + c.args.bw) seat.me inside terms c.ticket.invariant.1 (omega (arith, other.0, low)) (same_cap (cpus_in shared.key d) seen (seen - was + c.args.bw) word other.1 (omega (arith, other.0, room))) other.1,
    )

pub invariant_of-ticket : goal.invariant_of-ticket
invariant_of-ticket c =
    let seat = c.ticket.inside.seat in
    let d = c.ticket.inside.domain in
    let was = c.ticket.inside.bw in
    let seen = c.load-seen.result in
    let found = c.compare_exchange-found.result in
    let same = c.ticket.view_is ∙ c.load-seen.ensures.load.ticket in
    let low : was ≤ used_part seen = omega (arith, ap (λ (t : TicketView). t.bw) same, c.load-seen.ensures.load.room) in
    let step = took found seen _ _ c.if-found-seen.true c.compare_exchange-found.ensures.2.1 in
    let mine : held_by d seat.me.0 ≡ was = held_one d seat.me.0 (Ticket d was) c.ticket.invariant.1 ∙ held_here d was in
    let bw : (seen - was + c.args.bw) + held_by d seat.me.0 - seen ≡ c.args.bw = omega (arith, mine, low) in
    let s = seat_after _ seat.me c.compare_exchange-found.new.seat.me (made (Ticket d ((seen - was + c.args.bw) + held_by d seat.me.0 - seen)) c.ticket.inside.domain found seat.me.0) (Ticket d c.args.bw) seat.me.0.found c.ticket.inside.domain found c.ticket.invariant.0 step (ap (λ (n : _). Ticket d n ∷ []) bw) refl in
    (s.0, s.1, s.2, subst (λ (t : TermsView). d < length t.cpus) (sym (ap (λ (m : _). m.0.terms) step)) c.ticket.invariant.3, c.requires.one_cpu)

pub invariant_of-ticket-else-found-seen : goal.invariant_of-ticket-else-found-seen
invariant_of-ticket-else-found-seen c =
    let seat = c.ticket.inside.seat in
    let d = c.ticket.inside.domain in
    let found = c.compare_exchange-found.result in
    let step = missed found c.load-seen.result _ _ c.if-found-seen.false c.compare_exchange-found.ensures.2.1 in
    let s = seat_after _ seat.me c.compare_exchange-found.new.seat.me (with_found c.ticket.inside.domain found seat.me.0) (Ticket d c.ticket.inside.bw) seat.me.0.found c.ticket.inside.domain found c.ticket.invariant.0 step c.ticket.invariant.1 refl in
    (s.0, s.1, s.2, subst (λ (t : TermsView). d < length t.cpus) (sym (ap (λ (m : _). m.0.terms) step)) c.ticket.invariant.3, c.ticket.invariant.4)

pub returns-then-used_of-ticket : goal.returns-then-used_of-ticket
returns-then-used_of-ticket c =
    let load = c.load-seen.ensures.load in
    let held : c.ticket.inside.bw ≡ c.args.ticket.bw = ap (λ (t : TicketView). t.bw) c.ticket.view_is ∙ ap (λ (t : TicketView). t.bw) load.ticket in
    record { held = load.room; word = load.word; over = over_in _ _ _ _ _ _ c.args.bw c.used_of.ensures c.cap_of.ensures held c.if-used_of-ticket.true; ticket = load.ticket }

pub returns-then-found-seen : goal.returns-then-found-seen
returns-then-found-seen c =
    let seat = c.ticket.inside.seat in
    let after = c.compare_exchange-found.new.seat in
    let d = c.ticket.inside.domain in
    let was = c.ticket.inside.bw in
    let seen = c.load-seen.result in
    let found = c.compare_exchange-found.result in
    let load = c.load-seen.ensures.load in
    let held : c.ticket.inside.bw ≡ c.args.ticket.bw = ap (λ (t : TicketView). t.bw) c.ticket.view_is ∙ ap (λ (t : TicketView). t.bw) load.ticket in
    let step = took found seen _ _ c.if-found-seen.true c.compare_exchange-found.ensures.2.1 in
    record {
      seen = seen;
      word = load.word;
      held = load.room;
      room = room_in _ _ _ _ _ _ c.args.bw c.used_of.ensures c.cap_of.ensures held c.if-used_of-ticket.false;
      ticket = ticket_shown _ c.args.ticket c.load-seen.new.ticket d c.args.bw c.args.bw seat.table_id after.table_id seat.me after.me (made (Ticket d ((seen - was + c.args.bw) + held_by d seat.me.0 - seen)) c.ticket.inside.domain found seat.me.0) seen found seen
          (ap blank_of c.ticket.view_is) load.ticket (ap (λ (t : TicketView). t.domain) c.ticket.view_is) refl c.compare_exchange-found.ensures.0 step refl refl c.if-found-seen.true;
    }

pub returns : goal.returns
returns c =
    let seat = c.ticket.inside.seat in
    let after = c.compare_exchange-found.new.seat in
    let seen = c.load-seen.result in
    let found = c.compare_exchange-found.result in
    let load = c.load-seen.ensures.load in
    let held : c.ticket.inside.bw ≡ c.args.ticket.bw = ap (λ (t : TicketView). t.bw) c.ticket.view_is ∙ ap (λ (t : TicketView). t.bw) load.ticket in
    let step = missed found seen _ _ c.if-found-seen.false c.compare_exchange-found.ensures.2.1 in
    record {
      raced = record {
        word = load.word;
        held = load.room;
        room = room_in _ _ _ _ _ _ c.args.bw c.used_of.ensures c.cap_of.ensures held c.if-used_of-ticket.false;
        other = c.if-found-seen.false;
        other_word = subst (λ (t : TicketView). IsWord (cpus_of t.gate t.domain) found) (c.ticket.view_is ∙ load.ticket) c.compare_exchange-found.ensures.2.0.1;
      };
      ticket = ticket_shown _ c.args.ticket c.load-seen.new.ticket c.ticket.inside.domain c.ticket.inside.bw c.args.ticket.bw seat.table_id after.table_id seat.me after.me (with_found c.ticket.inside.domain found seat.me.0) seen found found
          (ap blank_of c.ticket.view_is) load.ticket (ap (λ (t : TicketView). t.domain) c.ticket.view_is) held c.compare_exchange-found.ensures.0 step refl refl refl;
    }
