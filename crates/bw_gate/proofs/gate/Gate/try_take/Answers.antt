use Rattle.std.proofs.Common.{◌≡◌, ◌<◌, ◌≤◌, ◌+◌, ◌-◌, ◌∷◌, [], length, refl, sym, ap, ◌∙◌, subst, arith}
use Rattle.bw_gate.specs.declared.view.Piece.TheVariants.{Blank, Ticket}
use Rattle.bw_gate.specs.Pieces.{GateId, BlankView, cpus_of}
use Rattle.bw_gate.specs.Terms.{TermsView, cpus_in}
use Rattle.bw_gate.specs.Word.{IsWord, used_of as used_part, cap_of as cap_part}
use Rattle.bw_gate.proofs.Parts.{more_used, same_cap}
use Rattle.bw_gate.specs.Kinds.{with_found, made}
use Rattle.bw_gate.proofs.Views.{seat_after, shown_after, shown_twice, took, missed}
use Rattle.bw_gate.proofs.Steps.{loads, takes}
use Rattle.bw_gate.proofs.gate.Gate.try_take.Goals as goal

pub load-seen-requires : goal.load-seen-requires
load-seen-requires c =
    let shared = c.self.inside.table.shared in
    let seat = c.blank.inside.seat in
    let gate = ap (λ (b : _). b.gate) c.blank.view_is ∙ c.requires.own ∙ sym c.self.view_is in
    let terms : seat.me.0.terms ≡ shared.key = ap (λ (g : GateId). g.terms) gate ∙ sym c.self.invariant.0 in
    let key : c.args.self.now.terms ≡ shared.key = ap (λ (g : GateId). g.terms) (sym c.self.view_is) ∙ sym c.self.invariant.0 in
    let inside : c.args.domain < length shared.key.cpus = subst (λ (t : TermsView). c.args.domain < length t.cpus) key c.requires.inside in
    let words : shared.table_id.words ≡ length shared.key.cpus = c.self.invariant.1 ∙ ap (λ (t : TermsView). length t.cpus) (sym c.self.invariant.0) in (
      ap (λ (g : GateId). g.table) gate,
      omega (arith, inside, words),
      loads shared.key shared.table_id.slots seat.id c.args.domain seat.me inside terms,
    )

pub invariant_of-blank : goal.invariant_of-blank
invariant_of-blank c =
    let seat = c.blank.inside.seat in
    seat_after _ seat.me c.load-seen.new.seat.me (with_found c.args.domain c.load-seen.result seat.me.0) Blank seat.me.0.found c.args.domain c.load-seen.result c.blank.invariant.0 c.load-seen.ensures.2.1 c.blank.invariant.1 refl

pub compare_exchange-found-requires : goal.compare_exchange-found-requires
compare_exchange-found-requires c =
    let shared = c.self.inside.table.shared in
    let was = c.blank.inside.seat in
    let seat = c.load-seen.new.seat in
    let step = c.load-seen.ensures in
    let gate = ap (λ (b : _). b.gate) c.blank.view_is ∙ c.requires.own ∙ sym c.self.view_is in
    let terms : was.me.0.terms ≡ shared.key = ap (λ (g : GateId). g.terms) gate ∙ sym c.self.invariant.0 in
    let now : seat.me.0.terms ≡ shared.key = ap (λ (m : _). m.0.terms) step.2.1 ∙ terms in
    let one : seat.me.0.pieces ≡ Blank ∷ [] = ap (λ (m : _). m.0.pieces) step.2.1 ∙ c.blank.invariant.1 in
    let key : c.args.self.now.terms ≡ shared.key = ap (λ (g : GateId). g.terms) (sym c.self.view_is) ∙ sym c.self.invariant.0 in
    let inside : c.args.domain < length shared.key.cpus = subst (λ (t : TermsView). c.args.domain < length t.cpus) key c.requires.inside in
    let words : shared.table_id.words ≡ length shared.key.cpus = c.self.invariant.1 ∙ ap (λ (t : TermsView). length t.cpus) (sym c.self.invariant.0) in
    let seen = c.load-seen.result in
    let word : IsWord (cpus_in shared.key c.args.domain) seen = subst (λ (t : TermsView). IsWord (cpus_in t c.args.domain) seen) terms step.2.0.0.word in
    let room : used_part seen + c.args.bw ≤ cap_part seen = omega (arith, c.used_of.ensures, c.cap_of.ensures, c.if-used_of-bw.false) in
    let more = more_used seen c.args.bw (omega (arith, room, c.requires.one_cpu)) in (
      step.0 ∙ ap (λ (g : GateId). g.table) gate,
      omega (arith, inside, words),
      takes shared.key shared.table_id.slots seat.id c.args.domain seen (seen + c.args.bw) seat.me inside now one (omega (arith, more.0)) (same_cap (cpus_in shared.key c.args.domain) seen (seen + c.args.bw) word more.1 (omega (arith, more.0, room))) more.1,
    )

pub invariant_of-result : goal.invariant_of-result
invariant_of-result c =
    let was = c.blank.inside.seat in
    let seat = c.load-seen.new.seat in
    let found = c.compare_exchange-found.result in
    let d = c.args.domain in
    let told_me = c.load-seen.ensures.2.1 in
    let step = took found c.load-seen.result _ _ c.if-found-seen.true c.compare_exchange-found.ensures.2.1 in
    let bw : (c.load-seen.result + c.args.bw) - c.load-seen.result ≡ c.args.bw = omega arith in
    let s = seat_after _ seat.me c.compare_exchange-found.new.seat.me (made (Ticket d ((c.load-seen.result + c.args.bw) - c.load-seen.result)) c.args.domain found seat.me.0) (Ticket d c.args.bw) seat.me.0.found c.args.domain found (ap (λ (m : _). m.1) told_me ∙ c.blank.invariant.0) step (ap (λ (n : _). Ticket d n ∷ []) bw) refl in
    let gate = ap (λ (b : _). b.gate) c.blank.view_is ∙ c.requires.own in
    let terms : c.compare_exchange-found.new.seat.me.0.terms ≡ c.args.self.now.terms = ap (λ (m : _). m.0.terms) step ∙ ap (λ (m : _). m.0.terms) told_me ∙ ap (λ (g : GateId). g.terms) gate in
    (s.0, s.1, s.2, subst (λ (t : TermsView). d < length t.cpus) (sym terms) c.requires.inside, c.requires.one_cpu)

pub invariant_of-blank-2 : goal.invariant_of-blank-2
invariant_of-blank-2 c =
    let seat = c.load-seen.new.seat in
    let found = c.compare_exchange-found.result in
    let told_me = c.load-seen.ensures.2.1 in
    let step = missed found c.load-seen.result _ _ c.if-found-seen.false c.compare_exchange-found.ensures.2.1 in
    seat_after _ seat.me c.compare_exchange-found.new.seat.me (with_found c.args.domain found seat.me.0) Blank seat.me.0.found c.args.domain found (ap (λ (m : _). m.1) told_me ∙ c.blank.invariant.0) step (ap (λ (m : _). m.0.pieces) told_me ∙ c.blank.invariant.1) refl

pub returns-then-used_of-bw : goal.returns-then-used_of-bw
returns-then-used_of-bw c =
    let seat = c.blank.inside.seat in
    let seen = c.load-seen.result in
    let step = c.load-seen.ensures in
    record {
      word = subst (λ (b : BlankView). IsWord (cpus_of b.gate c.args.domain) seen) c.blank.view_is step.2.0.0.word;
      over = omega (arith, c.used_of.ensures, c.cap_of.ensures, c.if-used_of-bw.true);
      blank = shown_after _ c.args.blank seat.table_id c.load-seen.new.seat.table_id seat.me c.load-seen.new.seat.me (with_found c.args.domain seen seat.me.0) c.args.domain (seen ∷ []) c.blank.view_is step.0 step.2.1 refl refl;
    }

pub returns-then-found-seen : goal.returns-then-found-seen
returns-then-found-seen c =
    let seat = c.blank.inside.seat in
    let mid = c.load-seen.new.seat in
    let after = c.compare_exchange-found.new.seat in
    let seen = c.load-seen.result in
    let found = c.compare_exchange-found.result in
    let d = c.args.domain in
    let bw = c.args.bw in
    let step = c.load-seen.ensures in
    let next = took found seen _ _ c.if-found-seen.true c.compare_exchange-found.ensures.2.1 in
    record {
      seen = seen;
      word = subst (λ (b : BlankView). IsWord (cpus_of b.gate d) seen) c.blank.view_is step.2.0.0.word;
      room = omega (arith, c.used_of.ensures, c.cap_of.ensures, c.if-used_of-bw.false);
      ticket = ap (λ (b : BlankView). record { gate = b.gate; domain = d; bw = bw; found = b.found })
          (shown_twice _ c.args.blank seat.table_id mid.table_id after.table_id seat.me mid.me after.me (with_found c.args.domain seen seat.me.0) (made (Ticket d ((seen + bw) - seen)) c.args.domain found mid.me.0) c.args.domain seen found seen
          c.blank.view_is step.0 step.2.1 refl refl c.compare_exchange-found.ensures.0 next refl refl c.if-found-seen.true);
    }

pub returns : goal.returns
returns c =
    let seat = c.blank.inside.seat in
    let mid = c.load-seen.new.seat in
    let after = c.compare_exchange-found.new.seat in
    let seen = c.load-seen.result in
    let found = c.compare_exchange-found.result in
    let step = c.load-seen.ensures in
    let next = missed found seen _ _ c.if-found-seen.false c.compare_exchange-found.ensures.2.1 in
    record {
      raced = record {
        word = subst (λ (b : BlankView). IsWord (cpus_of b.gate c.args.domain) seen) c.blank.view_is step.2.0.0.word;
        room = omega (arith, c.used_of.ensures, c.cap_of.ensures, c.if-used_of-bw.false);
        other = c.if-found-seen.false;
        other_word = subst (λ (b : BlankView). IsWord (cpus_of b.gate c.args.domain) found) c.blank.view_is (subst (λ (t : TermsView). IsWord (cpus_in t c.args.domain) found) (ap (λ (m : _). m.0.terms) step.2.1) c.compare_exchange-found.ensures.2.0.1);
      };
      blank = shown_twice _ c.args.blank seat.table_id mid.table_id after.table_id seat.me mid.me after.me (with_found c.args.domain seen seat.me.0) (with_found c.args.domain found mid.me.0) c.args.domain seen found found
          c.blank.view_is step.0 step.2.1 refl refl c.compare_exchange-found.ensures.0 next refl refl refl;
    }
