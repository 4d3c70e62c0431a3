use Rattle.std.proofs.Common.{◌≡◌, ℕ, ◌<◌, ◌≤◌, ◌*◌, ◌∷◌, [], length, refl, sym, ap, ◌∙◌, subst, arith}
use Rattle.bw_gate.specs.declared.view.Piece.TheVariants.{Blank}
use Rattle.bw_gate.specs.Pieces.{GateId, BlankView, cpus_of}
use Rattle.bw_gate.specs.Terms.{TermsView, cpus_in}
use Rattle.bw_gate.specs.Word.{IsWord, word_of, used_of as used_part}
use Rattle.bw_gate.specs.Kinds.{with_found, with_limit_set}
use Rattle.bw_gate.proofs.Parts.{of_parts, new_cap}
use Rattle.bw_gate.proofs.Views.{seat_after, shown_after, shown_twice, took, missed}
use Rattle.bw_gate.proofs.Steps.{loads, limits}
use Rattle.bw_gate.proofs.gate.Gate.try_limit.Goals as goal

pub load-seen-requires : goal.load-seen-requires
load-seen-requires c =
    let shared = c.self.inside.table.shared in
    let seat = c.blank.inside.seat in
    let gate = ap (λ (b : _). b.gate) c.blank.view_is ∙ c.requires.own ∙ sym c.self.view_is in
    let terms : seat.me.0.terms ≡ shared.key = ap (λ (g : GateId). g.terms) gate ∙ sym c.self.invariant.0 in
    let key : c.args.self.now.terms ≡ shared.key = ap (λ (g : GateId). g.terms) (sym c.self.view_is) ∙ sym c.self.invariant.0 in
    let inside : c.args.domain < length shared.key.cpus = subst (λ (t : TermsView). c.args.domain < length t.cpus) key c.requires.inside in
    let words : shared.table_id.words ≡ length shared.key.cpus = c.self.invariant.1 ∙ ap (λ (t : TermsView). length t.cpus) (sym c.self.invariant.0) in (
      ap (λ (g : GateId). g.table) gate,
      omega (arith, inside, words),
      loads shared.key shared.table_id.slots seat.id c.args.domain seat.me inside terms,
    )

pub invariant_of-blank : goal.invariant_of-blank
invariant_of-blank c =
    let seat = c.blank.inside.seat in
    seat_after _ seat.me c.load-seen.new.seat.me (with_found c.args.domain c.load-seen.result seat.me.0) Blank seat.me.0.found c.args.domain c.load-seen.result c.blank.invariant.0 c.load-seen.ensures.2.1 c.blank.invariant.1 refl

pub compare_exchange-found-requires : goal.compare_exchange-found-requires
compare_exchange-found-requires c =
    let shared = c.self.inside.table.shared in
    let was = c.blank.inside.seat in
    let seat = c.load-seen.new.seat in
    let step = c.load-seen.ensures in
    let gate = ap (λ (b : _). b.gate) c.blank.view_is ∙ c.requires.own ∙ sym c.self.view_is in
    let terms : was.me.0.terms ≡ shared.key = ap (λ (g : GateId). g.terms) gate ∙ sym c.self.invariant.0 in
    let now : seat.me.0.terms ≡ shared.key = ap (λ (m : _). m.0.terms) step.2.1 ∙ terms in
    let one : seat.me.0.pieces ≡ Blank ∷ [] = ap (λ (m : _). m.0.pieces) step.2.1 ∙ c.blank.invariant.1 in
    let key : c.args.self.now.terms ≡ shared.key = ap (λ (g : GateId). g.terms) (sym c.self.view_is) ∙ sym c.self.invariant.0 in
    let inside : c.args.domain < length shared.key.cpus = subst (λ (t : TermsView). c.args.domain < length t.cpus) key c.requires.inside in
    let words : shared.table_id.words ≡ length shared.key.cpus = c.self.invariant.1 ∙ ap (λ (t : TermsView). length t.cpus) (sym c.self.invariant.0) in
    let n = c.cpus.result in
    let cpus : n ≡ cpus_in shared.key c.args.domain = c.cpus.ensures.cpus ∙ ap (λ (t : TermsView). cpus_in t c.args.domain) key in
    let seen = c.load-seen.result in
    let used = c.used_of-used.result in
    let small : used ≤ n * c.args.limit = omega (arith, c.if-used-cap.false) in
    let word : IsWord n (word_of (n * c.args.limit) used) = new_cap n c.args.limit used c.cpus.ensures.most c.requires.limit small in
    let parts = of_parts (n * c.args.limit) used (omega (arith, c.used_of-used.ensures)) in (
      step.0 ∙ ap (λ (g : GateId). g.table) gate,
      omega (arith, inside, words),
      limits shared.key shared.table_id.slots seat.id c.args.domain seen (word_of (n * c.args.limit) used) seat.me inside now one (parts.0 ∙ c.used_of-used.ensures) (subst (λ k. IsWord k (word_of (n * c.args.limit) used)) cpus word),
    )

pub invariant_of-result : goal.invariant_of-result
invariant_of-result c =
    let seat = c.load-seen.new.seat in
    let new = word_of (c.cpus.result * c.args.limit) c.used_of-used.result in
    let told_me = c.load-seen.ensures.2.1 in
    let step = took c.compare_exchange-found.result c.load-seen.result _ _ c.if-found-seen.true c.compare_exchange-found.ensures.2.1 in
    seat_after _ seat.me c.compare_exchange-found.new.seat.me (with_limit_set c.args.domain new seat.me.0) Blank seat.me.0.found c.args.domain new (ap (λ (m : _). m.1) told_me ∙ c.blank.invariant.0) step (ap (λ (m : _). m.0.pieces) told_me ∙ c.blank.invariant.1) refl

pub invariant_of-blank-2 : goal.invariant_of-blank-2
invariant_of-blank-2 c =
    let seat = c.load-seen.new.seat in
    let found = c.compare_exchange-found.result in
    let told_me = c.load-seen.ensures.2.1 in
    let step = missed found c.load-seen.result _ _ c.if-found-seen.false c.compare_exchange-found.ensures.2.1 in
    seat_after _ seat.me c.compare_exchange-found.new.seat.me (with_found c.args.domain found seat.me.0) Blank seat.me.0.found c.args.domain found (ap (λ (m : _). m.1) told_me ∙ c.blank.invariant.0) step (ap (λ (m : _). m.0.pieces) told_me ∙ c.blank.invariant.1) refl

pub returns-then-used-cap : goal.returns-then-used-cap
returns-then-used-cap c =
    let seat = c.blank.inside.seat in
    let seen = c.load-seen.result in
    let step = c.load-seen.ensures in
    let cpus : c.cpus.result ≡ cpus_of c.args.blank.gate c.args.domain = c.cpus.ensures.cpus ∙ ap (λ (g : GateId). cpus_of g c.args.domain) (sym c.requires.own) in
    record {
      word = subst (λ (b : BlankView). IsWord (cpus_of b.gate c.args.domain) seen) c.blank.view_is step.2.0.0.word;
      over = subst (λ (n : ℕ). n * c.args.limit < used_part seen) cpus (subst (λ (u : ℕ). c.cpus.result * c.args.limit < u) c.used_of-used.ensures c.if-used-cap.true);
      blank = shown_after _ c.args.blank seat.table_id c.load-seen.new.seat.table_id seat.me c.load-seen.new.seat.me (with_found c.args.domain seen seat.me.0) c.args.domain (seen ∷ []) c.blank.view_is step.0 step.2.1 refl refl;
    }

pub returns-then-found-seen : goal.returns-then-found-seen
returns-then-found-seen c =
    let seat = c.blank.inside.seat in
    let mid = c.load-seen.new.seat in
    let after = c.compare_exchange-found.new.seat in
    let seen = c.load-seen.result in
    let used = c.used_of-used.result in
    let new = word_of (c.cpus.result * c.args.limit) used in
    let step = c.load-seen.ensures in
    let next = took c.compare_exchange-found.result seen _ _ c.if-found-seen.true c.compare_exchange-found.ensures.2.1 in
    let cpus : c.cpus.result ≡ cpus_of c.args.blank.gate c.args.domain = c.cpus.ensures.cpus ∙ ap (λ (g : GateId). cpus_of g c.args.domain) (sym c.requires.own) in
    let is : new ≡ word_of (cpus_of c.args.blank.gate c.args.domain * c.args.limit) (used_part seen) = ap (λ (n : ℕ). word_of (n * c.args.limit) used) cpus ∙ ap (λ (u : ℕ). word_of (cpus_of c.args.blank.gate c.args.domain * c.args.limit) u) c.used_of-used.ensures in
    record {
      seen = seen;
      word = subst (λ (b : BlankView). IsWord (cpus_of b.gate c.args.domain) seen) c.blank.view_is step.2.0.0.word;
      room = subst (λ (n : ℕ). used_part seen ≤ n * c.args.limit) cpus (subst (λ (u : ℕ). u ≤ c.cpus.result * c.args.limit) c.used_of-used.ensures c.if-used-cap.false);
      blank = shown_twice _ c.args.blank seat.table_id mid.table_id after.table_id seat.me mid.me after.me (with_found c.args.domain seen seat.me.0) (with_limit_set c.args.domain new mid.me.0) c.args.domain seen new _
          c.blank.view_is step.0 step.2.1 refl refl c.compare_exchange-found.ensures.0 next refl refl is;
    }

pub returns : goal.returns
returns c =
    let seat = c.blank.inside.seat in
    let mid = c.load-seen.new.seat in
    let after = c.compare_exchange-found.new.seat in
    let seen = c.load-seen.result in
    let found = c.compare_exchange-found.result in
    let step = c.load-seen.ensures in
    let next = missed found seen _ _ c.if-found-seen.false c.compare_exchange-found.ensures.2.1 in
    let cpus : c.cpus.result ≡ cpus_of c.args.blank.gate c.args.domain = c.cpus.ensures.cpus ∙ ap (λ (g : GateId). cpus_of g c.args.domain) (sym c.requires.own) in
    record {
      raced = record {
        word = subst (λ (b : BlankView). IsWord (cpus_of b.gate c.args.domain) seen) c.blank.view_is step.2.0.0.word;
        room = subst (λ (n : ℕ). used_part seen ≤ n * c.args.limit) cpus (subst (λ (u : ℕ). u ≤ c.cpus.result * c.args.limit) c.used_of-used.ensures c.if-used-cap.false);
        other = c.if-found-seen.false;
        other_word = subst (λ (b : BlankView). IsWord (cpus_of b.gate c.args.domain) found) c.blank.view_is (subst (λ (t : TermsView). IsWord (cpus_in t c.args.domain) found) (ap (λ (m : _). m.0.terms) step.2.1) c.compare_exchange-found.ensures.2.0.1);
      };
      blank = shown_twice _ c.args.blank seat.table_id mid.table_id after.table_id seat.me mid.me after.me (with_found c.args.domain seen seat.me.0) (with_found c.args.domain found mid.me.0) c.args.domain seen found found
          c.blank.view_is step.0 step.2.1 refl refl c.compare_exchange-found.ensures.0 next refl refl refl;
    }
