use Rattle.std.proofs.Common.{◌≡◌, ℕ, List, length, sym, ap, ◌<◌, ◌∙◌, subst, arith}
use Rattle.std.specs.Prelude.{slice_index}
use Rattle.bw_gate.specs.Pieces.{GateId}
use Rattle.bw_gate.specs.Terms.{TermsView, cpus_in}
use Rattle.bw_gate.specs.Table.{held_by}
use Rattle.bw_gate.specs.Word.{used_of as used_part, cap_of as cap_part, IsCap}
use Rattle.bw_gate.proofs.Views.{past_end}
use Rattle.bw_gate.proofs.Steps.{comes, ends, within}
use Rattle.bw_gate.proofs.gate.Gate.close.Goals as goal

pub load_new_seat-seat-requires : goal.load_new_seat-seat-requires
load_new_seat-seat-requires c =
    let shared = c.self.inside.table.shared in
    let some = c.self.invariant.2.some in
    let words = c.self.invariant.1 in
    (omega (arith, some, words), comes shared.key shared.table_id.slots 0)

pub free-requires : goal.free-requires
free-requires c = λ k short.
    let slots = c.close_with-closed.ensures.counts.1 in
    let none = c.self.invariant.3 in
    absurd (omega (arith, slots, none, short))

pub returns-clause-behind : goal.returns-clause-behind
returns-clause-behind c = λ d past.
    let final = c.close_with-closed.ensures.values.2 in
    let kept = final.1.0 in
    let terms : c.args.self.terms ≡ c.self.inside.table.shared.key = ap (λ (g : GateId). g.terms) (sym c.self.view_is) ∙ sym c.self.invariant.0 in
    let cpus : length c.args.self.terms.cpus ≡ length c.self.inside.table.shared.key.cpus = ap (λ (t : TermsView). length t.cpus) terms in
    let count = kept.count in
    c.words_of-word.ensures d ∙ ap (λ (ws : List ℕ). used_part (slice_index ws d)) (sym final.2) ∙ ap used_part (past_end final.0.words d (omega (arith, count, cpus, past)))

pub returns-clause-room : goal.returns-clause-room
returns-clause-room c = λ d.
    let final = c.close_with-closed.ensures.values.2 in
    let seat = c.gather_tickets.new.seat in
    let word : slice_index c.words_of-word.result d ≡ used_part (slice_index final.0.words d) = c.words_of-word.ensures d ∙ ap (λ (ws : List ℕ). used_part (slice_index ws d)) (sym final.2) in
    let low = (ends c.self.inside.table.shared.key final.0.words final.0.views seat.id seat.me.0 d final.1.0 final.1.1).0 in
    let sum = c.gather_tickets.ensures.held d in
    omega (arith, word, low, sum)

pub returns-clause-exact : goal.returns-clause-exact
returns-clause-exact c = λ all d.
    let final = c.close_with-closed.ensures.values.2 in
    let seat = c.gather_tickets.new.seat in
    let key = c.self.inside.table.shared.key in
    let word : slice_index c.words_of-word.result d ≡ used_part (slice_index final.0.words d) = c.words_of-word.ensures d ∙ ap (λ (ws : List ℕ). used_part (slice_index ws d)) (sym final.2) in
    let come = c.load_new_seat-seat.ensures.2.0 in
    let none : length c.load_new_seat-seat.result.1.me.0.pieces ≡ 0 = ap (λ (m : _). length m.0.pieces) come in
    let zero : held_by d c.load_new_seat-seat.result.1.me.0 ≡ 0 = ap (λ (m : _). held_by d m.0) come in
    let terms : c.args.self.terms ≡ key = ap (λ (g : GateId). g.terms) (sym c.self.view_is) ∙ sym c.self.invariant.0 in
    let pieces : c.args.self.terms.pieces ≡ key.pieces = ap (λ (t : TermsView). t.pieces) terms in
    let first = c.gather_blanks.ensures.count in
    let second = c.gather_tickets.ensures.count in
    let whole : length seat.me.0.pieces ≡ key.pieces = omega (arith, none, first, second, pieces, all) in
    let exact = (ends key final.0.words final.0.views seat.id seat.me.0 d final.1.0 final.1.1).1 whole in
    let blank = c.gather_blanks.ensures.held d in
    let sum = c.gather_tickets.ensures.held d in
    omega (arith, word, exact, zero, blank, sum)

pub returns-clause-capped : goal.returns-clause-capped
returns-clause-capped c = λ d.
    let final = c.close_with-closed.ensures.values.2 in
    let key = c.self.inside.table.shared.key in
    let word : slice_index c.words_of-word.result d ≡ used_part (slice_index final.0.words d) = c.words_of-word.ensures d ∙ ap (λ (ws : List ℕ). used_part (slice_index ws d)) (sym final.2) in
    let cap : slice_index c.caps_of-cap.result d ≡ cap_part (slice_index final.0.words d) = c.caps_of-cap.ensures d ∙ ap (λ (ws : List ℕ). cap_part (slice_index ws d)) (sym final.2) in
    let most = within key final.0.words final.0.views d final.1.0 in
    omega (arith, word, cap, most)

pub returns-clause-caps : goal.returns-clause-caps
returns-clause-caps c = λ d inside.
    let final = c.close_with-closed.ensures.values.2 in
    let terms : c.args.self.terms ≡ c.self.inside.table.shared.key = ap (λ (g : GateId). g.terms) (sym c.self.view_is) ∙ sym c.self.invariant.0 in
    let cap : slice_index c.caps_of-cap.result d ≡ cap_part (slice_index final.0.words d) = c.caps_of-cap.ensures d ∙ ap (λ (ws : List ℕ). cap_part (slice_index ws d)) (sym final.2) in
    let sound = final.1.0.sound d (subst (λ (t : TermsView). d < length t.cpus) terms inside) in
    subst (λ (t : TermsView). IsCap (cpus_in t d) (slice_index c.caps_of-cap.result d)) (sym terms) (subst (IsCap (cpus_in c.self.inside.table.shared.key d)) (sym cap) sound.cap)

pub returns-clause-caps_behind : goal.returns-clause-caps_behind
returns-clause-caps_behind c = λ d past.
    let final = c.close_with-closed.ensures.values.2 in
    let kept = final.1.0 in
    let terms : c.args.self.terms ≡ c.self.inside.table.shared.key = ap (λ (g : GateId). g.terms) (sym c.self.view_is) ∙ sym c.self.invariant.0 in
    let cpus : length c.args.self.terms.cpus ≡ length c.self.inside.table.shared.key.cpus = ap (λ (t : TermsView). length t.cpus) terms in
    let count = kept.count in
    c.caps_of-cap.ensures d ∙ ap (λ (ws : List ℕ). cap_part (slice_index ws d)) (sym final.2) ∙ ap cap_part (past_end final.0.words d (omega (arith, count, cpus, past)))
