use Rattle.std.proofs.Common.{◌∷◌, [], List, ℕ, length, take, sym, subst, ap, ◌∙◌, arith}
use Rattle.std.proofs.lemmas.List.{length-map, length-take}
use Rattle.bw_gate.specs.declared.terms.Room.{Room}
use Rattle.bw_gate.specs.Word.{first_word}
use Rattle.bw_gate.specs.Terms.{TermsView, AreTerms, terms_of}
use Rattle.bw_gate.specs.Table.{IsTableKept, blank_table}
use Rattle.bw_gate.proofs.Rooms.{rooms_begin}
use Rattle.bw_gate.proofs.gate.Gate.open.Goals as goal

pub slice_bounds-words-end : goal.slice_bounds-words-end
slice_bounds-words-end c =
    let rooms = c.args.rooms.now in
    omega (arith, ap length c.first_words-words.ensures, length-map rooms first_word, length-take (length rooms) c.first_words-words.result)

pub slice_bounds-of_words-end : goal.slice_bounds-of_words-end
slice_bounds-of_words-end c =
    let rooms = c.args.rooms.now in
    omega (arith, ap length c.first_words-words.ensures, length-map rooms first_word)

pub of_words-requires : goal.of_words-requires
of_words-requires c =
    let terms = terms_of c.args.rooms.now c.args.n in
    let words = take (length c.args.rooms.now) c.first_words-words.result in
    let begun : IsTableKept terms words (blank_table terms ∷ []) = subst (λ (ws : List ℕ). IsTableKept terms ws (blank_table terms ∷ [])) (sym c.first_words-words.ensures) (rooms_begin c.args.rooms.now c.args.n c.requires) in
    subst (λ (t : TermsView). IsTableKept t words (blank_table t ∷ [])) (sym c.new-terms.ensures) begun

pub deal-requires-clause-words : goal.deal-requires-clause-words
deal-requires-clause-words c =
    let rooms = c.args.rooms.now in
    let is = c.in_ok-table.ensures in
    omega (arith, is.0, ap length c.first_words-words.ensures, length-map rooms first_word, c.requires.terms.some, length-map rooms (λ (r : Room). r.cpus))

pub deal-requires-clause-pieces : goal.deal-requires-clause-pieces
deal-requires-clause-pieces c =
    let is = c.in_ok-table.ensures in
    sym (ap (λ (t : TermsView). t.pieces) (is.5 ∙ c.new-terms.ensures))

pub invariant_of-result : goal.invariant_of-result
invariant_of-result c =
    let rooms = c.args.rooms.now in
    let is = c.in_ok-table.ensures in
    let words = is.0 ∙ ap length c.first_words-words.ensures ∙ length-map rooms first_word in
    let cpus = ap (λ (t : TermsView). length t.cpus) c.new-terms.ensures ∙ length-map rooms (λ (r : Room). r.cpus) in
    (is.5, words ∙ sym cpus, subst AreTerms (sym c.new-terms.ensures) c.requires.terms, is.1)
