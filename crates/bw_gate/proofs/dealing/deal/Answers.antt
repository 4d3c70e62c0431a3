use Rattle.std.proofs.Common.{◌≡◌, ◌<◌, ◌-◌, List, [], ◌∷◌, ◌++◌, replicate, sym, ap, ◌∙◌, arith}
use Rattle.std.specs.Prelude.{vec_len}
use Rattle.bw_gate.specs.declared.view.Piece.{Piece}
use Rattle.bw_gate.specs.declared.view.Piece.TheVariants.{Blank}
use Rattle.bw_gate.specs.declared.view.View.{View}
use Rattle.bw_gate.specs.declared.view.Found.{Found}
use Rattle.atomic_table.specs.Table.{Me}
use Rattle.atomic_table.specs.Seated.{TableId}
use Rattle.bw_gate.specs.Terms.{TermsView}
use Rattle.bw_gate.specs.Pieces.{BlankView}
use Rattle.bw_gate.specs.Kinds.{other_pieces}
use Rattle.bw_gate.proofs.Views.{replicate_more, others_of}
use Rattle.bw_gate.proofs.Steps.{splits}
use Rattle.bw_gate.proofs.dealing.deal.Goals as goal

abbrev Seat : Type 0
Seat = Me (Unit {0}) View

abbrev blank_of : TableId → TermsView → List Found → BlankView
blank_of table terms found = record { gate = record { table = table; terms = terms }; found = found }

same_blank : (a b : TableId) (t u : TermsView) (f g : List Found) → a ≡ b → t ≡ u → f ≡ g → blank_of a t f ≡ blank_of b u g
same_blank a b t u f g p q r = λ i. blank_of (p i) (q i) (r i)

pub split_seat-seat-requires : goal.split_seat-seat-requires
split_seat-seat-requires c =
    let shared = c.args.shared.now in
    let seat = c.loop-seat.seat in
    (c.loop-seat.invariant.0, c.requires.words, splits shared.key seat.id seat.me.0)

pub loop-seat-preserved : goal.loop-seat-preserved
loop-seat-preserved c =
    let inv = c.loop-seat.invariant in
    let shared = c.args.shared.now in
    let key = shared.key in
    let was = vec_len c.loop-seat.blanks in
    let left = c.args.n - was in
    let split = c.split_seat-seat.ensures in
    let push = c.push_reserved.ensures in
    let some : 0 < left = omega arith in
    let rest : Seat → Seat = λ m. (other_pieces m.0, m.1) in
    let seat_of : List Piece → Seat = λ ps. (record { pieces = ps; found = []; limited_in = []; terms = key }, []) in
    let less : left - 1 ≡ c.args.n - vec_len c.push_reserved.new.self = omega (arith, push.len) in
    let one = blank_of shared.table_id key [] in
    let terms : c.split_seat-seat.result.me.0.terms ≡ key = ap (λ (m : Seat). m.0.terms) split.4 ∙ ap (λ (m : Seat). m.0.terms) inv.1 in
    let found : c.split_seat-seat.result.me.0.found ≡ [] = ap (λ (m : Seat). m.0.found) split.4 ∙ ap (λ (m : Seat). m.0.found) inv.1 in
    let new = c.split_seat-seat.result in
    let made = same_blank new.table_id shared.table_id new.me.0.terms key new.me.0.found [] (split.3 ∙ inv.0) terms found in (
      split.0 ∙ inv.0,
      split.2 ∙ ap rest inv.1 ∙ ap seat_of (others_of left Blank some ∙ ap (λ k. replicate k Blank) less),
      push.items ∙ ap (λ (xs : List BlankView). xs ++ blank_of new.table_id new.me.0.terms new.me.0.found ∷ []) inv.2 ∙ ap (λ (x : BlankView). replicate was one ++ x ∷ []) made ∙ replicate_more was one ∙ ap (λ k. replicate k one) (sym push.len),
      (let a = push.len in omega (arith, a)),
      (let a = push.capacity in let b = inv.4 in omega (arith, a, b)),
    )
