use Rattle.std.proofs.Common.{◌≡◌, ◌<◌, ◌+◌, ◌-◌, ℕ, List, [], ◌∷◌, ◌++◌, length, Some, true, sym, ap, ◌∙◌, arith}
use Rattle.std.specs.Prelude.{slice_get}
use Rattle.std.proofs.lemmas.List.{length_push}
use borrow.Author.Count.{below_more}
use Rattle.atomic_table.specs.Table.{Me}
use Rattle.atomic_table.specs.Seated.{TableId}
use Rattle.pass_seats.specs.declared.view.Mine.{Mine}
use Rattle.pass_seats.specs.declared.view.View.{View}
use Rattle.pass_seats.specs.Lists.{PassView}
use Rattle.pass_seats.specs.Listed.{fresh}
use Rattle.pass_seats.specs.private.Pass.{pass_entries, pass_view}
use Rattle.pass_seats.specs.Kinds.{first_pass, other_passes}
use Rattle.pass_seats.proofs.Views.{get_front, get_last}
use Rattle.pass_seats.proofs.Steps.{splits, dealt_pass, others_fresh}
use Rattle.pass_seats.proofs.spine.deal.Goals as goal

abbrev Seat : Type 0 → Type 0
Seat E = Me (Unit {0}) (View E)

module _ {E : Type 0} where
  abbrev pass_of : TableId → ℕ → List E → PassView E
  pass_of spine client entries = record { spine = spine; client = client; entries = entries }

  same_pass : (a b : TableId) (c : ℕ) (xs ys : List E) → a ≡ b → xs ≡ ys → pass_of a c xs ≡ pass_of b c ys
  same_pass a b c xs ys p q = λ i. pass_of (p i) c (q i)

  -- the view of a badge is that of its seat, from which a pass was split
  views_are : (views : List (View E)) (dealt was : Seat E) (c n : ℕ) → 0 < n → views ≡ dealt.0 ∷ [] → dealt ≡ (first_pass was.0, []) → was.0.passes ≡ fresh c n → views ≡ pass_view c [] ∷ []
  views_are views dealt was c n lt e f g = e ∙ ap (λ (m : Seat E). m.0 ∷ []) f ∙ ap (λ (v : View E). v ∷ []) (dealt_pass was.0 c n lt g)

pub split_seat-requires : goal.split_seat-requires
split_seat-requires g c =
    let seat = c.loop-k.seat in
    (c.loop-k.invariant.0, c.requires.words, splits seat.id seat.me.0)

pub invariant_of-push_reserved : goal.invariant_of-push_reserved
invariant_of-push_reserved g c =
    let k = c.loop-k.k in
    let some : 0 < c.args.clients - k = omega arith in
    let fresh_are = ap (λ (m : _). m.0.passes) c.loop-k.invariant.1 in
    let views = views_are c.into_badge-badge.result.views c.split_seat.result.me c.loop-k.seat.me (k + 1) (c.args.clients - k) some c.into_badge-badge.ensures.2 c.split_seat.ensures.4 fresh_are in
    (views ∙ ap (λ (es : _). pass_view (k + 1) es ∷ []) (sym (ap pass_entries views)), sym (ap (λ (vs : _). length (pass_entries vs)) views))

pub loop-k-preserved : goal.loop-k-preserved
loop-k-preserved g c =
    let k = c.loop-k.k in
    let inv = c.loop-k.invariant in
    let spine = c.args.shared.now.table_id in
    let left = c.args.clients - k in
    let split = c.split_seat.ensures in
    let push = c.push_reserved.ensures in
    let some : 0 < left = omega arith in
    let fresh_are = ap (λ (m : _). m.0.passes) inv.1 in
    let badge = c.into_badge-badge.result in
    let views = views_are badge.views c.split_seat.result.me c.loop-k.seat.me (k + 1) left some c.into_badge-badge.ensures.2 split.4 fresh_are in
    let less : left - 1 ≡ c.args.clients - (k + 1) = omega arith in
    let seat_of : List (Mine g.row.E.Denot) → Seat g.row.E.Denot = λ ps. (record { is_spine = true; log = []; passes = ps }, []) in
    let rest : Seat g.row.E.Denot → Seat g.row.E.Denot = λ m. (other_passes m.0, m.1) in
    let new = pass_of badge.table_id (k + 1) (pass_entries badge.views) in
    let one = pass_of spine (k + 1) [] in
    let same : new ≡ one = same_pass badge.table_id spine (k + 1) (pass_entries badge.views) [] (c.into_badge-badge.ensures.0 ∙ split.3 ∙ inv.0) (ap pass_entries views) in
    let old = c.loop-k.passes.items in
    let items : c.push_reserved.new.self.items ≡ old ++ one ∷ [] = push.items ∙ ap (λ (x : _). old ++ x ∷ []) same in (
      split.0 ∙ inv.0,
      split.2 ∙ ap rest inv.1 ∙ ap seat_of (others_fresh g.row.E.Denot (k + 1) left some ∙ ap (λ n. fresh (k + 1 + 1) n) less),
      ap length items ∙ length_push old one ∙ ap (λ n. n + 1) inv.2,
      (let a = push.capacity in let b = inv.3 in omega (arith, a, b)),
      below_more (λ j. slice_get c.push_reserved.new.self.items j ≡ Some (pass_of spine (j + 1) [])) k
          (λ j lt. ap (λ (xs : _). slice_get xs j) items ∙ get_front old one (pass_of spine (j + 1) []) j (inv.4 j lt))
          (ap (λ (xs : _). slice_get xs k) items ∙ get_last old one k inv.2),
    )
