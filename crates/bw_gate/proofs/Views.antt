-- Sums over all views, when one of them changes.
use Rattle.std.proofs.Common.{◌≡◌, ◌≢◌, ◌≤◌, ◌<◌, All, ℕ, zero, suc, ◌+◌, ◌-◌, ◌==◌, List, [], ◌∷◌, ◌++◌, length, set, get_or, take, drop, replicate, zero-add, sym, refl, ap, ◌∙◌, subst, arith, eq-eqb, ne_eqb}
use Rattle.std.specs.Prelude.{MatchBool}
use Rattle.std.specs.List.{sum_by}
use Rattle.std.proofs.lemmas.Bool.Decides.{when_true, when_false}
use Rattle.atomic_table.specs.Table.{Me}
use Rattle.std.proofs.lemmas.List.{length-append, append_assoc}
use Rattle.std.proofs.lemmas.List.Sums.{sum_by-cons, sum_by-append}
use mathlib.Core.Option.{some, some-injective, some-ne-none}
use lib.ListN.{get_elem?}
use Rattle.bw_gate.specs.declared.view.Piece.{Piece}
use Rattle.bw_gate.specs.declared.view.Piece.TheVariants.{Ticket}
use Rattle.bw_gate.specs.declared.view.View.{View}
use Rattle.atomic_table.specs.Seated.{TableId}
use Rattle.bw_gate.specs.Terms.{TermsView}
use Rattle.bw_gate.specs.Answers.{blank_found, ticket_found}
use Rattle.bw_gate.specs.declared.view.Found.{Found}
use Rattle.bw_gate.specs.Pieces.{BlankView, TicketView, found_in, last_word_found}
use Rattle.bw_gate.specs.Table.{held, held_by, held_by_all, pieces_of_all}
use Rattle.bw_gate.specs.Kinds.{with_pieces_of}

length_none : {X : Type 0} (xs : List X) → length xs ≡ 0 → xs ≡ []
length_none [] e = refl
length_none (x ∷ xs) e = absurd (omega (arith, e))

module _ {X : Type 0} where
  pub sum_set : (f : X → ℕ) (xs : List X) (i : ℕ) (x y : X) → get_elem? xs i ≡ some x → sum_by f (set xs i y) + f x ≡ sum_by f xs + f y
  sum_set f [] i x y e = absurd (some-ne-none x (sym e))
  sum_set f (z ∷ xs) zero x y e =
      let same : f z ≡ f x = ap f (some-injective z x e) in
      let a = sum_by-cons f z xs in
      let b = sum_by-cons f y xs in
      omega (arith, a, b, same)
  sum_set f (z ∷ xs) (suc i) x y e =
      let h = sum_set f xs i x y e in
      let a = sum_by-cons f z xs in
      let b = sum_by-cons f z (set xs i y) in
      omega (arith, a, b, h)

  pub sum_at : (f : X → ℕ) (xs : List X) (i : ℕ) (x : X) → get_elem? xs i ≡ some x → f x ≤ sum_by f xs
  sum_at f [] i x e = absurd (some-ne-none x (sym e))
  sum_at f (z ∷ xs) zero x e =
      let same : f z ≡ f x = ap f (some-injective z x e) in
      let a = sum_by-cons f z xs in
      omega (arith, a, same)
  sum_at f (z ∷ xs) (suc i) x e =
      let h = sum_at f xs i x e in
      let a = sum_by-cons f z xs in
      omega (arith, a, h)

  pub at_is : (xs : List X) (i : ℕ) (x : X) → get_elem? xs i ≡ some x → (i < length xs) × (get_or xs i x ≡ x)
  at_is [] i x e = absurd (some-ne-none x (sym e))
  at_is (z ∷ xs) zero x e = (omega arith, some-injective z x e)
  at_is (z ∷ xs) (suc i) x e = let h = at_is xs i x e in let a = h.0 in (omega arith, h.1)

  pub all_at : (P : X → Type 0) (xs : List X) (i : ℕ) (x : X) → get_elem? xs i ≡ some x → All P xs → P x
  all_at P xs i x e all = let h = at_is xs i x e in subst P h.1 (all i x h.0)

-- a sum over all views is that of one view, where this one has all pieces
none_else : (d : ℕ) (views : List View) → pieces_of_all views ≡ 0 → held_by_all d views ≡ 0
none_else d [] e = refl
none_else d (v ∷ views) e =
    let a = sum_by-cons (λ (u : View). length u.pieces) v views in
    let b = sum_by-cons (held_by d) v views in
    let short : length v.pieces ≡ 0 = omega (arith, a, e) in
    let rest = none_else d views (omega (arith, a, e)) in
    let here : held_by d v ≡ 0 = ap (λ ps. sum_by (held d) ps) (length_none v.pieces short) in
    omega (arith, b, rest, here)

pub alone : (d : ℕ) (views : List View) (id : ℕ) (v : View) → get_elem? views id ≡ some v → pieces_of_all views ≡ length v.pieces → held_by_all d views ≡ held_by d v
alone d [] id v at e = absurd (some-ne-none v (sym at))
alone d (u ∷ views) zero v at e =
    let same = some-injective u v at in
    let a = sum_by-cons (λ (w : View). length w.pieces) u views in
    let b = sum_by-cons (held_by d) u views in
    let long : length u.pieces ≡ length v.pieces = ap (λ (w : View). length w.pieces) same in
    let rest = none_else d views (omega (arith, a, e, long)) in
    let here : held_by d u ≡ held_by d v = ap (held_by d) same in
    omega (arith, b, rest, here)
alone d (u ∷ views) (suc id) v at e =
    let a = sum_by-cons (λ (w : View). length w.pieces) u views in
    let b = sum_by-cons (held_by d) u views in
    let most = sum_at (λ (w : View). length w.pieces) views id v at in
    let short : length u.pieces ≡ 0 = omega (arith, a, most, e) in
    let here : held_by d u ≡ 0 = ap (λ ps. sum_by (held d) ps) (length_none u.pieces short) in
    let rest = alone d views id v at (omega (arith, a, most, e)) in
    omega (arith, b, rest, here)

-- what one piece holds
pub held_one : (d : ℕ) (v : View) (p : Piece) → v.pieces ≡ p ∷ [] → held_by d v ≡ held d p
held_one d v p e = ap (λ ps. sum_by (held d) ps) e ∙ zero-add (held d p)

pub held_here : (d bw : ℕ) → held d (Ticket d bw) ≡ bw
held_here d bw = rw (eq-eqb d d refl) refl

pub held_else : (d e bw : ℕ) → e ≢ d → held e (Ticket d bw) ≡ 0
held_else d e bw ne = rw (ne_eqb d e (λ s. ne (sym s))) refl

-- the last word of those that were found
pub last_of_more : (found : List Found) (d n : ℕ) → last_word_found (found ++ found_in d (n ∷ [])) ≡ n
last_of_more [] d n = refl
last_of_more (x ∷ []) d n = refl
last_of_more (x ∷ y ∷ found) d n = last_of_more (y ∷ found) d n

-- the seat after a step that left this view with it
pub seat_after : (S : Type 0) (me after : Me S View) (w : View) (p : Piece) (found : List Found) (d n : ℕ) → me.1 ≡ [] → after ≡ (w, me.1) → w.pieces ≡ p ∷ [] → w.found ≡ found ++ found_in d (n ∷ []) → (after.1 ≡ []) × (after.0.pieces ≡ p ∷ []) × (n ≡ last_word_found after.0.found)
seat_after S me after w p found d n none e one more = (
  ap (λ (m : Me S View). m.1) e ∙ none,
  ap (λ (m : Me S View). m.0.pieces) e ∙ one,
  sym (ap (λ (m : Me S View). last_word_found m.0.found) e ∙ ap last_word_found more ∙ last_of_more found d n),
)

-- what a contract sees of a blank, after a step that found more words of a domain, and after two that found one each
abbrev seen_as : TableId → TermsView → List Found → BlankView
seen_as table terms found = record { gate = record { table = table; terms = terms }; found = found }

pub shown_after : (S : Type 0) (b : BlankView) (table now : TableId) (me after : Me S View) (w : View) (d : ℕ) (words : List ℕ)
    → seen_as table me.0.terms me.0.found ≡ b → now ≡ table → after ≡ (w, me.1) → w.terms ≡ me.0.terms → w.found ≡ me.0.found ++ found_in d words
    → seen_as now after.0.terms after.0.found ≡ blank_found b d words
shown_after S b table now me after w d words view same step terms found =
    ap (λ (t : TableId). seen_as t after.0.terms after.0.found) same
    ∙ ap (λ (m : Me S View). seen_as table m.0.terms m.0.found) step
    ∙ ap (λ (ts : TermsView). seen_as table ts w.found) terms
    ∙ ap (λ (ns : List Found). seen_as table me.0.terms ns) found
    ∙ ap (λ (x : BlankView). blank_found x d words) view

pub shown_twice : (S : Type 0) (b : BlankView) (table now later : TableId) (me mid after : Me S View) (v w : View) (d n m k : ℕ)
    → seen_as table me.0.terms me.0.found ≡ b → now ≡ table → mid ≡ (v, me.1) → v.terms ≡ me.0.terms → v.found ≡ me.0.found ++ found_in d (n ∷ [])
    → later ≡ now → after ≡ (w, mid.1) → w.terms ≡ mid.0.terms → w.found ≡ mid.0.found ++ found_in d (m ∷ []) → m ≡ k
    → seen_as later after.0.terms after.0.found ≡ blank_found b d (n ∷ k ∷ [])
shown_twice S b table now later me mid after v w d n m k view same step terms found same_again next kept more is =
    shown_after S (blank_found b d (n ∷ [])) now later mid after w d (m ∷ []) (shown_after S b table now me mid v d (n ∷ []) view same step terms found) same_again next kept more
    ∙ ap (λ (ns : List Found). seen_as b.gate.table b.gate.terms ns) (append_assoc b.found (found_in d (n ∷ [])) (found_in d (m ∷ [])) ∙ ap (λ (j : ℕ). b.found ++ found_in d (n ∷ j ∷ [])) is)

-- what a contract sees of a ticket, after a load and an exchange
abbrev pub blank_of : TicketView → BlankView
blank_of t = record { gate = t.gate; found = t.found }

abbrev pub as_ticket : BlankView → ℕ → ℕ → TicketView
as_ticket b d bw = record { gate = b.gate; domain = d; bw = bw; found = b.found }

pub ticket_shown : (S : Type 0) (t u : TicketView) (d bw own : ℕ) (table now : TableId) (me after : Me S View) (w : View) (n m k : ℕ)
    → seen_as table me.0.terms me.0.found ≡ blank_of u → u ≡ ticket_found t (n ∷ []) → d ≡ u.domain → bw ≡ own
    → now ≡ table → after ≡ (w, me.1) → w.terms ≡ me.0.terms → w.found ≡ me.0.found ++ found_in d (m ∷ []) → m ≡ k
    → as_ticket (seen_as now after.0.terms after.0.found) d bw ≡ as_ticket (blank_found (blank_of t) t.domain (n ∷ k ∷ [])) t.domain own
ticket_shown S t u d bw own table now me after w n m k view is domain held same step terms found known =
    let same_domain : d ≡ t.domain = domain ∙ ap (λ (x : TicketView). x.domain) is in
    let first : seen_as table me.0.terms me.0.found ≡ blank_found (blank_of t) t.domain (n ∷ []) = view ∙ ap blank_of is in
    let both : seen_as now after.0.terms after.0.found ≡ blank_found (blank_of t) t.domain (n ∷ k ∷ []) =
    shown_after S (blank_found (blank_of t) t.domain (n ∷ [])) table now me after w d (m ∷ []) first same step terms found
    ∙ ap (λ (e : ℕ). blank_found (blank_found (blank_of t) t.domain (n ∷ [])) e (m ∷ [])) same_domain
    ∙ ap (λ (ns : List Found). seen_as t.gate.table t.gate.terms ns) (append_assoc t.found (found_in t.domain (n ∷ [])) (found_in t.domain (m ∷ [])) ∙ ap (λ (j : ℕ). t.found ++ found_in t.domain (n ∷ j ∷ [])) known) in
    ap (λ (b : BlankView). as_ticket b d bw) both
    ∙ ap (λ (e : ℕ). as_ticket (blank_found (blank_of t) t.domain (n ∷ k ∷ [])) e bw) same_domain
    ∙ ap (λ (e : ℕ). as_ticket (blank_found (blank_of t) t.domain (n ∷ k ∷ [])) t.domain e) held

-- what an exchange tells, where it found the word that it expected, and where it did not
pub took : (n old : ℕ) (P Q : Type 0) → n ≡ old → MatchBool (n == old) P Q → P
took n old P Q e h = when_true P Q (eq-eqb n old e) h

pub missed : (n old : ℕ) (P Q : Type 0) → n ≢ old → MatchBool (n == old) P Q → Q
missed n old P Q ne h = when_false P Q (ne_eqb n old ne) h

-- a view that takes one piece in
pub gathered_holds : (d : ℕ) (v w : View) (p : Piece) → w.pieces ≡ p ∷ [] → held_by d (with_pieces_of v w) ≡ held_by d v + held d p
gathered_holds d v w p one =
    let a = sum_by-append (held d) v.pieces w.pieces in
    let b = held_one d w p one in
    omega (arith, a, b)

pub gathered_counts : (v w : View) (p : Piece) → w.pieces ≡ p ∷ [] → length (with_pieces_of v w).pieces ≡ length v.pieces + 1
gathered_counts v w p one =
    let a = length-append v.pieces w.pieces in
    let b : length w.pieces ≡ 1 = ap length one in
    omega (arith, a, b)

-- a number past the end of a list
pub past_end : (xs : List ℕ) (i : ℕ) → length xs ≤ i → get_or xs i 0 ≡ 0
past_end [] i le = refl
past_end (x ∷ xs) zero le = absurd (omega arith)
past_end (x ∷ xs) (suc i) le = past_end xs i (omega arith)

-- one more of the same
pub replicate_more : {X : Type 0} (n : ℕ) (x : X) → replicate n x ++ x ∷ [] ≡ replicate (n + 1) x
replicate_more zero x = refl
replicate_more (suc n) x = ap (λ xs. x ∷ xs) (replicate_more n x) ∙ ap (λ k. replicate k x) (let e : suc (n + 1) ≡ suc n + 1 = omega arith in e)

-- the first of some, and the others
pub first_of : {X : Type 0} (n : ℕ) (x : X) → 0 < n → take 1 (replicate n x) ≡ x ∷ []
first_of zero x lt = absurd (omega arith)
first_of (suc n) x lt = refl

pub others_of : {X : Type 0} (n : ℕ) (x : X) → 0 < n → drop 1 (replicate n x) ≡ replicate (n - 1) x
others_of zero x lt = absurd (omega arith)
others_of (suc n) x lt = ap (λ k. replicate k x) (let e : n ≡ suc n - 1 = omega arith in e)
