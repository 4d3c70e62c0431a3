-- Each kind of step keeps the rule.
use Rattle.std.proofs.Common.{◌≡◌, ◌≢◌, ◌≤◌, ◌<◌, ℕ, ◌+◌, ◌-◌, ◌*◌, ◌%◌, ◌^◌, ◌==◌, Bool, true, false, List, [], ◌∷◌, ◌++◌, length, set, get_or, take, drop, inl, inr, sym, refl, ap, ◌∙◌, subst, arith, eq-eqb, ne_eqb}
use Rattle.std.specs.Prelude.{◌⊎◌, MatchBool, if◌then◌else◌, slice_index}
use Rattle.std.specs.List.{sum_by}
use Rattle.std.proofs.Math.Nat.{add-mul-mod_self_left}
use Rattle.std.proofs.Math.Decide.{dec_lt}
use Rattle.std.proofs.lemmas.List.{length-set, length-append, length-replicate, take-append-drop, get_or-set_same, get_or-set_other}
use Rattle.std.proofs.lemmas.List.Elements.{All-set, All-push, All-cons}
use Rattle.std.proofs.lemmas.List.Sums.{sum_by-cons, sum_by-append, sum_by_push}
use Rattle.std.proofs.lemmas.List.Folds.{sum_by-replicate}
use mathlib.Core.Option.{some, none}
use mathlib.Core.Logic.{dite}
use native.Mathlib.Decide.{ℕ_discrete}
use prog.Atomic.{either}
use lib.ListN.{get_elem?}
use Rattle.atomic_table.specs.Table.{State, Me, step, Act, keeps, Valid, stepped, carried_after, Allows, Splits, Joins, Enters}
use Rattle.bw_gate.specs.declared.view.Piece.{Piece}
use Rattle.bw_gate.specs.declared.view.Piece.TheVariants.{Blank, Ticket}
use Rattle.bw_gate.specs.declared.view.View.{View}
use Rattle.bw_gate.specs.Terms.{TermsView, cpus_in, limit_in}
use Rattle.bw_gate.specs.Word.{used_of, cap_of, IsWord}
use Rattle.bw_gate.specs.Table.{held, held_by, held_by_all, limits_by, limits_by_all, Carries, IsTableKept, blank_table}
use Rattle.bw_gate.specs.Kinds.{with_found, with_limit_set, made, IsFound, Loads, Takes, Regrades, Gives, Limits, first_piece, other_pieces, without_found, Renews, without_piece, Comes, with_pieces_of, spent}
use Rattle.bw_gate.proofs.Parts.{less_used, same_cap}
use Rattle.bw_gate.proofs.Views.{past_end, sum_set, sum_at, all_at, alone, held_one, held_here, held_else}

abbrev one_of : ℕ → ℕ → ℕ
one_of d e = if e == d then 1 else 0

-- a view goes over into one of as many pieces, and the word of a domain goes with what they hold of it
module _ (terms : TermsView) (words : List ℕ) (views : List View) (id i n : ℕ) (v w : View) (kept : IsTableKept terms words views) (at : get_elem? views id ≡ some v) (inside : i < length terms.cpus) (pieces : length w.pieces ≡ length v.pieces) (same : w.terms ≡ v.terms) (others : (d : ℕ) → d ≢ i → held_by d w ≡ held_by d v) (word : used_of n + held_by i v ≡ used_of (slice_index words i) + held_by i w) (sound : IsWord (cpus_in terms i) n) (elsewhere : (d : ℕ) → d ≢ i → limits_by d w ≡ limits_by d v) (here : ((limits_by i w ≡ limits_by i v) × (cap_of n ≡ cap_of (slice_index words i))) ⊎ (limits_by i w ≡ limits_by i v + 1)) where
  word_after : (d : ℕ) → Dec (d ≡ i) → used_of (slice_index (set words i n) d) ≡ held_by_all d (set views id w)
  word_after d (yes e) =
      let short : i < length words = omega (arith, kept.count) in
      let a : get_or (set words i n) d 0 ≡ n = subst (λ k. get_or (set words i n) k 0 ≡ n) (sym e) (get_or-set_same words i n 0 short) in
      let s = sum_set (held_by i) views id v w at in
      let k = kept.exact i in
      let b : used_of n ≡ held_by_all i (set views id w) = omega (arith, s, k, word) in
      ap used_of a ∙ b ∙ ap (λ k. held_by_all k (set views id w)) (sym e)
  word_after d (no ne) =
      let a = get_or-set_other words i d n 0 ne in
      let s = sum_set (held_by d) views id v w at in
      let k = kept.exact d in
      let o = others d ne in
      let b : held_by_all d views ≡ held_by_all d (set views id w) = omega (arith, s, o) in
      ap used_of a ∙ k ∙ b

  sound_after : (d : ℕ) → d < length terms.cpus → Dec (d ≡ i) → IsWord (cpus_in terms d) (slice_index (set words i n) d)
  sound_after d lt (yes e) =
      let short : i < length words = omega (arith, kept.count) in
      subst (λ k. IsWord (cpus_in terms k) (get_or (set words i n) k 0)) (sym e) (subst (IsWord (cpus_in terms i)) (sym (get_or-set_same words i n 0 short)) sound)
  sound_after d lt (no ne) = subst (IsWord (cpus_in terms d)) (sym (get_or-set_other words i d n 0 ne)) (kept.sound d lt)

  abbrev cap_at_opening : ℕ → ℕ
  cap_at_opening d = cpus_in terms d * limit_in terms d

  opened_here : limits_by_all i (set views id w) ≡ 0 → ((limits_by i w ≡ limits_by i v) × (cap_of n ≡ cap_of (slice_index words i))) ⊎ (limits_by i w ≡ limits_by i v + 1) → cap_of n ≡ cap_at_opening i
  opened_here nobody (inl same) =
      let s = sum_set (limits_by i) views id v w at in
      let times = same.0 in
      same.1 ∙ kept.opened i inside (omega (arith, s, times, nobody))
  opened_here nobody (inr once) =
      let s = sum_set (limits_by i) views id v w at in
      absurd (omega (arith, s, once, nobody))

  opened_after : (d : ℕ) → d < length terms.cpus → Dec (d ≡ i) → limits_by_all d (set views id w) ≡ 0 → cap_of (slice_index (set words i n) d) ≡ cap_at_opening d
  opened_after d lt (yes e) nobody =
      let short : i < length words = omega (arith, kept.count) in
      let a : get_or (set words i n) d 0 ≡ n = subst (λ k. get_or (set words i n) k 0 ≡ n) (sym e) (get_or-set_same words i n 0 short) in
      ap cap_of a ∙ opened_here (subst (λ k. limits_by_all k (set views id w) ≡ 0) e nobody) here ∙ ap cap_at_opening (sym e)
  opened_after d lt (no ne) nobody =
      let a = get_or-set_other words i d n 0 ne in
      let s = sum_set (limits_by d) views id v w at in
      let o = elsewhere d ne in
      ap cap_of a ∙ kept.opened d lt (omega (arith, s, o, nobody))

  pub kept_after : IsTableKept terms (set words i n) (set views id w)
  kept_after = record {
    count = length-set words i n ∙ kept.count;
    exact = λ d. word_after d (ℕ_discrete d i);
    sound = λ d lt. sound_after d lt (ℕ_discrete d i);
    opened = λ d lt nobody. opened_after d lt (ℕ_discrete d i) nobody;
    pieces =
        let s = sum_set (λ (u : View). length u.pieces) views id v w at in
        let p = kept.pieces in
        omega (arith, s, pieces, p);
    carried = All-set (Carries terms) views id w (λ some. same ∙ all_at (Carries terms) views id v at kept.carried (omega (arith, pieces, some))) kept.carried;
  }

-- a limit that was set is one more of its domain, and none of another
limit_here : (d n : ℕ) (v : View) → limits_by d (with_limit_set d n v) ≡ limits_by d v + 1
limit_here d n v = sum_by_push (one_of d) v.limited_in d ∙ ap (λ k. limits_by d v + k) (one_here d)
  where
    one_here : (d : ℕ) → one_of d d ≡ 1
    one_here d = rw (eq-eqb d d refl) refl

limit_elsewhere : (e d n : ℕ) (v : View) → e ≢ d → limits_by e (with_limit_set d n v) ≡ limits_by e v
limit_elsewhere e d n v ne =
    let a = sum_by_push (one_of e) v.limited_in d in
    let b : one_of e d ≡ 0 = rw (ne_eqb d e (λ s. ne (sym s))) refl in
    omega (arith, a, b)

-- a fact about a test, by what it says
by_test : (n old : ℕ) (F : Bool → Type 0) → (n ≡ old → F true) → (n ≢ old → F false) → F (n == old)
by_test n old F hit miss = dite (ℕ_discrete n old) (λ e. subst F (sym (eq-eqb n old e)) (hit e)) (λ ne. subst F (sym (ne_eqb n old ne)) (miss ne))

less : (n k : ℕ) → k ≤ n → n < 2 ^ 64 → (n + (2 ^ 64 - k)) % 2 ^ 64 ≡ n - k
less n k le lt =
    let e : n + (2 ^ 64 - k) ≡ (n - k) + 2 ^ 64 * 1 = omega arith in
    let m = add-mul-mod_self_left (n - k) (2 ^ 64) 1 in
    let small : (n - k) % 2 ^ 64 ≡ n - k = omega arith in
    ap (λ x. x % 2 ^ 64) e ∙ m ∙ small

module _ {S : Type 0} where
  -- the rule of a gate
  abbrev pub Rule : TermsView → State S View → Type 0
  Rule terms s = IsTableKept terms s.words s.views

  found_at : (terms : TermsView) (s : State S View) (id d : ℕ) (v : View) → Rule terms s → get_elem? s.views id ≡ some v → d < length terms.cpus → v.terms ≡ terms → IsFound d v (slice_index s.words d)
  found_at terms s id d v kept at inside same =
      record {
        room = (let k = kept.exact d in let a = sum_at (held_by d) s.views id v at in omega (arith, k, a));
        word = subst (λ (t : TermsView). IsWord (cpus_in t d) (slice_index s.words d)) (sym same) (kept.sound d inside);
      }

  pub loads : (terms : TermsView) (slots id d : ℕ) (me : Me S View) → d < length terms.cpus → me.0.terms ≡ terms → Allows (Rule terms) slots id me d (λ n. n) (Loads (step slots d 0 0 none) me)
  loads terms slots id d me inside same s kept homes at bound =
      let n = slice_index s.words d in
      let v = me.0 in
      let found = found_at terms s id d v kept at inside same in
      (with_found d n v, keeps, tt, kept_after terms s.words s.views id d n v (with_found d n v) kept at inside refl refl (λ e ne. refl) refl (kept.sound d inside) (λ e ne. refl) (inl (refl, refl)), ((found, (refl, refl)), refl))

  -- a load of the first word, after which the piece has found nothing
  pub renews : (terms : TermsView) (slots id : ℕ) (me : Me S View) → 0 < length terms.cpus → Allows (Rule terms) slots id me 0 (λ n. n) (Renews (step slots 0 0 0 none) me)
  renews terms slots id me inside s kept homes at bound =
      let n = slice_index s.words 0 in
      let v = me.0 in
      (without_found v, keeps, tt, kept_after terms s.words s.views id 0 n v (without_found v) kept at inside refl refl (λ e ne. refl) refl (kept.sound 0 inside) (λ e ne. refl) (inl (refl, refl)), (refl, (refl, refl)))

  -- an exchange of one word for another, by a view of one piece that becomes another piece of this domain
  module _ (terms : TermsView) (slots id d old new : ℕ) (me : Me S View) (p q : Piece) (inside : d < length terms.cpus) (same : me.0.terms ≡ terms) (one : me.0.pieces ≡ p ∷ []) (others : (e : ℕ) → e ≢ d → held e q ≡ held e p) (word : used_of new + held d p ≡ used_of old + held d q) (sound : IsWord (cpus_in terms d) new) (still : cap_of new ≡ cap_of old) where
    abbrev v : View
    v = me.0

    abbrev IsMe : Me S View → Me S View → Type 0
    IsMe a b = a ≡ b

    abbrev Exchanged : State S View → Bool → Type 0
    Exchanged s b =
        let n = slice_index s.words d in
        (w : View) × (a : Act S) × Valid s.homes me.1 a × Rule terms (stepped s d (either b new n) id me.1 w a)
        × (((cap_of new ≡ cap_of old) × IsWord (cpus_in v.terms d) n)
        × MatchBool b (IsMe (w, carried_after me.1 a) (made q d n v, me.1)) (IsMe (w, carried_after me.1 a) (with_found d n v, me.1)))

    hit : (s : State S View) → Rule terms s → get_elem? s.views id ≡ some v → slice_index s.words d ≡ old → Exchanged s true
    hit s kept at e =
        let n = slice_index s.words d in
        let w = made q d n v in
        let piece : (k : ℕ) → held_by k w ≡ held k q = λ k. held_one k w q refl in
        let before : (k : ℕ) → held_by k v ≡ held k p = λ k. held_one k v p one in
        let rest : (k : ℕ) → k ≢ d → held_by k w ≡ held_by k v = λ k ne. piece k ∙ others k ne ∙ sym (before k) in
        let a = piece d in
        let b = before d in
        let sums : used_of new + held_by d v ≡ used_of (slice_index s.words d) + held_by d w = omega (arith, a, b, word, ap used_of e) in
        let count : 1 ≡ length v.pieces = sym (ap length one) in
        (w, keeps, tt, kept_after terms s.words s.views id d new v w kept at inside count refl rest sums sound (λ e ne. refl) (inl (refl, still ∙ ap cap_of (sym e))), ((still, (found_at terms s id d v kept at inside same).word), refl))

    miss : (s : State S View) → Rule terms s → get_elem? s.views id ≡ some v → Exchanged s false
    miss s kept at =
        let n = slice_index s.words d in
        (with_found d n v, keeps, tt, kept_after terms s.words s.views id d n v (with_found d n v) kept at inside refl refl (λ e ne. refl) refl (kept.sound d inside) (λ e ne. refl) (inl (refl, refl)), ((still, (found_at terms s id d v kept at inside same).word), refl))

    pub exchanges : Allows (Rule terms) slots id me d (λ n. either (n == old) new n) (λ n after. ((cap_of new ≡ cap_of old) × IsWord (cpus_in me.0.terms d) n) × MatchBool (n == old) (after ≡ (made q d n v, me.1)) (after ≡ (with_found d n v, me.1)))
    exchanges s kept homes at bound = by_test (slice_index s.words d) old (Exchanged s) (λ e. hit s kept at e) (λ ne. miss s kept at)

  pub takes : (terms : TermsView) (slots id d old new : ℕ) (me : Me S View) → d < length terms.cpus → me.0.terms ≡ terms → me.0.pieces ≡ Blank ∷ [] → used_of new ≡ used_of old + (new - old) → IsWord (cpus_in terms d) new → cap_of new ≡ cap_of old → Allows (Rule terms) slots id me d (λ n. either (n == old) new n) (Takes (step slots d old new none) me)
  takes terms slots id d old new me inside same one up sound still =
      let bw = new - old in
      let a = held_here d bw in
      let sums : used_of new + 0 ≡ used_of old + held d (Ticket d bw) = omega (arith, a, up) in
      exchanges terms slots id d old new me Blank (Ticket d bw) inside same one (λ e ne. held_else d e bw ne) sums sound still

  pub regrades : (terms : TermsView) (slots id d was old new : ℕ) (me : Me S View) → d < length terms.cpus → me.0.terms ≡ terms → me.0.pieces ≡ Ticket d was ∷ [] → used_of new + was ≡ used_of old + (new + was - old) → IsWord (cpus_in terms d) new → cap_of new ≡ cap_of old → Allows (Rule terms) slots id me d (λ n. either (n == old) new n) (Regrades (step slots d old new none) me)
  regrades terms slots id d was old new me inside same one up sound still =
      let bw = new + held_by d me.0 - old in
      let mine = held_one d me.0 (Ticket d was) one in
      let a = held_here d bw in
      let b = held_here d was in
      let sums : used_of new + held d (Ticket d was) ≡ used_of old + held d (Ticket d bw) = omega (arith, a, b, mine, up) in
      exchanges terms slots id d old new me (Ticket d was) (Ticket d bw) inside same one (λ e ne. held_else d e bw ne ∙ sym (held_else d e was ne)) sums sound still

  pub gives : (terms : TermsView) (slots id d bw : ℕ) (me : Me S View) → d < length terms.cpus → me.0.terms ≡ terms → me.0.pieces ≡ Ticket d bw ∷ [] → Allows (Rule terms) slots id me d (λ n. (n + (2 ^ 64 - bw)) % 2 ^ 64) (Gives (step slots d bw 0 none) me)
  gives terms slots id d bw me inside same one s kept homes at bound =
      let n = slice_index s.words d in
      let v = me.0 in
      let w = made Blank d n v in
      let found = found_at terms s id d v kept at inside same in
      let before : (k : ℕ) → held_by k v ≡ held k (Ticket d bw) = λ k. held_one k v (Ticket d bw) one in
      let mine = before d in
      let here = held_here d bw in
      let room : bw ≤ used_of n = omega (arith, found.room, mine, here) in
      let now = less n bw (omega (arith, room)) bound in
      let after = less_used n bw room in
      let used : used_of ((n + (2 ^ 64 - bw)) % 2 ^ 64) ≡ used_of n - bw = ap used_of now ∙ after.0 in
      let cap : cap_of ((n + (2 ^ 64 - bw)) % 2 ^ 64) ≡ cap_of n = ap cap_of now ∙ after.1 in
      let rest : (k : ℕ) → k ≢ d → held_by k w ≡ held_by k v = λ k ne. sym (before k ∙ held_else d k bw ne) in
      let sums : used_of ((n + (2 ^ 64 - bw)) % 2 ^ 64) + held_by d v ≡ used_of n + held_by d w = omega (arith, used, mine, here, room) in
      let sound : IsWord (cpus_in terms d) ((n + (2 ^ 64 - bw)) % 2 ^ 64) = same_cap (cpus_in terms d) n _ (kept.sound d inside) cap (omega (arith, used, (kept.sound d inside).within)) in
      let count : 1 ≡ length v.pieces = sym (ap length one) in
      (w, keeps, tt, kept_after terms s.words s.views id d ((n + (2 ^ 64 - bw)) % 2 ^ 64) v w kept at inside count refl rest sums sound (λ e ne. refl) (inl (refl, cap)), ((found, sym (mine ∙ here), refl), refl))

  -- an exchange of a word for one of which as much is used, by a seat that stays as it is
  pub limits : (terms : TermsView) (slots id d old new : ℕ) (me : Me S View) → d < length terms.cpus → me.0.terms ≡ terms → me.0.pieces ≡ Blank ∷ [] → used_of new ≡ used_of old → IsWord (cpus_in terms d) new → Allows (Rule terms) slots id me d (λ n. either (n == old) new n) (Limits (step slots d old new none) me)
  limits terms slots id d old new me inside same one used sound s kept homes at bound =
      let v = me.0 in
      let n = slice_index s.words d in
      let Same : Me S View → Me S View → Type 0 = λ a b. a ≡ b in
      let Exchanged : Bool → Type 0 = λ b.
      (w : View) × (a : Act S) × Valid s.homes me.1 a × Rule terms (stepped s d (either b new n) id me.1 w a)
      × (((v.pieces ≡ Blank ∷ []) × IsWord (cpus_in v.terms d) n) × MatchBool b (Same (w, carried_after me.1 a) (with_limit_set d new v, me.1)) (Same (w, carried_after me.1 a) (with_found d n v, me.1))) in
      let sound_here = (found_at terms s id d v kept at inside same).word in
      by_test n old Exchanged
      (λ e. (with_limit_set d new v, keeps, tt, kept_after terms s.words s.views id d new v (with_limit_set d new v) kept at inside refl refl (λ k ne. refl) (let a = ap used_of e in omega (arith, a, used)) sound (λ k ne. limit_elsewhere k d new v ne) (inr (limit_here d new v)), ((one, sound_here), refl)))
      (λ ne. (with_found d n v, keeps, tt, kept_after terms s.words s.views id d n v (with_found d n v) kept at inside refl refl (λ k no. refl) refl (kept.sound d inside) (λ k no. refl) (inl (refl, refl)), ((one, sound_here), refl)))

  -- a view of as many pieces is cut in two
  pub splits : (terms : TermsView) (id : ℕ) (v : View) → Splits (Rule terms) id v (other_pieces v) (first_piece v)
  splits terms id v s kept at =
      let l = other_pieces v in
      let r = first_piece v in
      let views = set s.views id l in
      let whole : take 1 v.pieces ++ drop 1 v.pieces ≡ v.pieces = take-append-drop 1 v.pieces in
      let sums : (f : Piece → ℕ) → sum_by f r.pieces + sum_by f l.pieces ≡ sum_by f v.pieces = λ f. sym (sum_by-append f r.pieces l.pieces) ∙ ap (sum_by f) whole in
      let lengths : length r.pieces + length l.pieces ≡ length v.pieces = sym (length-append r.pieces l.pieces) ∙ ap length whole in
      let exact : (d : ℕ) → used_of (slice_index s.words d) ≡ held_by_all d (views ++ r ∷ []) = λ d.
      let a = sum_by_push (held_by d) views r in
      let b = sum_set (held_by d) s.views id v l at in
      let e = kept.exact d in
      let h = sums (held d) in
      omega (arith, a, b, e, h) in
      let count : (f : View → ℕ) → f r + f l ≡ f v → sum_by f (views ++ r ∷ []) ≡ sum_by f s.views = λ f h.
      let a = sum_by_push f views r in
      let b = sum_set f s.views id v l at in
      omega (arith, a, b, h) in
      let mine : Carries terms v = all_at (Carries terms) s.views id v at kept.carried in
      let left : Carries terms l = λ some. mine (omega (arith, lengths, some)) in
      let right : Carries terms r = λ some. mine (omega (arith, lengths, some)) in
      record {
        count = kept.count;
        exact = exact;
        sound = kept.sound;
        opened = λ d lt nobody.
            let a = sum_by_push (limits_by d) views r in
            let b = sum_set (limits_by d) s.views id v l at in
            kept.opened d lt (omega (arith, a, b, nobody));
        pieces = count (λ (u : View). length u.pieces) lengths ∙ kept.pieces;
        carried = All-push (Carries terms) views r (All-set (Carries terms) s.views id l left kept.carried) right;
      }

  -- two views are made one, and the other is left with no piece
  pub joins : (terms : TermsView) (id other : ℕ) (v w : View) → v.terms ≡ terms → Joins (Rule terms) id v other w (with_pieces_of v w) spent
  joins terms id other v w same s kept at apart there =
      let both = with_pieces_of v w in
      let views = set s.views id both in
      let all = set views other spent in
      let count : (f : View → ℕ) → f both ≡ f v + f w → f spent ≡ 0 → sum_by f all ≡ sum_by f s.views = λ f h none.
      let a = sum_set f s.views id v both at in
      let b = sum_set f views other w spent there in
      omega (arith, a, b, h, none) in
      record {
        count = kept.count;
        exact = λ d. kept.exact d ∙ sym (count (held_by d) (sum_by-append (held d) v.pieces w.pieces) refl);
        sound = kept.sound;
        opened = λ d lt nobody. kept.opened d lt (sym (count (limits_by d) (sum_by-append (one_of d) v.limited_in w.limited_in) refl) ∙ nobody);
        pieces = count (λ (u : View). length u.pieces) (length-append v.pieces w.pieces) refl ∙ kept.pieces;
        carried = All-set (Carries terms) views other spent (λ some. absurd (omega arith)) (All-set (Carries terms) s.views id both (λ _. same) kept.carried);
      }

  -- a seat comes that has no piece
  pub comes : (terms : TermsView) (slots d : ℕ) → Enters (Rule terms) slots d (λ n w. Comes {S = S} (step slots d 0 0 none) (blank_table terms, []) n (w, []))
  comes terms slots d s kept homes bound =
      let w = without_piece (blank_table terms) in
      let count : (f : View → ℕ) → f w ≡ 0 → sum_by f (s.views ++ w ∷ []) ≡ sum_by f s.views = λ f none.
      let a = sum_by_push f s.views w in
      omega (arith, a, none) in (
        w,
        record {
          count = kept.count;
          exact = λ e. kept.exact e ∙ sym (count (held_by e) refl);
          sound = kept.sound;
          opened = λ e lt nobody. kept.opened e lt (sym (count (limits_by e) refl) ∙ nobody);
          pieces = count (λ (u : View). length u.pieces) refl ∙ kept.pieces;
          carried = All-push (Carries terms) s.views w kept.carried (λ _. refl);
        },
        (refl, (refl, refl)),
      )

-- the rule at the start, where nothing is used of any word and one seat has all pieces, which are blank
pub begins : (terms : TermsView) (words : List ℕ) → length words ≡ length terms.cpus → ((d : ℕ) → used_of (slice_index words d) ≡ 0) → ((d : ℕ) → d < length terms.cpus → IsWord (cpus_in terms d) (slice_index words d)) → ((d : ℕ) → d < length terms.cpus → cap_of (slice_index words d) ≡ cpus_in terms d * limit_in terms d) → IsTableKept terms words (blank_table terms ∷ [])
begins terms words long zeros sound caps =
    let held_none : (d : ℕ) → held_by_all d (blank_table terms ∷ []) ≡ 0 = λ d.
    let a = sum_by-cons (held_by d) (blank_table terms) [] in
    let b = sum_by-replicate (held d) terms.pieces Blank in
    omega (arith, a, b) in
    record {
      count = long;
      exact = λ d. zeros d ∙ sym (held_none d);
      sound = sound;
      opened = λ d lt nobody. caps d lt;
      pieces = (let a = sum_by-cons (λ (u : View). length u.pieces) (blank_table terms) [] in let b = length-replicate terms.pieces Blank in omega (arith, a, b));
      carried = All-cons (Carries terms) (blank_table terms) [] (λ _. refl) (λ k w h. absurd (omega arith));
    }

-- at the end, a seat's view among those of the rule: each word has room for what it holds; and where it has all pieces, what is
-- used of each word is what it holds
pub ends : (terms : TermsView) (words : List ℕ) (views : List View) (id : ℕ) (v : View) (d : ℕ) → IsTableKept terms words views → get_elem? views id ≡ some v → (held_by d v ≤ used_of (slice_index words d)) × (length v.pieces ≡ terms.pieces → used_of (slice_index words d) ≡ held_by d v)
ends terms words views id v d kept at = (
  (let a = sum_at (held_by d) views id v at in let e = kept.exact d in omega (arith, a, e)),
  (λ all. kept.exact d ∙ alone d views id v at (kept.pieces ∙ sym all)),
)

-- what is used is at most the cap, where there is no domain too
module _ (terms : TermsView) (words : List ℕ) (views : List View) (d : ℕ) (kept : IsTableKept terms words views) where
  within_by_case : Dec (d < length terms.cpus) → used_of (slice_index words d) ≤ cap_of (slice_index words d)
  within_by_case (yes lt) = (kept.sound d lt).within
  within_by_case (no ge) =
      let none = ap used_of (past_end words d (omega (arith, kept.count, ge))) in
      omega (arith, none)

  pub within : used_of (slice_index words d) ≤ cap_of (slice_index words d)
  within = within_by_case (dec_lt d (length terms.cpus))
