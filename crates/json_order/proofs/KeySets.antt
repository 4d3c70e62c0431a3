-- Sets of keys: what stands in the table, and a key more.
use Rattle.std.specs.Prelude.{if◌then◌else◌, ◌==◌}
use Rattle.std.specs.List.{All}
use Rattle.std.specs.Str.{bytes_eq}
use Rattle.std.specs.BTreeSet.{BTreeSet, contains_text}
use Rattle.std.specs.declared.string.String.{String}
use Rattle.std.specs.declared.alloc.Global.{Global}
use Rattle.std.proofs.Math.ListN.{set, replicate}
use Rattle.std.proofs.Math.Seq.{take-set-lt}
use Rattle.std.proofs.lemmas.Bool.{eq-eqb, cases_lt}
use Rattle.std.proofs.lemmas.Bool.Decides.{nat_tests}
use Rattle.std.proofs.lemmas.List.{length-set, take-set-le, drop-set-lt, drop-set-add, get_or-take, get_or-drop, length-append, length-take, length-drop, length-replicate, take_more}
use Rattle.std.proofs.lemmas.List.Elements.{All-set, All-weaker, All-replicate, All-take, All-drop}
use Rattle.std.proofs.lemmas.Slice.Eq.{bytes_eq-Decides}
use Rattle.std.proofs.Common.{ℕ, zero, suc, ◌+◌, ◌-◌, ◌<◌, ◌≤◌, ◌≡◌, ◌⊎◌, inl, inr, Bool, true, false, cond, ◌&&◌, ◌||◌, List, [], ◌∷◌, ◌++◌, length, get_or, take, drop, Some, refl, sym, ap, ◌∙◌, subst, arith}
use Rattle.json_order.specs.Grammar.{has_key}
use Rattle.json_order.specs.Lent.{text_bytes}
use Rattle.json_order.specs.private.Entries.{keys_of}
use Rattle.json_order.specs.private.Marks.{mark_of}
use Rattle.json_order.specs.private.KeySets.{is_key_named, is_key_at, slots_taken, finds, start_of, window, or_beside, has_text, Table, HasKeys}
use Rattle.json_order.specs.declared.key_set.KeySet.{KeySet}
use Rattle.json_order.specs.declared.key_set.Slot.{Slot}
use Rattle.json_order.specs.declared.lent.LentText.{LentText}
use Rattle.json_order.specs.declared.lent.LentTree.{LentTree}
use Rattle.json_order.proofs.Keys.{keys_push}

pub none_of : {X : Type 0} (xs : List X) → length xs ≡ 0 → xs ≡ []
none_of [] e = refl
none_of (x ∷ xs) e = absurd (omega arith)

both : (a b : Bool) → (a && b) ≡ true → (a ≡ true) × (b ≡ true)
both true true h = (refl, refl)
both true false h = cc
both false b h = cc

or_right : (a b : Bool) → b ≡ true → (a || b) ≡ true
or_right true b h = refl
or_right false b h = h

-- two tests of which each follows from the other
eq_by : (a b : Bool) → (a ≡ true → b ≡ true) → (b ≡ true → a ≡ true) → a ≡ b
eq_by true b f g = sym (f refl)
eq_by false true f g = g refl
eq_by false false f g = refl

-- KEYS BY THEIR PLACES

pub named_at : (ms : List (LentText × LentTree)) (i : ℕ) (m : LentText × LentTree) (key : List ℕ) → i < length ms → m ≡ get_or ms i m → is_key_named (keys_of ms) i key ≡ bytes_eq (text_bytes m.0) key
named_at [] i m key l e = absurd (omega arith)
named_at (x ∷ ms) zero m key l e = ap (λ y. bytes_eq (text_bytes y.0) key) (sym e)
named_at (x ∷ ms) (suc i) m key l e = named_at ms i m key (omega arith) e

named_has : (ks : List (List ℕ)) (i : ℕ) (key : List ℕ) → is_key_named ks i key ≡ true → has_key ks key ≡ true
named_has [] i key h = cc
named_has (k ∷ ks) zero key h = ap (λ b. b || has_key ks key) h
named_has (k ∷ ks) (suc i) key h = or_right (bytes_eq k key) (has_key ks key) (named_has ks i key h)

named_front : (ks ls : List (List ℕ)) (i : ℕ) (key : List ℕ) → is_key_named ks i key ≡ true → is_key_named (ks ++ ls) i key ≡ true
named_front [] ls i key h = cc
named_front (k ∷ ks) ls zero key h = h
named_front (k ∷ ks) ls (suc i) key h = named_front ks ls i key h

named_last : (ks : List (List ℕ)) (k key : List ℕ) → is_key_named (ks ++ k ∷ []) (length ks) key ≡ bytes_eq k key
named_last [] k key = refl
named_last (x ∷ ks) k key = named_last ks k key

-- one of the keys and one more
has_more : (ks : List (List ℕ)) (k key : List ℕ) → has_key (ks ++ k ∷ []) key ≡ true → (has_key ks key ≡ true) ⊎ (bytes_eq k key ≡ true)
has_more [] k key h = go (bytes_eq k key) h
  where
    go : (b : Bool) → (b || false) ≡ true → (false ≡ true) ⊎ (b ≡ true)
    go true h = inr refl
    go false h = cc
has_more (x ∷ ks) k key h = go (bytes_eq x key) h (λ g. has_more ks k key g)
  where
    go : (b : Bool) → (b || has_key (ks ++ k ∷ []) key) ≡ true → (has_key (ks ++ k ∷ []) key ≡ true → (has_key ks key ≡ true) ⊎ (bytes_eq k key ≡ true)) → ((b || has_key ks key) ≡ true) ⊎ (bytes_eq k key ≡ true)
    go true h f = inl refl
    go false h f = f h

has_front : (ks : List (List ℕ)) (k key : List ℕ) → has_key ks key ≡ true → has_key (ks ++ k ∷ []) key ≡ true
has_front [] k key h = cc
has_front (x ∷ ks) k key h = go (bytes_eq x key) h (λ g. has_front ks k key g)
  where
    go : (b : Bool) → (b || has_key ks key) ≡ true → (has_key ks key ≡ true → has_key (ks ++ k ∷ []) key ≡ true) → (b || has_key (ks ++ k ∷ []) key) ≡ true
    go true h f = refl
    go false h f = f h

has_last : (ks : List (List ℕ)) (k key : List ℕ) → bytes_eq k key ≡ true → has_key (ks ++ k ∷ []) key ≡ true
has_last [] k key h = ap (λ b. b || false) h
has_last (x ∷ ks) k key h = or_right (bytes_eq x key) (has_key (ks ++ k ∷ []) key) (has_last ks k key h)

bytes_same : (xs : List ℕ) → bytes_eq xs xs ≡ true
bytes_same xs = grind (arith, bytes_eq-Decides)

not_zero : (n : ℕ) → 0 < n → (n == 0) ≡ false
not_zero n h = grind (arith, nat_tests)

same_bytes : (xs ys : List ℕ) → bytes_eq xs ys ≡ true → xs ≡ ys
same_bytes xs ys h = grind (arith, bytes_eq-Decides)

-- WHAT IS FOUND

-- what is found is a key
sound : (w : List Slot) (ks : List (List ℕ)) (mark : ℕ) (key : List ℕ) (b : Bool) → (b ≡ true → has_key ks key ≡ true) → or_beside (finds w ks mark key) b ≡ true → has_key ks key ≡ true
sound [] ks mark key b f h = f h
sound (s ∷ w) ks mark key b f h = go (s.number == 0) (is_key_at ks mark key s) (λ a. named_has ks (s.number - 1) key (both (s.mark == mark) (is_key_named ks (s.number - 1) key) a).1) (λ g. sound w ks mark key b f g) h
  where
    go : (free here : Bool) → (here ≡ true → has_key ks key ≡ true) → (or_beside (finds w ks mark key) b ≡ true → has_key ks key ≡ true) → or_beside (if free then Some false else if here then Some true else finds w ks mark key) b ≡ true → has_key ks key ≡ true
    go true here g m h = cc
    go false true g m h = g refl
    go false false g m h = m h

at_more : (ks ls : List (List ℕ)) (mark : ℕ) (key : List ℕ) (s : Slot) → is_key_at ks mark key s ≡ true → is_key_at (ks ++ ls) mark key s ≡ true
at_more ks ls mark key s h =
    let p = both (s.mark == mark) (is_key_named ks (s.number - 1) key) h in
    rw (p.0, named_front ks ls (s.number - 1) key p.1) refl

-- what is found stays found, with more keys
grown : (w : List Slot) (ks ls : List (List ℕ)) (mark : ℕ) (key : List ℕ) (b c : Bool) → (b ≡ true → c ≡ true) → or_beside (finds w ks mark key) b ≡ true → or_beside (finds w (ks ++ ls) mark key) c ≡ true
grown [] ks ls mark key b c f h = f h
grown (s ∷ w) ks ls mark key b c f h = go (s.number == 0) (is_key_at ks mark key s) (is_key_at (ks ++ ls) mark key s) (at_more ks ls mark key s) (λ g. grown w ks ls mark key b c f g) h
  where
    go : (free here there : Bool) → (here ≡ true → there ≡ true) → (or_beside (finds w ks mark key) b ≡ true → or_beside (finds w (ks ++ ls) mark key) c ≡ true) → or_beside (if free then Some false else if here then Some true else finds w ks mark key) b ≡ true → or_beside (if free then Some false else if there then Some true else finds w (ks ++ ls) mark key) c ≡ true
    go true here there g m h = cc
    go false here true g m h = refl
    go false true false g m h = let z = g refl in cc
    go false false false g m h = m h

-- and where a slot that was free is taken
kept : (w : List Slot) (i : ℕ) (new d : Slot) (ks ls : List (List ℕ)) (mark : ℕ) (key : List ℕ) (b : Bool) → i < length w → (get_or w i d).number ≡ 0 → or_beside (finds w ks mark key) b ≡ true → or_beside (finds (set w i new) (ks ++ ls) mark key) b ≡ true
kept [] i new d ks ls mark key b l e h = absurd (omega arith)
kept (s ∷ w) zero new d ks ls mark key b l e h =
    let z : (s.number == 0) ≡ true = eq-eqb s.number 0 e in
    let never : false ≡ true = rw z at h in cc
kept (s ∷ w) (suc i) new d ks ls mark key b l e h = go (s.number == 0) (is_key_at ks mark key s) (is_key_at (ks ++ ls) mark key s) (at_more ks ls mark key s) (λ g. kept w i new d ks ls mark key b (omega arith) e g) h
  where
    go : (free here there : Bool) → (here ≡ true → there ≡ true) → (or_beside (finds w ks mark key) b ≡ true → or_beside (finds (set w i new) (ks ++ ls) mark key) b ≡ true) → or_beside (if free then Some false else if here then Some true else finds w ks mark key) b ≡ true → or_beside (if free then Some false else if there then Some true else finds (set w i new) (ks ++ ls) mark key) b ≡ true
    go true here there g m h = cc
    go false here true g m h = refl
    go false true false g m h = let z = g refl in cc
    go false false false g m h = m h

-- behind the taken slots one is free
gap : (w : List Slot) (d : Slot) → slots_taken w < length w → (get_or w (slots_taken w) d).number ≡ 0
gap [] d l = absurd (omega arith)
gap (s ∷ w) d l = go (s.number == 0) refl (λ g. gap w d g) l
  where
    go : (free : Bool) → (s.number == 0) ≡ free → (slots_taken w < length w → (get_or w (slots_taken w) d).number ≡ 0) → (if free then 0 else suc (slots_taken w)) < suc (length w) → (get_or (s ∷ w) (if free then 0 else suc (slots_taken w)) d).number ≡ 0
    go true e f l = grind (arith, nat_tests)
    go false e f l = f (omega arith)

pub taken_most : (w : List Slot) → slots_taken w ≤ length w
taken_most [] = omega arith
taken_most (s ∷ w) = go (s.number == 0) (taken_most w)
  where
    go : (free : Bool) → slots_taken w ≤ length w → (if free then 0 else suc (slots_taken w)) ≤ suc (length w)
    go true l = omega arith
    go false l = omega arith

-- a key that takes that slot is found
stored_found : (w : List Slot) (new : Slot) (ks : List (List ℕ)) (mark : ℕ) (key : List ℕ) (b : Bool) → slots_taken w < length w → (new.number == 0) ≡ false → is_key_at ks mark key new ≡ true → or_beside (finds (set w (slots_taken w) new) ks mark key) b ≡ true
stored_found [] new ks mark key b l n a = absurd (omega arith)
stored_found (s ∷ w) new ks mark key b l n a = go (s.number == 0) refl (λ g. stored_found w new ks mark key b g n a) l
  where
    go : (free : Bool) → (s.number == 0) ≡ free → (slots_taken w < length w → or_beside (finds (set w (slots_taken w) new) ks mark key) b ≡ true) → (if free then 0 else suc (slots_taken w)) < suc (length w) → or_beside (finds (set (s ∷ w) (if free then 0 else suc (slots_taken w)) new) ks mark key) b ≡ true
    go true e f l = rw (n, a) refl
    go false e f l = rw e (here (is_key_at ks mark key s) (f (omega arith)))
      where
        here : (x : Bool) → or_beside (finds (set w (slots_taken w) new) ks mark key) b ≡ true → or_beside (if x then Some true else finds (set w (slots_taken w) new) ks mark key) b ≡ true
        here true h = refl
        here false h = h

-- and one for which no slot is left is looked for beside the table
full_found : (w : List Slot) (ks : List (List ℕ)) (mark : ℕ) (key : List ℕ) → slots_taken w ≡ length w → or_beside (finds w ks mark key) true ≡ true
full_found [] ks mark key e = refl
full_found (s ∷ w) ks mark key e = go (s.number == 0) (is_key_at ks mark key s) (λ g. full_found w ks mark key g) e
  where
    go : (free here : Bool) → (slots_taken w ≡ length w → or_beside (finds w ks mark key) true ≡ true) → (if free then 0 else suc (slots_taken w)) ≡ suc (length w) → or_beside (if free then Some false else if here then Some true else finds w ks mark key) true ≡ true
    go true here f e = absurd (omega arith)
    go false true f e = refl
    go false false f e = f (omega arith)

-- THE TABLE

pub told : (slots : List Slot) (others : BTreeSet (String Global)) (ks : List (List ℕ)) → Table slots others ks → (key : List ℕ) → has_text slots others ks key ≡ has_key ks key
told slots others ks t key =
    eq_by (has_text slots others ks key) (has_key ks key)
    (sound (window (mark_of key) slots) ks (mark_of key) key (contains_text others key) (t.beside key))
    (t.all key)

-- the slots for a mark, where one that is free is taken
window_kept : (slots : List Slot) (j : ℕ) (new d : Slot) (ks ls : List (List ℕ)) (n mark : ℕ) (key : List ℕ) (b : Bool) → j < length slots → (get_or slots j d).number ≡ 0 → or_beside (finds (take 8 (drop n slots)) ks mark key) b ≡ true → or_beside (finds (take 8 (drop n (set slots j new))) (ks ++ ls) mark key) b ≡ true
window_kept slots j new d ks ls n mark key b l e h = elim (cases_lt j n) [ inl before ↦ front before | inr after ↦ behind (j - n) (omega arith) ]
  where
    front : j < n → or_beside (finds (take 8 (drop n (set slots j new))) (ks ++ ls) mark key) b ≡ true
    front before = rw (drop-set-lt n slots j new before) (grown (take 8 (drop n slots)) ks ls mark key b b (λ g. g) h)

    -- within the slots for the mark, or behind them
    within : (r : ℕ) → j ≡ n + r → (r < 8) ⊎ (8 ≤ r) → or_beside (finds (take 8 (set (drop n slots) r new)) (ks ++ ls) mark key) b ≡ true
    within r q (inl near) =
        let here : get_or (take 8 (drop n slots)) r d ≡ get_or slots j d = get_or-take 8 (drop n slots) r d near ∙ get_or-drop n slots r d ∙ ap (λ i. get_or slots i d) (sym q) in
        let long : r < length (take 8 (drop n slots)) = omega (arith, length-take 8 (drop n slots), length-drop n slots) in
        rw (take-set-lt 8 (drop n slots) r new near) (kept (take 8 (drop n slots)) r new d ks ls mark key b long (ap (λ s. s.number) here ∙ e) h)
    within r q (inr far) = rw (take-set-le 8 (drop n slots) r new far) (grown (take 8 (drop n slots)) ks ls mark key b b (λ g. g) h)

    behind : (r : ℕ) → j ≡ n + r → or_beside (finds (take 8 (drop n (set slots j new))) (ks ++ ls) mark key) b ≡ true
    behind r q = rw (q, drop-set-add n slots r new) (within r q (cases_lt r 8))

-- the slot behind the taken ones is free, and is one of the table
slot_free : (slots : List Slot) (n : ℕ) (d : Slot) → slots_taken (take 8 (drop n slots)) < 8 → n + 8 ≤ length slots → (get_or slots (n + slots_taken (take 8 (drop n slots))) d).number ≡ 0
slot_free slots n d l m =
    let w = take 8 (drop n slots) in
    let long : slots_taken w < length w = omega (arith, length-take 8 (drop n slots), length-drop n slots) in
    ap (λ s. s.number) (sym (get_or-take 8 (drop n slots) (slots_taken w) d l ∙ get_or-drop n slots (slots_taken w) d)) ∙ gap w d long

-- the key that takes it is found
here_found : (slots : List Slot) (n : ℕ) (new : Slot) (ks : List (List ℕ)) (mark : ℕ) (k : List ℕ) (b : Bool) → slots_taken (take 8 (drop n slots)) < 8 → n + 8 ≤ length slots → new.mark ≡ mark → new.number ≡ length ks + 1 → or_beside (finds (take 8 (drop n (set slots (n + slots_taken (take 8 (drop n slots))) new))) (ks ++ k ∷ []) mark k) b ≡ true
here_found slots n new ks mark k b l m e f =
    let w = take 8 (drop n slots) in
    let long : slots_taken w < length w = omega (arith, length-take 8 (drop n slots), length-drop n slots) in
    let named_it : is_key_named (ks ++ k ∷ []) (new.number - 1) k ≡ true = (let i : new.number - 1 ≡ length ks = omega arith in ap (λ x. is_key_named (ks ++ k ∷ []) x k) i ∙ named_last ks k k ∙ bytes_same k) in
    let it : is_key_at (ks ++ k ∷ []) mark k new ≡ true = rw (eq-eqb new.mark mark e, named_it) refl in
    let some : (new.number == 0) ≡ false = not_zero new.number (omega arith) in
    rw (drop-set-add n slots (slots_taken w) new, take-set-lt 8 (drop n slots) (slots_taken w) new l) (stored_found w new (ks ++ k ∷ []) mark k b long some it)

-- a key more, in the table
pub stored : (slots : List Slot) (others : BTreeSet (String Global)) (ks : List (List ℕ)) (k : List ℕ) (new d : Slot) (n : ℕ) → Table slots others ks → n ≡ start_of (length slots) (mark_of k) → n + 8 ≤ length slots → slots_taken (take 8 (drop n slots)) < 8 → new.mark ≡ mark_of k → new.number ≡ length ks + 1 → Table (set slots (n + slots_taken (take 8 (drop n slots))) new) others (ks ++ k ∷ [])
stored slots others ks k new d n t q m l e f = record {
  wide = (let w = t.wide in omega (arith, length-set slots j new));
  numbers = All-set (λ s. s.number ≤ length (ks ++ k ∷ [])) slots j new (omega (arith, more)) (All-weaker (λ s. s.number ≤ length ks) (λ s. s.number ≤ length (ks ++ k ∷ [])) (λ s g. omega (arith, more)) slots t.numbers);
  beside = λ key h. has_front ks k key (t.beside key h);
  all = λ key h. rw (length-set slots j new) (elim (has_more ks k key h) [ inl old ↦ before key (t.all key old) | inr same ↦ here key (same_bytes k key same) ]);
}
  where
    j : ℕ
    j = n + slots_taken (take 8 (drop n slots))

    more : length (ks ++ k ∷ []) ≡ length ks + 1
    more = length-append ks (k ∷ [])

    before : (key : List ℕ) → has_text slots others ks key ≡ true → or_beside (finds (take 8 (drop (start_of (length slots) (mark_of key)) (set slots j new))) (ks ++ k ∷ []) (mark_of key) key) (contains_text others key) ≡ true
    before key h = window_kept slots j new d ks (k ∷ []) (start_of (length slots) (mark_of key)) (mark_of key) key (contains_text others key) (omega arith) (slot_free slots n d l m) h

    here : (key : List ℕ) → k ≡ key → or_beside (finds (take 8 (drop (start_of (length slots) (mark_of key)) (set slots j new))) (ks ++ k ∷ []) (mark_of key) key) (contains_text others key) ≡ true
    here key same = subst (λ x. or_beside (finds (take 8 (drop (start_of (length slots) (mark_of x)) (set slots j new))) (ks ++ k ∷ []) (mark_of x) x) (contains_text others x) ≡ true) same (subst (λ x. or_beside (finds (take 8 (drop x (set slots j new))) (ks ++ k ∷ []) (mark_of k) k) (contains_text others k) ≡ true) q (here_found slots n new ks (mark_of k) k (contains_text others k) l m e f))

-- a key more, beside the table
pub put_beside : (slots : List Slot) (others more : BTreeSet (String Global)) (ks : List (List ℕ)) (k : List ℕ) → Table slots others ks → 8 ≤ slots_taken (window (mark_of k) slots) → ((key : List ℕ) → contains_text more key ≡ cond (bytes_eq k key) true (contains_text others key)) → Table slots more (ks ++ k ∷ [])
put_beside slots others more ks k t full add = record {
  wide = t.wide;
  numbers = All-weaker (λ s. s.number ≤ length ks) (λ s. s.number ≤ length (ks ++ k ∷ [])) (λ s g. omega (arith, length-append ks (k ∷ []))) slots t.numbers;
  beside = λ key h. among key (bytes_eq k key) refl (sym (add key) ∙ h);
  all = λ key h. elim (has_more ks k key h) [
    | inl old ↦ grown (window (mark_of key) slots) ks (k ∷ []) (mark_of key) key (contains_text others key) (contains_text more key) (λ g. add key ∙ still (bytes_eq k key) (contains_text others key) g) (t.all key old)
    | inr same ↦ here key (same_bytes k key same)
  ];
}
  where
    still : (c b : Bool) → b ≡ true → cond c true b ≡ true
    still true b h = refl
    still false b h = h

    among : (key : List ℕ) (c : Bool) → bytes_eq k key ≡ c → cond c true (contains_text others key) ≡ true → has_key (ks ++ k ∷ []) key ≡ true
    among key true e h = has_last ks k key e
    among key false e h = has_front ks k key (t.beside key h)

    whole : slots_taken (window (mark_of k) slots) ≡ length (window (mark_of k) slots)
    whole = omega (arith, taken_most (window (mark_of k) slots), length-take 8 (drop (start_of (length slots) (mark_of k)) slots))

    inside : contains_text more k ≡ true
    inside = add k ∙ ap (λ c. cond c true (contains_text others k)) (bytes_same k)

    here : (key : List ℕ) → k ≡ key → has_text slots more (ks ++ k ∷ []) key ≡ true
    here key same = subst (λ x. has_text slots more (ks ++ k ∷ []) x ≡ true) same (rw inside (full_found (window (mark_of k) slots) (ks ++ k ∷ []) (mark_of k) k whole))

-- a table of no keys
pub empty_table : (slots : List Slot) (others : BTreeSet (String Global)) (count : ℕ) (free : Slot) → slots ≡ replicate count free → free.number ≡ 0 → 8 < count → ((key : List ℕ) → contains_text others key ≡ false) → Table slots others []
empty_table slots others count free e z l none = record {
  wide = omega (arith, ap length e, length-replicate count free);
  numbers = subst (λ x. All (λ s. s.number ≤ 0) x) (sym e) (All-replicate (λ s. s.number ≤ 0) count free (omega arith));
  beside = λ key h. let never : true ≡ false = sym h ∙ none key in cc;
  all = λ key h. cc;
}

-- THE KEYS OF MEMBERS

pub keys_length : (ms : List (LentText × LentTree)) → length (keys_of ms) ≡ length ms
keys_length [] = refl
keys_length (m ∷ ms) = ap suc (keys_length ms)

-- the keys of some members, and of the one behind them
pub keys_more : (ms : List (LentText × LentTree)) (place : ℕ) (m : LentText × LentTree) → place < length ms → m ≡ get_or ms place m → keys_of (take (place + 1) ms) ≡ keys_of (take place ms) ++ text_bytes m.0 ∷ []
keys_more ms place m l e = ap keys_of (take_more ms place m l ∙ ap (λ x. take place ms ++ x ∷ []) (sym e)) ∙ keys_push (take place ms) m.0 m.1

-- a key more in the table, behind those slots that are taken
pub added : (slots : List Slot) (others : BTreeSet (String Global)) (ks : List (List ℕ)) (k : List ℕ) (new : Slot) (n used : ℕ) → Table slots others ks → n ≡ start_of (length slots) (mark_of k) → n + 8 ≤ length slots → used ≡ slots_taken (take 8 (drop n slots)) → used < 8 → new.mark ≡ mark_of k → new.number ≡ length ks + 1 → Table (set slots (n + used) new) others (ks ++ k ∷ [])
added slots others ks k new n used t q w u v a b =
    let few : slots_taken (take 8 (drop n slots)) < 8 = omega arith in
    subst (λ x. Table (set slots (n + x) new) others (ks ++ k ∷ [])) (sym u) (stored slots others ks k new new n t q w few a b)

-- or beside it
pub added_beside : (slots : List Slot) (others more : BTreeSet (String Global)) (ks : List (List ℕ)) (k : List ℕ) (n used : ℕ) → Table slots others ks → n ≡ start_of (length slots) (mark_of k) → used ≡ slots_taken (take 8 (drop n slots)) → 8 ≤ used → ((key : List ℕ) → contains_text more key ≡ cond (bytes_eq k key) true (contains_text others key)) → Table slots more (ks ++ k ∷ [])
added_beside slots others more ks k n used t q u v add =
    let full : 8 ≤ slots_taken (window (mark_of k) slots) = subst (λ x. 8 ≤ slots_taken (take 8 (drop x slots))) q (omega arith) in
    put_beside slots others more ks k t full add

-- the numbers in the slots for a mark are those of members
pub window_numbers : (slots : List Slot) (others : BTreeSet (String Global)) (ms : List (LentText × LentTree)) (mark : ℕ) → Table slots others (keys_of ms) → All (λ s. s.number ≤ length ms) (window mark slots)
window_numbers slots others ms mark t =
    let all : All (λ s. s.number ≤ length ms) slots = subst (λ n. All (λ s. s.number ≤ n) slots) (keys_length ms) t.numbers in
    All-take (λ s. s.number ≤ length ms) 8 (drop (start_of (length slots) mark) slots) (All-drop (λ s. s.number ≤ length ms) (start_of (length slots) mark) slots all)

-- a list of sets that was empty, where one was put into it or was not
pub set_pushed : (b : Bool) (old new : List KeySet) (s d : KeySet) (ks : List (List ℕ)) → old ≡ [] → new ≡ (if b then old ++ s ∷ [] else old) → HasKeys s ks → 0 < length new → HasKeys (get_or new 0 d) ks
set_pushed true old new s d ks none e h l = subst (λ x. HasKeys (get_or x 0 d) ks) (sym (e ∙ ap (λ x. x ++ s ∷ []) none)) h
set_pushed false old new s d ks none e h l = absurd (let zero = ap length (e ∙ none) in omega (arith, zero))
