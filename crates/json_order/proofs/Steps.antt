-- Every place: what may follow a character is what may follow the state that it leads to.
use Rattle.std.specs.Prelude.{◌==◌, if◌then◌else◌, encode_utf8_all}
use Rattle.std.proofs.Common.{ℕ, suc, ◌≤◌, ◌≡◌, ◌≢◌, ◌⊎◌, inl, inr, Bool, true, false, List, [], ◌∷◌, ◌++◌, length, refl, sym, ap, subst, arith, Option, Some, None, append-nil, append_assoc}
use Rattle.json_order.specs.Json.{Json, number, string, array, object, Items, no_items, item, Members, no_members, member}
use Rattle.json_order.specs.Seen.{items_with, members_with}
use Rattle.json_order.specs.Grammar.{Rules, is_space, IsSpaced, AreCharacters, IsString, IsKey, may_follow, AreMoreItems, AreMoreMembers}
use Rattle.json_order.specs.private.Machine.{Entries, entry_keys, Place, at_value, at_first_item, behind, at_first_key, at_next_key, in_key, behind_key, in_string, in_number, in_word, Frame, in_list, in_object, State, state, Move, goes, stops, value_move, next_move, behind_move, key_move, string_move, number_move, move, IsFine, IsFinePlace, Quote, going, closed, quote_step, part_step, is_done}
use Rattle.json_order.specs.declared.place.Escape.{Escape}
use Rattle.json_order.specs.declared.place.Escape.TheVariants.{Outside}
use Rattle.json_order.specs.declared.place.Part.{Part}
use Rattle.json_order.proofs.Language.{NumberRest, Closes, BeginsValue, Opens, CompletesAt, Completes}
use Rattle.json_order.proofs.Spaces.{split, Behind, behind_space, behind_other}
use Rattle.json_order.proofs.Numbers.{is_eq, not_eq, against, Parts, parts, done_from, done_to, Goes, IsInside, part_goes}
use Rattle.json_order.proofs.Strings.{Spelt, Quotes, quotes}
use Rattle.json_order.proofs.Values.{Leads, leads_by, value_leads, value_not_space, value_not_bracket, spaces_are}

-- two languages that are one
abbrev Same : (List ℕ → Json → Type 0) → (List ℕ → Json → Type 0) → Type 0
Same L M = (rest : List ℕ) (t : Json) → (L rest t → M rest t) × (M rest t → L rest t)

-- a place at which white space may stand
at_space : (r : Rules) (L : List ℕ → Json → Type 0) (A : List ℕ → Json → Type 0) (s : State) (c : ℕ) (m : Move) →
    ((rest : List ℕ) (t : Json) → (L rest t → Behind (λ x. A x t) rest) × (Behind (λ x. A x t) rest → L rest t)) →
    ((rest : List ℕ) (t : Json) → (Completes r s rest t → L rest t) × (L rest t → Completes r s rest t)) →
    (is_space c ≡ true → (rest : List ℕ) (t : Json) → ¬ (A (c ∷ rest) t)) →
    (is_space c ≡ false → Leads r (λ rest t. A (c ∷ rest) t) m) →
    Leads r (λ rest t. L (c ∷ rest) t) (if is_space c then goes s else m)
at_space r L A s c m form same not leads =
    split (λ b. Leads r (λ rest t. L (c ∷ rest) t) (if b then goes s else m)) (is_space c)
    (λ h rest t. let w = behind_space (λ x. A x t) c h (λ x. not h x t) rest in
    (λ l. (same rest t).1 ((form rest t).1 (w.0 ((form (c ∷ rest) t).0 l))), λ l. (form (c ∷ rest) t).1 (w.1 ((form rest t).0 ((same rest t).0 l)))))
    (λ n. leads_by r (λ rest t. L (c ∷ rest) t) (λ rest t. A (c ∷ rest) t)
    (λ rest t. let w = behind_other (λ x. A x t) c n rest in (λ l. w.0 ((form (c ∷ rest) t).0 l), λ a. (form (c ∷ rest) t).1 (w.1 a)))
    m (leads n))

-- AT A VALUE

leads_value : (r : Rules) (fs : List Frame) (c : ℕ) → Leads r (λ rest t. CompletesAt r at_value fs (c ∷ rest) t) (move at_value fs c)
leads_value r fs c =
    at_space r (Opens r fs) (BeginsValue r fs) (state at_value fs) c (value_move fs c)
    (λ rest t. (λ w. w, λ w. w)) (λ rest t. (λ w. w, λ w. w))
    (λ h rest t. value_not_space r fs c rest t h)
    (λ n. value_leads r fs c)

-- AT A FIRST ITEM

abbrev FirstItem : Rules → List Frame → List ℕ → Json → Type 0
FirstItem r fs s t = ((after : List ℕ) × (s ≡ 93 ∷ after) × Closes r fs (array no_items) after t) ⊎ BeginsValue r (in_list [] ∷ fs) s t

first_item_form : (r : Rules) (fs : List Frame) (rest : List ℕ) (t : Json) → (CompletesAt r at_first_item fs rest t → Behind (λ x. FirstItem r fs x t) rest) × (Behind (λ x. FirstItem r fs x t) rest → CompletesAt r at_first_item fs rest t)
first_item_form r fs rest t = (to, from)
  where
    to : CompletesAt r at_first_item fs rest t → Behind (λ x. FirstItem r fs x t) rest
    to (no_items, after, sp, k) = (93 ∷ after, sp, inl (after, refl, k))
    to (item v is, after, (s, e, m, sp, w, sp', more), k) = (s, sp, inr (v, e, w, (is, m, after, sp', more, k)))

    from : Behind (λ x. FirstItem r fs x t) rest → CompletesAt r at_first_item fs rest t
    from (s, sp, inl (after, q, k)) = (no_items, after, subst (λ y. IsSpaced rest y) q sp, k)
    from (s, sp, inr (v, e, w, (is, m, after, sp', more, k))) = (item v is, after, (s, e, m, sp, w, sp', more), k)

space_no_other : (c k : ℕ) → is_space c ≡ true → (c ≡ k) → 33 ≤ k → ⊥
space_no_other c k h e l = let s = spaces_are c h in omega arith

leads_first_item : (r : Rules) (fs : List Frame) (c : ℕ) → Leads r (λ rest t. CompletesAt r at_first_item fs (c ∷ rest) t) (move at_first_item fs c)
leads_first_item r fs c =
    at_space r (CompletesAt r at_first_item fs) (FirstItem r fs) (state at_first_item fs) c (if c == 93 then goes (state (behind (array no_items)) fs) else value_move (in_list [] ∷ fs) c)
    (first_item_form r fs) (λ rest t. (λ w. w, λ w. w))
    (λ h rest t w. elim w [ inl a ↦ space_no_other c 93 h (let q = a.1 in cc) (omega arith) | inr b ↦ value_not_space r (in_list [] ∷ fs) c rest t h b ])
    (λ n. split (λ b. Leads r (λ rest t. FirstItem r fs (c ∷ rest) t) (if b then goes (state (behind (array no_items)) fs) else value_move (in_list [] ∷ fs) c)) (c == 93)
    (λ h rest t. (close rest t h, λ k. inl (rest, ap (λ y. y ∷ rest) (is_eq c 93 h), k)))
    (λ m. leads_by r (λ rest t. FirstItem r fs (c ∷ rest) t) (λ rest t. BeginsValue r (in_list [] ∷ fs) (c ∷ rest) t)
    (λ rest t. (other rest t m, λ b. inr b))
    (value_move (in_list [] ∷ fs) c) (value_leads r (in_list [] ∷ fs) c)))
  where
    close : (rest : List ℕ) (t : Json) → (c == 93) ≡ true → FirstItem r fs (c ∷ rest) t → Closes r fs (array no_items) rest t
    close rest t h (inl (after, q, k)) = let tail : after ≡ rest = cc in subst (λ y. Closes r fs (array no_items) y t) tail k
    close rest t h (inr b) = absurd (value_not_bracket r (in_list [] ∷ fs) c rest t (is_eq c 93 h) b)

    other : (rest : List ℕ) (t : Json) → (c == 93) ≡ false → FirstItem r fs (c ∷ rest) t → BeginsValue r (in_list [] ∷ fs) (c ∷ rest) t
    other rest t m (inl (after, q, k)) = absurd (not_eq c 93 m cc)
    other rest t m (inr b) = b

-- BEHIND A VALUE

items_push : (vs : List Json) (v : Json) (is : Items) → items_with (vs ++ v ∷ []) is ≡ items_with vs (item v is)
items_push [] v is = refl
items_push (x ∷ xs) v is = ap (λ y. item x y) (items_push xs v is)

members_push : (es : Entries) (k : List ℕ) (v : Json) (ms : Members) → members_with (es ++ (k, v) ∷ []) ms ≡ members_with es (member k v ms)
members_push [] k v ms = refl
members_push (x ∷ xs) k v ms = ap (λ y. member x.0 x.1 y) (members_push xs k v ms)

keys_push : (es : Entries) (k : List ℕ) (v : Json) → entry_keys (es ++ (k, v) ∷ []) ≡ entry_keys es ++ k ∷ []
keys_push [] k v = refl
keys_push (x ∷ xs) k v = ap (λ y. x.0 ∷ y) (keys_push xs k v)

-- what may stand behind a value and its white space
abbrev Next : Rules → List Frame → Json → List ℕ → Json → Type 0
Next r [] v m t = (m ≡ []) × (t ≡ v)
Next r (in_list vs ∷ fs) v m t = (more : Items) × (after : List ℕ) × AreMoreItems r (suc (length fs)) more m after × Closes r fs (array (items_with vs (item v more))) after t
Next r (in_object es key ∷ fs) v m t = (more : Members) × (after : List ℕ) × AreMoreMembers r (suc (length fs)) (entry_keys es ++ key ∷ []) more m after × Closes r fs (object (members_with es (member key v more))) after t

next_form : (r : Rules) (fs : List Frame) (v : Json) (rest : List ℕ) (t : Json) → (Closes r fs v rest t → Behind (λ x. Next r fs v x t) rest) × (Behind (λ x. Next r fs v x t) rest → Closes r fs v rest t)
next_form r [] v rest t = (λ w. ([], w.0, (refl, w.1)), λ w. (subst (λ y. IsSpaced rest y) w.2.0 w.1, w.2.1))
next_form r (in_list vs ∷ fs) v rest t = (λ w. (w.1, w.3, (w.0, w.2, w.4, w.5)), λ w. (w.2.0, w.0, w.2.1, w.1, w.2.2, w.2.3))
next_form r (in_object es key ∷ fs) v rest t = (λ w. (w.1, w.3, (w.0, w.2, w.4, w.5)), λ w. (w.2.0, w.0, w.2.1, w.1, w.2.2, w.2.3))

-- what stands there begins with a comma or a closing bracket
next_first : (r : Rules) (fs : List Frame) (v : Json) (c : ℕ) (rest : List ℕ) (t : Json) → Next r fs v (c ∷ rest) t → (c ≡ 44) ⊎ ((c ≡ 93) ⊎ (c ≡ 125))
next_first r [] v c rest t (q, e) = cc
next_first r (in_list vs ∷ fs) v c rest t (no_items, after, q, k) = inr (inl cc)
next_first r (in_list vs ∷ fs) v c rest t (item x is, after, (b, s, e, m, q, sp, w, sp', more), k) = inl cc
next_first r (in_object es key ∷ fs) v c rest t (no_members, after, q, k) = inr (inr cc)
next_first r (in_object es key ∷ fs) v c rest t (member x y ms, after, (b, n, s, e, m, q, isk, sp, w, sp', more), k) = inl cc

item_comma : (r : Rules) (fs : List Frame) (vs : List Json) (v : Json) (c : ℕ) → c ≡ 44 → (rest : List ℕ) (t : Json) →
    (Next r (in_list vs ∷ fs) v (c ∷ rest) t → Opens r (in_list (vs ++ v ∷ []) ∷ fs) rest t) × (Opens r (in_list (vs ++ v ∷ []) ∷ fs) rest t → Next r (in_list vs ∷ fs) v (c ∷ rest) t)
item_comma r fs vs v c h rest t = (to, from)
  where
    to : Next r (in_list vs ∷ fs) v (c ∷ rest) t → Opens r (in_list (vs ++ v ∷ []) ∷ fs) rest t
    to (no_items, after, q, k) = absurd (let z : c ≡ 93 = cc in omega arith)
    to (item x is, after, (b, s, e, m, q, sp, w, sp', more), k) =
        let tail : b ≡ rest = cc in
        (s, subst (λ y. IsSpaced y s) tail sp, (x, e, w, (is, m, after, sp', more, subst (λ y. Closes r fs (array y) after t) (sym (items_push vs v (item x is))) k)))

    from : Opens r (in_list (vs ++ v ∷ []) ∷ fs) rest t → Next r (in_list vs ∷ fs) v (c ∷ rest) t
    from (s, sp, (x, e, w, (is, m, after, sp', more, k))) =
        (item x is, after, (rest, s, e, m, ap (λ y. y ∷ rest) h, sp, w, sp', more), subst (λ y. Closes r fs (array y) after t) (items_push vs v (item x is)) k)

item_close : (r : Rules) (fs : List Frame) (vs : List Json) (v : Json) (c : ℕ) → c ≡ 93 → (rest : List ℕ) (t : Json) →
    (Next r (in_list vs ∷ fs) v (c ∷ rest) t → Closes r fs (array (items_with (vs ++ v ∷ []) no_items)) rest t) × (Closes r fs (array (items_with (vs ++ v ∷ []) no_items)) rest t → Next r (in_list vs ∷ fs) v (c ∷ rest) t)
item_close r fs vs v c h rest t = (to, from)
  where
    to : Next r (in_list vs ∷ fs) v (c ∷ rest) t → Closes r fs (array (items_with (vs ++ v ∷ []) no_items)) rest t
    to (no_items, after, q, k) =
        let tail : after ≡ rest = cc in
        subst (λ y. Closes r fs (array y) rest t) (sym (items_push vs v no_items)) (subst (λ y. Closes r fs (array (items_with vs (item v no_items))) y t) tail k)
    to (item x is, after, (b, s, e, m, q, sp, w, sp', more), k) = absurd (let z : c ≡ 44 = cc in omega arith)

    from : Closes r fs (array (items_with (vs ++ v ∷ []) no_items)) rest t → Next r (in_list vs ∷ fs) v (c ∷ rest) t
    from k = (no_items, rest, ap (λ y. y ∷ rest) h, subst (λ y. Closes r fs (array y) rest t) (items_push vs v no_items) k)

-- from a key's quote on
abbrev KeyAt : Rules → Entries → List Frame → List ℕ → Json → Type 0
KeyAt r es fs s t = (key k c m : List ℕ) × IsString key s k × (may_follow r (entry_keys es) key ≡ true) × IsSpaced k c × (c ≡ 58 ∷ m) × Opens r (in_object es key ∷ fs) m t

next_key_form : (r : Rules) (es : Entries) (fs : List Frame) (rest : List ℕ) (t : Json) → (CompletesAt r (at_next_key es) fs rest t → Behind (λ x. KeyAt r es fs x t) rest) × (Behind (λ x. KeyAt r es fs x t) rest → CompletesAt r (at_next_key es) fs rest t)
next_key_form r es fs rest t = (
  λ w. (w.2.0, w.2.3, (w.0, w.2.1, w.2.2, w.1, w.2.4, w.2.5, w.2.6, w.2.7, w.3)),
  λ w. (w.2.0, w.2.3, (w.0, w.2.1, w.2.2, w.1, w.2.4, w.2.5, w.2.6, w.2.7), w.2.8),
)

member_comma : (r : Rules) (fs : List Frame) (es : Entries) (key : List ℕ) (v : Json) (c : ℕ) → c ≡ 44 → (rest : List ℕ) (t : Json) →
    (Next r (in_object es key ∷ fs) v (c ∷ rest) t → CompletesAt r (at_next_key (es ++ (key, v) ∷ [])) fs rest t) × (CompletesAt r (at_next_key (es ++ (key, v) ∷ [])) fs rest t → Next r (in_object es key ∷ fs) v (c ∷ rest) t)
member_comma r fs es key v c h rest t = (to, from)
  where
    to : Next r (in_object es key ∷ fs) v (c ∷ rest) t → CompletesAt r (at_next_key (es ++ (key, v) ∷ [])) fs rest t
    to (no_members, after, q, k) = absurd (let z : c ≡ 125 = cc in omega arith)
    to (member x y ms, after, (b, n, s, e, m, q, isk, sp, w, sp', more), k) =
        let tail : b ≡ rest = cc in let ks = sym (keys_push es key v) in (
          x,
          n,
          subst (λ z. IsKey r z x rest n) ks (subst (λ z. IsKey r (entry_keys es ++ key ∷ []) x z n) tail isk),
          (
            s,
            sp,
            (
              y,
              e,
              w,
              (
                ms,
                m,
                after,
                sp',
                subst (λ z. AreMoreMembers r (suc (length fs)) (z ++ x ∷ []) ms m after) ks more,
                subst (λ z. Closes r fs (object z) after t) (sym (members_push es key v (member x y ms))) k,
              ),
            ),
          ),
        )

    from : CompletesAt r (at_next_key (es ++ (key, v) ∷ [])) fs rest t → Next r (in_object es key ∷ fs) v (c ∷ rest) t
    from (x, n, isk, (s, sp, (y, e, w, (ms, m, after, sp', more, k)))) =
        let ks = keys_push es key v in (
          member x y ms,
          after,
          (rest, n, s, e, m, ap (λ z. z ∷ rest) h, subst (λ z. IsKey r z x rest n) ks isk, sp, w, sp', subst (λ z. AreMoreMembers r (suc (length fs)) (z ++ x ∷ []) ms m after) ks more),
          subst (λ z. Closes r fs (object z) after t) (members_push es key v (member x y ms)) k,
        )

member_close : (r : Rules) (fs : List Frame) (es : Entries) (key : List ℕ) (v : Json) (c : ℕ) → c ≡ 125 → (rest : List ℕ) (t : Json) →
    (Next r (in_object es key ∷ fs) v (c ∷ rest) t → Closes r fs (object (members_with (es ++ (key, v) ∷ []) no_members)) rest t) × (Closes r fs (object (members_with (es ++ (key, v) ∷ []) no_members)) rest t → Next r (in_object es key ∷ fs) v (c ∷ rest) t)
member_close r fs es key v c h rest t = (to, from)
  where
    to : Next r (in_object es key ∷ fs) v (c ∷ rest) t → Closes r fs (object (members_with (es ++ (key, v) ∷ []) no_members)) rest t
    to (no_members, after, q, k) =
        let tail : after ≡ rest = cc in
        subst (λ y. Closes r fs (object y) rest t) (sym (members_push es key v no_members)) (subst (λ y. Closes r fs (object (members_with es (member key v no_members))) y t) tail k)
    to (member x y ms, after, (b, n, s, e, m, q, isk, sp, w, sp', more), k) = absurd (let z : c ≡ 44 = cc in omega arith)

    from : Closes r fs (object (members_with (es ++ (key, v) ∷ []) no_members)) rest t → Next r (in_object es key ∷ fs) v (c ∷ rest) t
    from k = (no_members, rest, ap (λ y. y ∷ rest) h, subst (λ y. Closes r fs (object y) rest t) (members_push es key v no_members) k)

next_leads : (r : Rules) (fs : List Frame) (v : Json) (c : ℕ) → Leads r (λ rest t. Next r fs v (c ∷ rest) t) (next_move v fs c)
next_leads r [] v c = λ rest t w. let q = w.0 in cc
next_leads r (in_list vs ∷ fs) v c =
    split (λ b. Leads r (λ rest t. Next r (in_list vs ∷ fs) v (c ∷ rest) t) (if b then goes (state at_value (in_list (vs ++ v ∷ []) ∷ fs)) else if c == 93 then goes (state (behind (array (items_with (vs ++ v ∷ []) no_items))) fs) else stops)) (c == 44)
    (λ h. item_comma r fs vs v c (is_eq c 44 h))
    (λ n. split (λ b. Leads r (λ rest t. Next r (in_list vs ∷ fs) v (c ∷ rest) t) (if b then goes (state (behind (array (items_with (vs ++ v ∷ []) no_items))) fs) else stops)) (c == 93)
    (λ h. item_close r fs vs v c (is_eq c 93 h))
    (λ m rest t w. none rest t (not_eq c 44 n) (not_eq c 93 m) w))
  where
    none : (rest : List ℕ) (t : Json) → c ≢ 44 → c ≢ 93 → Next r (in_list vs ∷ fs) v (c ∷ rest) t → ⊥
    none rest t n m (no_items, after, q, k) = m cc
    none rest t n m (item x is, after, (b, s, e, z, q, sp, w, sp', more), k) = n cc
next_leads r (in_object es key ∷ fs) v c =
    split (λ b. Leads r (λ rest t. Next r (in_object es key ∷ fs) v (c ∷ rest) t) (if b then goes (state (at_next_key (es ++ (key, v) ∷ [])) fs) else if c == 125 then goes (state (behind (object (members_with (es ++ (key, v) ∷ []) no_members))) fs) else stops)) (c == 44)
    (λ h. member_comma r fs es key v c (is_eq c 44 h))
    (λ n. split (λ b. Leads r (λ rest t. Next r (in_object es key ∷ fs) v (c ∷ rest) t) (if b then goes (state (behind (object (members_with (es ++ (key, v) ∷ []) no_members))) fs) else stops)) (c == 125)
    (λ h. member_close r fs es key v c (is_eq c 125 h))
    (λ m rest t w. none rest t (not_eq c 44 n) (not_eq c 125 m) w))
  where
    none : (rest : List ℕ) (t : Json) → c ≢ 44 → c ≢ 125 → Next r (in_object es key ∷ fs) v (c ∷ rest) t → ⊥
    none rest t n m (no_members, after, q, k) = m cc
    none rest t n m (member x y ms, after, (b, n', s, e, z, q, isk, sp, w, sp', more), k) = n cc

leads_behind : (r : Rules) (fs : List Frame) (v : Json) (c : ℕ) → Leads r (λ rest t. Closes r fs v (c ∷ rest) t) (behind_move v fs c)
leads_behind r fs v c =
    at_space r (Closes r fs v) (Next r fs v) (state (behind v) fs) c (next_move v fs c)
    (next_form r fs v) (λ rest t. (λ w. w, λ w. w))
    (λ h rest t w. let s = spaces_are c h in let f = next_first r fs v c rest t w in omega arith)
    (λ n. next_leads r fs v c)

-- behind a value neither a digit nor another part of a number stands
closes_not_inside : (r : Rules) (fs : List Frame) (v : Json) (c : ℕ) (rest : List ℕ) (t : Json) → IsInside c → Closes r fs v (c ∷ rest) t → ⊥
closes_not_inside r fs v c rest t i k =
    split (λ b. is_space c ≡ b → ⊥) (is_space c)
    (λ h h'. let s = spaces_are c h in omega arith)
    (λ n n'. let f = next_first r fs v c rest t ((behind_other (λ x. Next r fs v x t) c n rest).0 ((next_form r fs v (c ∷ rest) t).0 k)) in omega arith)
    refl

-- AT A KEY

key_quote : (r : Rules) (es : Entries) (fs : List Frame) (c : ℕ) → c ≡ 34 → (rest : List ℕ) (t : Json) →
    (KeyAt r es fs (c ∷ rest) t → CompletesAt r (in_key es [] Outside) fs rest t) × (CompletesAt r (in_key es [] Outside) fs rest t → KeyAt r es fs (c ∷ rest) t)
key_quote r es fs c h rest t = (to, from)
  where
    to : KeyAt r es fs (c ∷ rest) t → CompletesAt r (in_key es [] Outside) fs rest t
    to (key, k, d, m, (cs, mid, q, z, w), f, sp, e, o) =
        let tail : mid ≡ rest = cc in
        (cs, k, d, m, subst (λ y. AreCharacters cs y k) tail w, subst (λ y. may_follow r (entry_keys es) y ≡ true) z f, sp, e, subst (λ y. Opens r (in_object es y ∷ fs) m t) z o)

    from : CompletesAt r (in_key es [] Outside) fs rest t → KeyAt r es fs (c ∷ rest) t
    from (cs, k, d, m, w, f, sp, e, o) = (encode_utf8_all cs, k, d, m, (cs, rest, ap (λ y. y ∷ rest) h, refl, w), f, sp, e, o)

key_is_quote : (r : Rules) (es : Entries) (fs : List Frame) (c : ℕ) (rest : List ℕ) (t : Json) → KeyAt r es fs (c ∷ rest) t → c ≡ 34
key_is_quote r es fs c rest t (key, k, d, m, (cs, mid, q, z, w), f, sp, e, o) = cc

leads_next_key : (r : Rules) (es : Entries) (fs : List Frame) (c : ℕ) → Leads r (λ rest t. CompletesAt r (at_next_key es) fs (c ∷ rest) t) (move (at_next_key es) fs c)
leads_next_key r es fs c =
    at_space r (CompletesAt r (at_next_key es) fs) (KeyAt r es fs) (state (at_next_key es) fs) c (if c == 34 then goes (state (in_key es [] Outside) fs) else stops)
    (next_key_form r es fs) (λ rest t. (λ w. w, λ w. w))
    (λ h rest t w. space_no_other c 34 h (key_is_quote r es fs c rest t w) (omega arith))
    (λ n. split (λ b. Leads r (λ rest t. KeyAt r es fs (c ∷ rest) t) (if b then goes (state (in_key es [] Outside) fs) else stops)) (c == 34)
    (λ h. key_quote r es fs c (is_eq c 34 h))
    (λ m rest t w. not_eq c 34 m (key_is_quote r es fs c rest t w)))

-- AT A FIRST KEY

abbrev FirstKey : Rules → List Frame → List ℕ → Json → Type 0
FirstKey r fs s t = ((after : List ℕ) × (s ≡ 125 ∷ after) × Closes r fs (object no_members) after t) ⊎ KeyAt r [] fs s t

first_key_form : (r : Rules) (fs : List Frame) (rest : List ℕ) (t : Json) → (CompletesAt r at_first_key fs rest t → Behind (λ x. FirstKey r fs x t) rest) × (Behind (λ x. FirstKey r fs x t) rest → CompletesAt r at_first_key fs rest t)
first_key_form r fs rest t = (to, from)
  where
    to : CompletesAt r at_first_key fs rest t → Behind (λ x. FirstKey r fs x t) rest
    to (no_members, after, sp, k) = (125 ∷ after, sp, inl (after, refl, k))
    to (member x y ms, after, (n, s, e, m, (s', k', d, sp0, str, f, sp1, q), sp, w, sp', more), k) =
        (s', sp0, inr (x, k', d, n, str, f, sp1, q, (s, sp, (y, e, w, (ms, m, after, sp', more, k)))))

    from : Behind (λ x. FirstKey r fs x t) rest → CompletesAt r at_first_key fs rest t
    from (s, sp, inl (after, q, k)) = (no_members, after, subst (λ y. IsSpaced rest y) q sp, k)
    from (s', sp0, inr (x, k', d, n, str, f, sp1, q, (s, sp, (y, e, w, (ms, m, after, sp', more, k))))) =
        (member x y ms, after, (n, s, e, m, (s', k', d, sp0, str, f, sp1, q), sp, w, sp', more), k)

leads_first_key : (r : Rules) (fs : List Frame) (c : ℕ) → Leads r (λ rest t. CompletesAt r at_first_key fs (c ∷ rest) t) (move at_first_key fs c)
leads_first_key r fs c =
    at_space r (CompletesAt r at_first_key fs) (FirstKey r fs) (state at_first_key fs) c (if c == 34 then goes (state (in_key [] [] Outside) fs) else if c == 125 then goes (state (behind (object no_members)) fs) else stops)
    (first_key_form r fs) (λ rest t. (λ w. w, λ w. w))
    (λ h rest t w. elim w [ inl a ↦ space_no_other c 125 h (let q = a.1 in cc) (omega arith) | inr b ↦ space_no_other c 34 h (key_is_quote r [] fs c rest t b) (omega arith) ])
    (λ n. split (λ b. Leads r (λ rest t. FirstKey r fs (c ∷ rest) t) (if b then goes (state (in_key [] [] Outside) fs) else if c == 125 then goes (state (behind (object no_members)) fs) else stops)) (c == 34)
    (λ h. leads_by r (λ rest t. FirstKey r fs (c ∷ rest) t) (λ rest t. KeyAt r [] fs (c ∷ rest) t) (λ rest t. (key rest t (is_eq c 34 h), λ b. inr b)) (goes (state (in_key [] [] Outside) fs)) (key_quote r [] fs c (is_eq c 34 h)))
    (λ m. split (λ b. Leads r (λ rest t. FirstKey r fs (c ∷ rest) t) (if b then goes (state (behind (object no_members)) fs) else stops)) (c == 125)
    (λ h rest t. (close rest t (is_eq c 125 h), λ k. inl (rest, ap (λ y. y ∷ rest) (is_eq c 125 h), k)))
    (λ l rest t w. none rest t (not_eq c 34 m) (not_eq c 125 l) w)))
  where
    key : (rest : List ℕ) (t : Json) → c ≡ 34 → FirstKey r fs (c ∷ rest) t → KeyAt r [] fs (c ∷ rest) t
    key rest t h (inl (after, q, k)) = absurd (let z : c ≡ 125 = cc in omega arith)
    key rest t h (inr b) = b

    close : (rest : List ℕ) (t : Json) → c ≡ 125 → FirstKey r fs (c ∷ rest) t → Closes r fs (object no_members) rest t
    close rest t h (inl (after, q, k)) = let tail : after ≡ rest = cc in subst (λ y. Closes r fs (object no_members) y t) tail k
    close rest t h (inr b) = absurd (let z = key_is_quote r [] fs c rest t b in omega arith)

    none : (rest : List ℕ) (t : Json) → c ≢ 34 → c ≢ 125 → FirstKey r fs (c ∷ rest) t → ⊥
    none rest t n m (inl (after, q, k)) = m cc
    none rest t n m (inr b) = n (key_is_quote r [] fs c rest t b)

-- BEHIND A KEY

abbrev Colon : Rules → Entries → List ℕ → List Frame → List ℕ → Json → Type 0
Colon r es key fs s t = (m : List ℕ) × (s ≡ 58 ∷ m) × Opens r (in_object es key ∷ fs) m t

leads_behind_key : (r : Rules) (es : Entries) (key : List ℕ) (fs : List Frame) (c : ℕ) → Leads r (λ rest t. CompletesAt r (behind_key es key) fs (c ∷ rest) t) (move (behind_key es key) fs c)
leads_behind_key r es key fs c =
    at_space r (CompletesAt r (behind_key es key) fs) (Colon r es key fs) (state (behind_key es key) fs) c (if c == 58 then goes (state at_value (in_object es key ∷ fs)) else stops)
    (λ rest t. (λ w. (w.0, w.2, (w.1, w.3, w.4)), λ w. (w.0, w.2.0, w.1, w.2.1, w.2.2))) (λ rest t. (λ w. w, λ w. w))
    (λ h rest t w. space_no_other c 58 h (let q = w.1 in cc) (omega arith))
    (λ n. split (λ b. Leads r (λ rest t. Colon r es key fs (c ∷ rest) t) (if b then goes (state at_value (in_object es key ∷ fs)) else stops)) (c == 58)
    (λ h rest t. (λ w. subst (λ y. Opens r (in_object es key ∷ fs) y t) (tail w.0 rest w.1) w.2, λ o. (rest, ap (λ y. y ∷ rest) (is_eq c 58 h), o)))
    (λ m rest t w. not_eq c 58 m (let q = w.1 in cc)))
  where
    tail : (xs rest : List ℕ) → c ∷ rest ≡ 58 ∷ xs → xs ≡ rest
    tail xs rest q = cc

-- IN A STRING

-- a string of this rest, and then what Q says of its text and of what follows
abbrev Quoted : (List ℕ → List ℕ → Json → Type 0) → List ℕ → Escape → List ℕ → Json → Type 0
Quoted Q text e rest t = (k whole : List ℕ) × Spelt text e rest k whole × Q whole k t

quoted_going : (Q : List ℕ → List ℕ → Json → Type 0) (text : List ℕ) (e : Escape) (c : ℕ) (u : List ℕ) (f : Escape) → Quotes text e c (Some (going u f)) → (rest : List ℕ) (t : Json) →
    (Quoted Q text e (c ∷ rest) t → Quoted Q u f rest t) × (Quoted Q u f rest t → Quoted Q text e (c ∷ rest) t)
quoted_going Q text e c u f same rest t = (λ w. (w.0, w.1, (same rest w.0 w.1).0 w.2, w.3), λ w. (w.0, w.1, (same rest w.0 w.1).1 w.2, w.3))

quoted_closed : (Q : List ℕ → List ℕ → Json → Type 0) (text : List ℕ) (e : Escape) (c : ℕ) (u : List ℕ) → Quotes text e c (Some (closed u)) → (rest : List ℕ) (t : Json) →
    (Quoted Q text e (c ∷ rest) t → Q u rest t) × (Q u rest t → Quoted Q text e (c ∷ rest) t)
quoted_closed Q text e c u same rest t =
    (λ w. let p = (same rest w.0 w.1).0 w.2 in subst (λ y. Q u y t) p.1 (subst (λ y. Q y w.0 t) p.0 w.3), λ q. (rest, u, (same rest rest u).1 (refl, refl), q))

string_form : (r : Rules) (fs : List Frame) (text : List ℕ) (e : Escape) → Same (CompletesAt r (in_string text e) fs) (Quoted (λ whole k t. Closes r fs (string whole) k t) text e)
string_form r fs text e rest t =
    (λ w. (w.1, text ++ encode_utf8_all w.0, (w.0, w.2, refl), w.3), λ w. (w.2.0, w.0, w.2.1, subst (λ y. Closes r fs (string y) w.0 t) w.2.2 w.3))

leads_string : (r : Rules) (fs : List Frame) (text : List ℕ) (e : Escape) (c : ℕ) → IsFine e → Leads r (λ rest t. CompletesAt r (in_string text e) fs (c ∷ rest) t) (move (in_string text e) fs c)
leads_string r fs text e c fine = go (quote_step text e c) (quotes text e c fine)
  where
    go : (o : Option Quote) → Quotes text e c o → Leads r (λ rest t. CompletesAt r (in_string text e) fs (c ∷ rest) t) (string_move fs o)
    go None same = λ rest t w. let v = (string_form r fs text e (c ∷ rest) t).0 w in same rest v.0 v.1 v.2
    go (Some (going u f)) same = λ rest t. let g = quoted_going (λ whole k t. Closes r fs (string whole) k t) text e c u f same rest t in
        (λ w. (string_form r fs u f rest t).1 (g.0 ((string_form r fs text e (c ∷ rest) t).0 w)), λ w. (string_form r fs text e (c ∷ rest) t).1 (g.1 ((string_form r fs u f rest t).0 w)))
    go (Some (closed u)) same = λ rest t. let g = quoted_closed (λ whole k t. Closes r fs (string whole) k t) text e c u same rest t in
        (λ w. g.0 ((string_form r fs text e (c ∷ rest) t).0 w), λ w. (string_form r fs text e (c ∷ rest) t).1 (g.1 w))

-- what has to follow a key
abbrev KeyEnd : Rules → Entries → List Frame → List ℕ → List ℕ → Json → Type 0
KeyEnd r es fs whole k t = (may_follow r (entry_keys es) whole ≡ true) × CompletesAt r (behind_key es whole) fs k t

key_form : (r : Rules) (es : Entries) (fs : List Frame) (text : List ℕ) (e : Escape) → Same (CompletesAt r (in_key es text e) fs) (Quoted (KeyEnd r es fs) text e)
key_form r es fs text e rest t = (to, from)
  where
    to : CompletesAt r (in_key es text e) fs rest t → Quoted (KeyEnd r es fs) text e rest t
    to (cs, k, c, m, w, f, sp, q, o) = (k, text ++ encode_utf8_all cs, (cs, w, refl), (f, (c, m, sp, q, o)))

    from : Quoted (KeyEnd r es fs) text e rest t → CompletesAt r (in_key es text e) fs rest t
    from (k, whole, (cs, w, z), (f, (c, m, sp, q, o))) =
        (cs, k, c, m, w, subst (λ y. may_follow r (entry_keys es) y ≡ true) z f, sp, q, subst (λ y. Opens r (in_object es y ∷ fs) m t) z o)

leads_key : (r : Rules) (es : Entries) (fs : List Frame) (text : List ℕ) (e : Escape) (c : ℕ) → IsFine e → Leads r (λ rest t. CompletesAt r (in_key es text e) fs (c ∷ rest) t) (move (in_key es text e) fs c)
leads_key r es fs text e c fine = go (quote_step text e c) (quotes text e c fine)
  where
    go : (o : Option Quote) → Quotes text e c o → Leads r (λ rest t. CompletesAt r (in_key es text e) fs (c ∷ rest) t) (key_move es fs o)
    go None same = λ rest t w. let v = (key_form r es fs text e (c ∷ rest) t).0 w in same rest v.0 v.1 v.2
    go (Some (going u f)) same = λ rest t. let g = quoted_going (KeyEnd r es fs) text e c u f same rest t in
        (λ w. (key_form r es fs u f rest t).1 (g.0 ((key_form r es fs text e (c ∷ rest) t).0 w)), λ w. (key_form r es fs text e (c ∷ rest) t).1 (g.1 ((key_form r es fs u f rest t).0 w)))
    go (Some (closed u)) same = λ rest t. let g = quoted_closed (KeyEnd r es fs) text e c u same rest t in
        (λ w. g.0 ((key_form r es fs text e (c ∷ rest) t).0 w), λ w. (key_form r es fs text e (c ∷ rest) t).1 (g.1 w))

-- IN A NUMBER

leads_number : (r : Rules) (fs : List Frame) (text : List ℕ) (p : Part) (c : ℕ) → Leads r (λ rest t. CompletesAt r (in_number text p) fs (c ∷ rest) t) (move (in_number text p) fs c)
leads_number r fs text p c = go (part_step p c) (is_done p) refl (parts p c) (part_goes p c)
  where
    push : (more : List ℕ) → text ++ (c ∷ more) ≡ (text ++ c ∷ []) ++ more
    push more = sym (append_assoc text (c ∷ []) more)

    on : (q : Part) → Parts p c (Some q) → IsInside c → (rest : List ℕ) (t : Json) → CompletesAt r (in_number text p) fs (c ∷ rest) t → CompletesAt r (in_number (text ++ c ∷ []) q) fs rest t
    on q same i rest t ([], m, w, z, k) = absurd (closes_not_inside r fs (number (text ++ [])) c rest t i (subst (λ y. Closes r fs (number (text ++ [])) y t) (sym z) k))
    on q same i rest t (x ∷ more, m, w, z, k) =
        let head : x ≡ c = cc in let tail : rest ≡ more ++ m = cc in
        (more, m, (same more).0 (subst (λ y. NumberRest p (y ∷ more)) head w), tail, subst (λ y. Closes r fs (number y) m t) (push more) (subst (λ y. Closes r fs (number (text ++ (y ∷ more))) m t) head k))

    back : (q : Part) → Parts p c (Some q) → (rest : List ℕ) (t : Json) → CompletesAt r (in_number (text ++ c ∷ []) q) fs rest t → CompletesAt r (in_number text p) fs (c ∷ rest) t
    back q same rest t (more, m, w, z, k) = (c ∷ more, m, (same more).1 w, ap (λ y. c ∷ y) z, subst (λ y. Closes r fs (number y) m t) (sym (push more)) k)

    ends : Parts p c None → (rest : List ℕ) (t : Json) → CompletesAt r (in_number text p) fs (c ∷ rest) t → NumberRest p [] × Closes r fs (number text) (c ∷ rest) t
    ends same rest t ([], m, w, z, k) = (w, subst (λ y. Closes r fs (number y) (c ∷ rest) t) (append-nil text) (subst (λ y. Closes r fs (number (text ++ [])) y t) (sym z) k))
    ends same rest t (x ∷ more, m, w, z, k) = absurd (let head : x ≡ c = cc in same more (subst (λ y. NumberRest p (y ∷ more)) head w))

    go : (o : Option Part) (d : Bool) → is_done p ≡ d → Parts p c o → Goes c o → Leads r (λ rest t. CompletesAt r (in_number text p) fs (c ∷ rest) t) (number_move text fs c d o)
    go (Some q) d done same i = λ rest t. (on q same i rest t, back q same rest t)
    go None true done same i =
        leads_by r (λ rest t. CompletesAt r (in_number text p) fs (c ∷ rest) t) (λ rest t. Closes r fs (number text) (c ∷ rest) t)
        (λ rest t. (λ w. (ends same rest t w).1, λ k. ([], c ∷ rest, done_to p done, refl, subst (λ y. Closes r fs (number y) (c ∷ rest) t) (sym (append-nil text)) k)))
        (behind_move (number text) fs c) (leads_behind r fs (number text) c)
    go None false done same i = λ rest t w. against (is_done p) (done_from p (ends same rest t w).0) done

-- IN A WORD

leads_word : (r : Rules) (fs : List Frame) (ls : List ℕ) (v : Json) (c : ℕ) → Leads r (λ rest t. CompletesAt r (in_word ls v) fs (c ∷ rest) t) (move (in_word ls v) fs c)
leads_word r fs [] v c =
    leads_by r (λ rest t. CompletesAt r (in_word [] v) fs (c ∷ rest) t) (λ rest t. Closes r fs v (c ∷ rest) t)
    (λ rest t. (λ w. subst (λ y. Closes r fs v y t) (sym w.1) w.2, λ k. (c ∷ rest, refl, k)))
    (behind_move v fs c) (leads_behind r fs v c)
leads_word r fs (l ∷ ls) v c =
    split (λ b. Leads r (λ rest t. CompletesAt r (in_word (l ∷ ls) v) fs (c ∷ rest) t) (if b then goes (state (in_word ls v) fs) else stops)) (c == l)
    (λ h rest t. (λ w. (w.0, (let q = w.1 in cc), w.2), λ w. (w.0, (let q = w.1 in let e = is_eq c l h in cc), w.2)))
    (λ n rest t w. not_eq c l n (let q = w.1 in cc))

-- EVERY PLACE

pub leads : (r : Rules) (p : Place) (fs : List Frame) (c : ℕ) → IsFinePlace p → Leads r (λ rest t. CompletesAt r p fs (c ∷ rest) t) (move p fs c)
leads r at_value fs c fine = leads_value r fs c
leads r at_first_item fs c fine = leads_first_item r fs c
leads r (behind v) fs c fine = leads_behind r fs v c
leads r at_first_key fs c fine = leads_first_key r fs c
leads r (at_next_key es) fs c fine = leads_next_key r es fs c
leads r (in_key es text e) fs c fine = leads_key r es fs text e c fine
leads r (behind_key es key) fs c fine = leads_behind_key r es key fs c
leads r (in_string text e) fs c fine = leads_string r fs text e c fine
leads r (in_number text p) fs c fine = leads_number r fs text p c
leads r (in_word ls v) fs c fine = leads_word r fs ls v c
