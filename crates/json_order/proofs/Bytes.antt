-- From characters to bytes: what the reader says of a text's characters is the definition's answer for its bytes.
use Rattle.std.specs.Prelude.{nat_lt, encode_utf8, encode_utf8_all, slice_get, IsUtf8}
use Rattle.std.specs.Str.{all_scalars}
use Rattle.std.proofs.Common.{ℕ, zero, suc, ◌+◌, ◌-◌, ◌<◌, ◌≤◌, ◌≡◌, ◌≢◌, ◌⊎◌, inl, inr, Bool, true, false, ◌&&◌, List, [], ◌∷◌, ◌++◌, length, take, get_or, refl, sym, ap, ◌∙◌, subst, arith, Some, None, Ok, Err, append-nil, append_assoc, length-append}
use Rattle.std.proofs.Math.Seq.{take-append_seam, take-append-add, take-length}
use Rattle.std.proofs.lemmas.Str.{encodes-append, encode_ascii, cons_from_encodes, byte_from_char, char_from_byte, length-encode, len_utf8_bounds, encodes_same}
use Rattle.std.proofs.Math.Utf8.{low_scalar}
use Rattle.json_order.specs.Json.{Json}
use Rattle.json_order.specs.Grammar.{Rules, IsText}
use Rattle.json_order.specs.Fault.{strict, deeper, repeating, Spells, BeginsText, IsLongestFront, IsJsonFault}
use Rattle.json_order.specs.private.Machine.{State, move, under_rules, step, start, run, ended_value, IsFinePlace}
use Rattle.json_order.specs.declared.fault.JsonKind.{JsonKind}
use Rattle.json_order.specs.declared.fault.JsonKind.TheVariants.{Syntax, End, Depth, Duplicate, Utf8, Memory}
use Rattle.json_order.proofs.Strings.{lt_from, lt_not}
use Rattle.json_order.proofs.Alive.{scalars_append}
use Rattle.json_order.proofs.Runs.{text_of_run, front_of_run, sound_run, refused_run, Why, Stuck, why, run_other, run_step}
use Rattle.json_order.proofs.Foreign.{far}

-- A TEXT IN TWO PARTS

encodes_front : (ys cs z : List ℕ) → encode_utf8_all cs ≡ encode_utf8_all ys ++ z → (es : List ℕ) × (cs ≡ ys ++ es) × (encode_utf8_all es ≡ z)
encodes_front [] cs z e = (cs, refl, e)
encodes_front (y ∷ ys) cs z e =
    let f = cons_from_encodes cs (encode_utf8_all ys ++ z) y (e ∙ append_assoc (encode_utf8 y) (encode_utf8_all ys) z) in
    let g = encodes_front ys f.0 z f.2 in
    (g.0, f.1 ∙ ap (λ x. y ∷ x) g.1, g.2)

scalars_front : (xs ys : List ℕ) → all_scalars (xs ++ ys) ≡ true → all_scalars xs ≡ true
scalars_front [] ys h = refl
scalars_front (x ∷ xs) ys h = both _ (all_scalars xs) (all_scalars (xs ++ ys)) (scalars_front xs ys) h
  where
    both : (a b d : Bool) → (d ≡ true → b ≡ true) → (a && d) ≡ true → (a && b) ≡ true
    both true b d f h = f h
    both false b d f h = h

-- the front of a text in UTF-8 is made of whole characters
front_scalars : (bytes ys z : List ℕ) → IsUtf8 bytes → bytes ≡ encode_utf8_all ys ++ z → all_scalars ys ≡ true
front_scalars bytes ys z (cs, (s, e)) q =
    let f = encodes_front ys cs z (e ∙ q) in
    scalars_front ys f.0 (subst (λ x. all_scalars x ≡ true) f.1 s)

-- WHAT BEGINS A TEXT

pub begins_from : (r : Rules) (ys : List ℕ) (u : State) → run r (Ok start) ys ≡ Ok u → all_scalars ys ≡ true → BeginsText r (encode_utf8_all ys)
begins_from r ys u h s =
    let f = front_of_run r ys u h in
    (encode_utf8_all f.0, f.1, (ys ++ f.0, scalars_append ys f.0 s f.2, sym (encodes-append ys f.0), f.3))

-- a character's first byte stands for it, or for any other that is not ASCII
encode_some : (c : ℕ) → 0 < length (encode_utf8 c)
encode_some c = let e = length-encode c in let b = len_utf8_bounds c in omega (arith, b.0)

get_front : (xs ys zs : List ℕ) → 0 < length xs → get_or (xs ++ ys) 0 0 ≡ get_or (xs ++ zs) 0 0
get_front [] ys zs h = absurd (omega arith)
get_front (x ∷ xs) ys zs h = refl

-- two characters whose first bytes are one
same_first : (c d : ℕ) (x y : List ℕ) → get_or (encode_utf8 c ++ x) 0 0 ≡ get_or (encode_utf8 d ++ y) 0 0 → (c ≡ d) ⊎ ((128 ≤ c) × (128 ≤ d))
same_first c d x y e = go (nat_lt c 128) (nat_lt d 128) refl refl
  where
    some : (f : ℕ) (z : List ℕ) → 0 < length (encode_utf8 f ++ z)
    some f z = let l = length-append (encode_utf8 f) z in let s = encode_some f in omega arith

    go : (p q : Bool) → nat_lt c 128 ≡ p → nat_lt d 128 ≡ q → (c ≡ d) ⊎ ((128 ≤ c) × (128 ≤ d))
    go true q a b =
        let l = lt_from c 128 a in
        let z : get_or (encode_utf8 c ++ x) 0 0 ≡ c = byte_from_char (encode_utf8 c ++ x) x c refl l in
        let w : d ≡ get_or (encode_utf8 d ++ y) 0 0 = char_from_byte (encode_utf8 d ++ y) y d refl (omega arith) (some d y) in
        inl (sym z ∙ e ∙ sym w)
    go false true a b =
        let l = lt_from d 128 b in
        let z : get_or (encode_utf8 d ++ y) 0 0 ≡ d = byte_from_char (encode_utf8 d ++ y) y d refl l in
        let w : c ≡ get_or (encode_utf8 c ++ x) 0 0 = char_from_byte (encode_utf8 c ++ x) x c refl (omega arith) (some c x) in
        inl (w ∙ e ∙ z)
    go false false a b = inr (lt_not c 128 a, lt_not d 128 b)

-- what is refused at c is refused at any character with its first byte
alike : (r : Rules) (s : State) (c d : ℕ) (k : JsonKind) → IsFinePlace s.place → step r s c ≡ Err k → (c ≡ d) ⊎ ((128 ≤ c) × (128 ≤ d)) → (k' : JsonKind) × (step r s d ≡ Err k')
alike r s c d k f h (inl e) = (k, subst (λ x. step r s x ≡ Err k) e h)
alike r s c d k f h (inr w) =
    elim (far s.place s.frames f) [ inl all ↦ absurd (let a = all c w.0 in let g : Ok a.0 ≡ Err k = sym (ap (under_rules r) a.1) ∙ h in cc) | inr none ↦ (Syntax, ap (under_rules r) (none d w.1)) ]

-- the front of some bytes has their first one
front_some : (xs z : List ℕ) (j : ℕ) → 0 < length xs → 0 < j → (rest : List ℕ) → [] ≡ take j (xs ++ z) ++ rest → ⊥
front_some [] z j h p rest w = omega arith
front_some (x ∷ xs) z zero h p rest w = omega arith
front_some (x ∷ xs) z (suc j) h p rest w = cc

front_first : (xs z : List ℕ) (j : ℕ) → 0 < length xs → 0 < j → (rest : List ℕ) → get_or (take j (xs ++ z) ++ rest) 0 0 ≡ get_or (xs ++ []) 0 0
front_first [] z j h p rest = absurd (omega arith)
front_first (x ∷ xs) z zero h p rest = absurd (omega arith)
front_first (x ∷ xs) z (suc j) h p rest = refl

-- no longer front begins a text
pub refused_front : (r : Rules) (ys : List ℕ) (c : ℕ) (s : State) (k : JsonKind) → run r (Ok start) ys ≡ Ok s → step r s c ≡ Err k → (bytes z : List ℕ) → bytes ≡ encode_utf8_all ys ++ (encode_utf8 c ++ z) →
    (m : ℕ) → length (encode_utf8_all ys) < m → ¬ (BeginsText r (take m bytes))
refused_front r ys c s k h g bytes z q m l (rest, v, (cs, sc, e, text)) =
    let n = length (encode_utf8_all ys) in
    let split' : take m bytes ≡ encode_utf8_all ys ++ take (m - n) (encode_utf8 c ++ z) =
    ap (take m) q ∙ ap (λ x. take x (encode_utf8_all ys ++ (encode_utf8 c ++ z))) (let a : m ≡ n + (m - n) = omega arith in a) ∙ take-append-add (encode_utf8_all ys) (encode_utf8 c ++ z) (m - n) in
    let whole : encode_utf8_all cs ≡ encode_utf8_all ys ++ (take (m - n) (encode_utf8 c ++ z) ++ rest) =
    sym e ∙ ap (λ x. x ++ rest) split' ∙ append_assoc (encode_utf8_all ys) (take (m - n) (encode_utf8 c ++ z)) rest in
    let f = encodes_front ys cs (take (m - n) (encode_utf8 c ++ z) ++ rest) whole in
    next f.0 (m - n) (omega arith) (subst (λ x. IsText r v x) f.1 text) f.2
  where
    none : (j : ℕ) → 0 < j → [] ≡ take j (encode_utf8 c ++ z) ++ rest → ⊥
    none j p w = front_some (encode_utf8 c) z j (encode_some c) p rest w

    next : (es : List ℕ) (j : ℕ) → 0 < j → IsText r v (ys ++ es) → encode_utf8_all es ≡ take j (encode_utf8 c ++ z) ++ rest → ⊥
    next [] j p t w = none j p w
    next (d ∷ es) j p t w =
        let b : get_or (encode_utf8 d ++ encode_utf8_all es) 0 0 ≡ get_or (encode_utf8 c ++ []) 0 0 = ap (λ x. get_or x 0 0) w ∙ front_first (encode_utf8 c) z j (encode_some c) p rest in
        let a = alike r s c d k (sound_run r ys s h).fine g (same_first c d [] (encode_utf8_all es) (sym b)) in
        refused_run r (ys ++ d ∷ []) a.0 (run_step r ys d s h ∙ a.1) es v (subst (λ x. IsText r v x) (sym (append_assoc ys (d ∷ []) es)) t)

-- THE FAULT

-- where the reader has read the characters ys, and the bytes go on with a character c
pub record At (bytes ys : List ℕ) (c : ℕ) (z : List ℕ) : Type 0 where
  pub utf8 : IsUtf8 bytes
  pub here : bytes ≡ encode_utf8_all ys ++ (encode_utf8 c ++ z)

front_is : (bytes ys : List ℕ) (c : ℕ) (z : List ℕ) → At bytes ys c z → take (length (encode_utf8_all ys)) bytes ≡ encode_utf8_all ys
front_is bytes ys c z a = ap (take (length (encode_utf8_all ys))) a.here ∙ take-append_seam (encode_utf8_all ys) (encode_utf8 c ++ z)

longest_front : (bytes ys : List ℕ) (c : ℕ) (z : List ℕ) (s : State) (k : JsonKind) → At bytes ys c z → Stuck ys c s k → IsLongestFront bytes (length (encode_utf8_all ys))
longest_front bytes ys c z s k a h = record {
  within = let l = ap length a.here ∙ length-append (encode_utf8_all ys) (encode_utf8 c ++ z) in omega arith;
  begins = subst (λ x. BeginsText strict x) (sym (front_is bytes ys c z a)) (begins_from strict ys s h.until (front_scalars bytes ys (encode_utf8 c ++ z) a.utf8 a.here));
  longest = λ m l _. refused_front strict ys c s k h.until h.refused bytes z a.here m l;
}

short_front : (bytes ys : List ℕ) (c : ℕ) (z : List ℕ) → At bytes ys c z → length (encode_utf8_all ys) < length bytes
short_front bytes ys c z a =
    let l = ap length a.here ∙ length-append (encode_utf8_all ys) (encode_utf8 c ++ z) in
    let m = length-append (encode_utf8 c) z in
    let s = encode_some c in omega arith

slice_get_seam : (xs : List ℕ) (x : ℕ) (ys : List ℕ) → slice_get (xs ++ (x ∷ ys)) (length xs) ≡ Some x
slice_get_seam [] x ys = refl
slice_get_seam (y ∷ xs) x ys = slice_get_seam xs x ys

-- an ASCII character is its byte
byte_here : (bytes ys : List ℕ) (c : ℕ) (z : List ℕ) → c < 128 → At bytes ys c z → (slice_get bytes (length (encode_utf8_all ys)) ≡ Some c) × (take (length (encode_utf8_all ys) + 1) bytes ≡ encode_utf8_all (ys ++ c ∷ []))
byte_here bytes ys c z l a =
    let e : bytes ≡ encode_utf8_all ys ++ (c ∷ z) = a.here ∙ ap (λ x. encode_utf8_all ys ++ (x ++ z)) (encode_ascii c l) in
    let one : encode_utf8_all (ys ++ c ∷ []) ≡ encode_utf8_all ys ++ (c ∷ []) = encodes-append ys (c ∷ []) ∙ ap (λ x. encode_utf8_all ys ++ (x ++ [])) (encode_ascii c l) in (
      ap (λ x. slice_get x (length (encode_utf8_all ys))) e ∙ slice_get_seam (encode_utf8_all ys) c z,
      ap (take (length (encode_utf8_all ys) + 1)) e ∙ take-append-add (encode_utf8_all ys) (c ∷ z) 1 ∙ sym one,
    )

ascii_scalar : (ys : List ℕ) (c : ℕ) → c < 128 → all_scalars ys ≡ true → all_scalars (ys ++ c ∷ []) ≡ true
ascii_scalar ys c l h = scalars_append ys (c ∷ []) h (rw (low_scalar c (omega arith)) refl)

-- other rules accept c
accepts : (r : Rules) → 16 ≤ r.limit → (bytes ys : List ℕ) (c : ℕ) (z : List ℕ) (s u : State) (k : JsonKind) → c < 128 → At bytes ys c z → Stuck ys c s k → step r s c ≡ Ok u → BeginsText r (take (length (encode_utf8_all ys) + 1) bytes)
accepts r w bytes ys c z s u k l a h g =
    let b = byte_here bytes ys c z l a in
    subst (λ x. BeginsText r x) (sym b.1)
    (begins_from r (ys ++ c ∷ []) u (run_step r ys c s (run_other r w ys s h.until) ∙ g) (ascii_scalar ys c l (front_scalars bytes ys (encode_utf8 c ++ z) a.utf8 a.here)))

-- other rules refuse it too
rejects : (r : Rules) → 16 ≤ r.limit → (bytes ys : List ℕ) (c : ℕ) (z : List ℕ) (s : State) (k : JsonKind) → At bytes ys c z → Stuck ys c s k → step r s c ≡ Err Syntax → ¬ (BeginsText r (take (length (encode_utf8_all ys) + 1) bytes))
rejects r w bytes ys c z s k a h g = refused_front r ys c s Syntax (run_other r w ys s h.until) g bytes z a.here (length (encode_utf8_all ys) + 1) (omega arith)

-- the reader's answer at a character that it refuses
pub fault_at : (bytes ys : List ℕ) (c : ℕ) (z : List ℕ) (s : State) (k : JsonKind) → At bytes ys c z → Stuck ys c s k → IsJsonFault bytes k (length (encode_utf8_all ys))
fault_at bytes ys c z s k a h = go k (longest_front bytes ys c z s k a h) (why ys c s k h) h
  where
    go : (k : JsonKind) → IsLongestFront bytes (length (encode_utf8_all ys)) → Why c (move s.place s.frames c) k → Stuck ys c s k → IsJsonFault bytes k (length (encode_utf8_all ys))
    go Syntax l w h = (
      a.utf8,
      l,
      short_front bytes ys c z a,
      λ x. rejects deeper (omega arith) bytes ys c z s Syntax a h (w deeper) x.1,
      λ x. rejects repeating (omega arith) bytes ys c z s Syntax a h (w repeating) x.1,
    )
    go Depth l w h =
        let b : c < 128 = elim w.0 [ inl e ↦ omega arith | inr e ↦ omega arith ] in
        let g = (byte_here bytes ys c z b a).0 in (
          a.utf8,
          l,
          short_front bytes ys c z a,
          (elim w.0 [ inl e ↦ inl (g ∙ ap Some e) | inr e ↦ inr (g ∙ ap Some e) ], accepts deeper (omega arith) bytes ys c z s w.1.0 Depth b a h w.1.1),
        )
    go Duplicate l w h =
        let b : c < 128 = omega (arith, w.0) in (
          a.utf8,
          l,
          short_front bytes ys c z a,
          ((byte_here bytes ys c z b a).0 ∙ ap Some w.0, accepts repeating (omega arith) bytes ys c z s w.1.0 Duplicate b a h w.1.1),
        )
    go End l w h = absurd w
    go Utf8 l w h = absurd w
    go Memory l w h = absurd w

-- THE END OF THE INPUT

-- the reader has read all bytes, as the characters ys
pub record AtEnd (bytes ys : List ℕ) : Type 0 where
  pub utf8 : IsUtf8 bytes
  pub here : bytes ≡ encode_utf8_all ys

end_scalars : (bytes ys : List ℕ) → AtEnd bytes ys → all_scalars ys ≡ true
end_scalars bytes ys a = front_scalars bytes ys [] a.utf8 (a.here ∙ sym (append-nil (encode_utf8_all ys)))

-- a value of the bytes is one of the characters
spelled_by : (r : Rules) (bytes ys : List ℕ) (v : Json) → AtEnd bytes ys → Spells r bytes v → IsText r v ys
spelled_by r bytes ys v a (cs, s, e, t) = subst (λ x. IsText r v x) (encodes_same cs ys (sym e ∙ a.here)) t

pub end_value : (bytes ys : List ℕ) (s : State) (v : Json) → AtEnd bytes ys → run strict (Ok start) ys ≡ Ok s → ended_value s.place s.frames ≡ Some v → Spells strict bytes v × ((u : Json) → Spells strict bytes u → u ≡ v)
end_value bytes ys s v a h e = (
  (ys, end_scalars bytes ys a, a.here, (text_of_run strict ys s h v).1 e),
  λ u w. let f = (text_of_run strict ys s h u).0 (spelled_by strict bytes ys u a w) in let g : Some u ≡ Some v = sym f ∙ e in cc,
)

pub end_fault : (bytes ys : List ℕ) (s : State) → AtEnd bytes ys → run strict (Ok start) ys ≡ Ok s → ended_value s.place s.frames ≡ None → IsJsonFault bytes End (length bytes)
end_fault bytes ys s a h e = (
  a.utf8,
  record {
    within = omega arith;
    begins = subst (λ x. BeginsText strict x) (sym (take-length bytes)) (subst (λ x. BeginsText strict x) (sym a.here) (begins_from strict ys s h (end_scalars bytes ys a)));
    longest = λ m l w _. omega arith;
  },
  refl,
  λ v w. let f = (text_of_run strict ys s h v).0 (spelled_by strict bytes ys v a w) in let g : Some v ≡ None = sym f ∙ e in cc,
)

-- A FAULT AND A VALUE EXCLUDE EACH OTHER

spells_utf8 : (bytes : List ℕ) (v : Json) → Spells strict bytes v → IsUtf8 bytes
spells_utf8 bytes v (cs, s, e, t) = (cs, (s, sym e))

no_longer : (bytes : List ℕ) (n : ℕ) (v : Json) → IsLongestFront bytes n → n < length bytes → Spells strict bytes v → ⊥
no_longer bytes n v l s w = l.longest (length bytes) s (omega arith) (subst (λ x. BeginsText strict x) (sym (take-length bytes)) ([], v, subst (λ x. Spells strict x v) (sym (append-nil bytes)) w))

pub fault_refuses : (bytes : List ℕ) (k : JsonKind) (n : ℕ) (v : Json) → k ≢ Memory → IsJsonFault bytes k n → ¬ (Spells strict bytes v)
fault_refuses bytes Syntax n v m (u, l, s, x, y) w = no_longer bytes n v l s w
fault_refuses bytes End n v m (u, l, e, none) w = none v w
fault_refuses bytes Depth n v m (u, l, s, x) w = no_longer bytes n v l s w
fault_refuses bytes Duplicate n v m (u, l, s, x) w = no_longer bytes n v l s w
fault_refuses bytes Utf8 n v m h w = h.longest (length bytes) h.short (subst (λ x. IsUtf8 x) (sym (take-length bytes)) (spells_utf8 bytes v w))
fault_refuses bytes Memory n v m h w = m refl

-- what the bytes spell has no fault but want of memory
pub memory_only : (bytes : List ℕ) (k : JsonKind) (n : ℕ) (v : Json) → Spells strict bytes v → IsJsonFault bytes k n → k ≡ Memory
memory_only bytes Syntax n v w h = absurd (fault_refuses bytes Syntax n v (λ e. cc) h w)
memory_only bytes End n v w h = absurd (fault_refuses bytes End n v (λ e. cc) h w)
memory_only bytes Depth n v w h = absurd (fault_refuses bytes Depth n v (λ e. cc) h w)
memory_only bytes Duplicate n v w h = absurd (fault_refuses bytes Duplicate n v (λ e. cc) h w)
memory_only bytes Utf8 n v w h = absurd (fault_refuses bytes Utf8 n v (λ e. cc) h w)
memory_only bytes Memory n v w h = refl
