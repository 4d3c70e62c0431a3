-- Texts that lack a byte.
use Rattle.std.proofs.Common.{◌≡◌, ℕ, zero, suc, ◌+◌, ◌-◌, ◌/◌, ◌%◌, ◌≤◌, ◌<◌, true, false, not, eqb, List, [], ◌∷◌, ◌++◌, ◌⊎◌, length, get_or, take, drop, Option, Some, None, refl, sym, ap, ◌∙◌, inl, inr, arith, append-nil}
use Rattle.std.specs.Prelude.{decimal, All}
use Rattle.std.specs.List.{list_all, list_any}
use Rattle.std.specs.Fmt.{digits, digit_glyph, digits_onto}
use Rattle.std.proofs.lemmas.Bool.{cases_Bool, eqb-false, eq-eqb, eqb-true, not-true, and_parts, or_parts, lt-ltb}
use Rattle.std.proofs.lemmas.List.{take-append-drop, drop_more, length-drop}
use Rattle.std.proofs.Math.Seq.{take-length}
use Rattle.memchr.specs.Find.{Nowhere, NoneBefore, Passes, is_byte}
use Rattle.tasks_text.specs.Tasks.{has_byte, pid_text}
use Rattle.tasks_text.specs.private.Lines.{LacksByte}

pub LacksByte-append : (c : ℕ) (a b : List ℕ) → LacksByte c a → LacksByte c b → LacksByte c (a ++ b)
LacksByte-append c [] b h k = k
LacksByte-append c (x ∷ a) b h k = (h.0, LacksByte-append c a b h.1 k)

-- a text that is written out
pub LacksByte-written : (c : ℕ) (text : List ℕ) → list_all (λ x. not (eqb x c)) text ≡ true → LacksByte c text
LacksByte-written c [] h = tt
LacksByte-written c (x ∷ xs) h = let p = and_parts (not (eqb x c)) (list_all (λ y. not (eqb y c)) xs) h in (eqb-false _ _ (not-true _ p.0), LacksByte-written c xs p.1)

lacks_front : (c : ℕ) (text : List ℕ) (i : ℕ) → ((k : ℕ) → k < i → k < length text → get_or text k 0 ≡ c → ⊥) → LacksByte c (take i text)
lacks_front c [] zero h = tt
lacks_front c [] (suc i) h = tt
lacks_front c (x ∷ xs) zero h = tt
lacks_front c (x ∷ xs) (suc i) h = (h 0 (omega arith) (omega arith), lacks_front c xs i (λ k l m. h (suc k) (omega (arith, l)) (omega (arith, m))))

lacks_all : (c : ℕ) (text : List ℕ) → ((k : ℕ) → k < length text → get_or text k 0 ≡ c → ⊥) → LacksByte c text
lacks_all c [] h = tt
lacks_all c (x ∷ xs) h = (h 0 (omega arith), lacks_all c xs (λ k m. h (suc k) (omega (arith, m))))

parted : (text : List ℕ) (i : ℕ) → i < length text → text ≡ take i text ++ get_or text i 0 ∷ drop (i + 1) text
parted text i l = sym (take-append-drop i text) ∙ ap (λ rest. take i text ++ rest) (drop_more text i 0 l)

pub cut_parts : (c : ℕ) (text : List ℕ) (i : ℕ) → NoneBefore (Passes (is_byte c) text) 0 (length text) i × Passes (is_byte c) text i → LacksByte c (take i text) × (text ≡ take i text ++ c ∷ drop (i + 1) text)
cut_parts c text i found = (
  lacks_front c text i (λ k l m e. found.0.before k (omega arith) l (eq-eqb _ _ e)),
  parted text i found.0.high ∙ ap (λ (x : ℕ). take i text ++ x ∷ drop (i + 1) text) (eqb-true _ _ found.1),
)

pub cut_none : (c : ℕ) (text : List ℕ) → Nowhere (Passes (is_byte c) text) 0 (length text) → LacksByte c text
cut_none c text none = lacks_all c text (λ k l e. none k (omega arith) l (eq-eqb _ _ e))

-- a slice from k on is what is dropped to
pub rest_is : {X : Type 0} (k : ℕ) (items : List X) → take (length items - k) (drop k items) ≡ drop k items
rest_is k items = ap (λ (n : ℕ). take n (drop k items)) (sym (length-drop k items)) ∙ take-length (drop k items)

-- ---- what precedes the first such byte

pub lacks_not : (c : ℕ) (a x : List ℕ) → LacksByte c (a ++ c ∷ x) → ⊥
lacks_not c [] x h = h.0 refl
lacks_not c (y ∷ a) x h = lacks_not c a x h.1

pub same_front : (c : ℕ) (a b x y : List ℕ) → LacksByte c a → LacksByte c b → a ++ c ∷ x ≡ b ++ c ∷ y → (a ≡ b) × (x ≡ y)
same_front c [] [] x y h k e = (refl, ap (drop 1) e)
same_front c [] (b ∷ bs) x y h k e = absurd (k.0 (sym (ap (λ (l : List ℕ). get_or l 0 0) e)))
same_front c (a ∷ xs) [] x y h k e = absurd (h.0 (ap (λ (l : List ℕ). get_or l 0 0) e))
same_front c (a ∷ xs) (b ∷ bs) x y h k e =
    let t = same_front c xs bs x y h.1 k.1 (ap (drop 1) e) in
    let head : a ≡ b = ap (λ (l : List ℕ). get_or l 0 0) e in
    (ap (λ (z : ℕ). z ∷ xs) head ∙ ap (λ (zs : List ℕ). b ∷ zs) t.0, t.1)

-- ---- names and numbers

pub plain_lacks : (c : ℕ) (text : List ℕ) → has_byte c text ≡ false → LacksByte c text
plain_lacks c [] h = tt
plain_lacks c (x ∷ xs) h =
    let p = or_parts (eqb c x) (list_any (λ (b : ℕ). eqb c b) xs) h in
    ((λ same. eqb-false _ _ p.0 (sym same)), plain_lacks c xs p.1)

pub name_lacks : (c : ℕ) (text : List ℕ) → c < 33 → All (λ b. (33 ≤ b) × (b ≤ 126)) text → LacksByte c text
name_lacks c [] low h = tt
name_lacks c (x ∷ xs) low h = ((λ same. omega (arith, same, low, h 0 0 (omega arith))), name_lacks c xs low (λ k d lt. h (suc k) d (omega (arith, lt))))

glyph_differs : (c d : ℕ) → (c < 48) ⊎ (57 < c) → d < 10 → digit_glyph false d ≡ c → ⊥
glyph_differs c d out small e =
    let is : digit_glyph false d ≡ 48 + d = rw (lt-ltb d 10 small) refl in
    elim out [
      | inl low ↦ omega (arith, low, is, e)
      | inr high ↦ omega (arith, high, is, e, small)
    ]

onto_lacks : (c k n : ℕ) (acc : List ℕ) → (c < 48) ⊎ (57 < c) → LacksByte c acc → LacksByte c (digits_onto k 10 false n acc)
onto_lacks c zero n acc out h = h
onto_lacks c (suc k) n acc out h =
    let more : LacksByte c (digit_glyph false (n % 10) ∷ acc) = ((λ e. glyph_differs c (n % 10) out (omega arith) e), h) in
    elim (cases_Bool (eqb (n / 10) 0)) [
      | inl last ↦ rw last more
      | inr on ↦ rw on (onto_lacks c k (n / 10) (digit_glyph false (n % 10) ∷ acc) out more)
    ]

-- digits alone stand in a number
pub decimal_lacks : (c n : ℕ) → (c < 48) ⊎ (57 < c) → LacksByte c (decimal n)
unfolding digits
decimal_lacks c n out = onto_lacks c 64 n [] out tt

pub pid_lacks : (c : ℕ) (pid : Option ℕ) → c < 48 → LacksByte c (pid_text pid)
pid_lacks c None low = tt
pid_lacks c (Some n) low = ((λ e. omega (arith, e, low)), decimal_lacks c n (inl low))

-- a name ends at its =, or with the field
pub names_same : (n m : List ℕ) (p q : Option ℕ) → LacksByte 61 n → LacksByte 61 m → n ++ pid_text p ≡ m ++ pid_text q → (n ≡ m) × (pid_text p ≡ pid_text q)
names_same n m None None h k e = (sym (append-nil n) ∙ e ∙ append-nil m, refl)
names_same n m None (Some q) h k e = absurd (lacks_not 61 m (decimal q) (rw (sym e, append-nil n) h))
names_same n m (Some p) None h k e = absurd (lacks_not 61 n (decimal p) (rw (e, append-nil m) k))
names_same n m (Some p) (Some q) h k e =
    let t = same_front 61 n m (decimal p) (decimal q) h k e in
    (t.0, ap (λ (ds : List ℕ). 61 ∷ ds) t.1)
