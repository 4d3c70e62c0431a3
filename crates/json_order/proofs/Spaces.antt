-- White space, and tests.
use Rattle.std.proofs.Common.{ℕ, ◌≡◌, ◌⊎◌, inl, inr, Bool, true, false, List, [], ◌∷◌, ◌++◌, refl, ap, sym, subst}
use Rattle.json_order.specs.Grammar.{is_space, AreSpaces, IsSpaced}

-- a test, by its two answers
pub split : (P : Bool → Type 0) (b : Bool) → (b ≡ true → P true) → (b ≡ false → P false) → P b
split P true left right = left refl
split P false left right = right refl

-- none at all
pub none_spaced : (m : List ℕ) → IsSpaced m m
none_spaced m = ([], tt, refl)

pub one_spaced : (c : ℕ) (rest m : List ℕ) → is_space c ≡ true → IsSpaced rest m → IsSpaced (c ∷ rest) m
one_spaced c rest m h w = (c ∷ w.0, (h, w.1), ap (λ x. c ∷ x) w.2)

-- a character is white space, or white space ends before it
pub spaced_cons : (c : ℕ) (rest m : List ℕ) → IsSpaced (c ∷ rest) m → ((is_space c ≡ true) × IsSpaced rest m) ⊎ (m ≡ c ∷ rest)
spaced_cons c rest m w = go w.0 w.1 w.2
  where
    go : (spaces : List ℕ) → AreSpaces spaces → c ∷ rest ≡ spaces ++ m → ((is_space c ≡ true) × IsSpaced rest m) ⊎ (m ≡ c ∷ rest)
    go [] all e = inr (sym e)
    go (x ∷ xs) all e = let same : x ≡ c = cc in let tail : rest ≡ xs ++ m = cc in inl (subst (λ y. is_space y ≡ true) same all.0, (xs, all.1, tail))

-- white space, and then A
abbrev pub Behind : (List ℕ → Type 0) → List ℕ → Type 0
Behind A rest = (s : List ℕ) × IsSpaced rest s × A s

pub behind_space : (A : List ℕ → Type 0) (c : ℕ) → is_space c ≡ true → ((rest : List ℕ) → ¬ (A (c ∷ rest))) → (rest : List ℕ) → (Behind A (c ∷ rest) → Behind A rest) × (Behind A rest → Behind A (c ∷ rest))
behind_space A c h not rest = (to, λ w. (w.0, one_spaced c rest w.0 h w.1, w.2))
  where
    to : Behind A (c ∷ rest) → Behind A rest
    to (s, sp, a) = elim (spaced_cons c rest s sp) [ inl p ↦ (s, p.1, a) | inr e ↦ absurd (not rest (subst A e a)) ]

pub behind_other : (A : List ℕ → Type 0) (c : ℕ) → is_space c ≡ false → (rest : List ℕ) → (Behind A (c ∷ rest) → A (c ∷ rest)) × (A (c ∷ rest) → Behind A (c ∷ rest))
behind_other A c h rest = (to, λ a. (c ∷ rest, none_spaced (c ∷ rest), a))
  where
    to : Behind A (c ∷ rest) → A (c ∷ rest)
    to (s, sp, a) = elim (spaced_cons c rest s sp) [ inl p ↦ absurd (let yes' : is_space c ≡ true = p.0 in cc) | inr e ↦ subst A e a ]
