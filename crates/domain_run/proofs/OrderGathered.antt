-- A list's elements kind by kind.
use Rattle.std.proofs.Common.{◌≡◌, ℕ, zero, suc, ◌<◌, ◌≤◌, Bool, true, false, cond, eqb, List, [], ◌∷◌, ◌++◌, refl, sym, ap, ◌∙◌, subst, arith, inl, inr, ne_eqb, eq-eqb}
use Rattle.std.specs.Prelude.{All, filter}
use Rattle.std.proofs.lemmas.Bool.{cases_lt}
use Rattle.std.proofs.lemmas.List.Elements.{All-head, All-tail}
use Rattle.domain_run.proofs.OrderLists.{Reordered, ends, next, chain, turned, before_same, middle_first}

-- those of kinds 0, 1, .. below n, one kind after another
abbrev pub gathered : {X : Type 0} → (X → ℕ) → ℕ → List X → List X
gathered kind zero xs = []
gathered kind (suc n) xs = gathered kind n xs ++ filter (λ x. eqb (kind x) n) xs

gathered_nothing : {X : Type 0} (kind : X → ℕ) (n : ℕ) → gathered kind n [] ≡ []
gathered_nothing kind zero = refl
gathered_nothing {X} kind (suc n) = ap (λ (ys : List X). ys ++ []) (gathered_nothing kind n)

gathered_none : {X : Type 0} (kind : X → ℕ) (n : ℕ) (x : X) (xs : List X) → n ≤ kind x → gathered kind n (x ∷ xs) ≡ gathered kind n xs
gathered_none kind zero x xs h = refl
gathered_none {X} kind (suc n) x xs h =
    let other : eqb (kind x) n ≡ false = ne_eqb (kind x) n (λ e. absurd (omega (arith, h, e))) in
    let those = filter (λ y. eqb (kind y) n) xs in
    ap (λ b. gathered kind n (x ∷ xs) ++ cond b (x ∷ those) those) other ∙ ap (λ (ys : List X). ys ++ those) (gathered_none kind n x xs (omega (arith, h)))

gathered_one : {X : Type 0} (kind : X → ℕ) (n : ℕ) (x : X) (xs : List X) → kind x < n → Reordered (gathered kind n (x ∷ xs)) (x ∷ gathered kind n xs)
gathered_one kind zero x xs h = absurd (omega (arith, h))
gathered_one {X} kind (suc n) x xs h =
    let those = filter (λ y. eqb (kind y) n) xs in
    elim (cases_lt (kind x) n) [
      | inl less ↦
          let other : eqb (kind x) n ≡ false = ne_eqb (kind x) n (λ e. absurd (omega (arith, less, e))) in
          subst (λ (b : Bool). Reordered (gathered kind n (x ∷ xs) ++ cond b (x ∷ those) those) (x ∷ gathered kind n xs ++ those)) (sym other)
          (before_same (gathered kind n (x ∷ xs)) (x ∷ gathered kind n xs) those (gathered_one kind n x xs less))
      | inr more ↦
          let here : eqb (kind x) n ≡ true = eq-eqb (kind x) n (omega (arith, more, h)) in
          subst (λ (b : Bool). Reordered (gathered kind n (x ∷ xs) ++ cond b (x ∷ those) those) (x ∷ gathered kind n xs ++ those)) (sym here)
          (subst (λ (ys : List X). Reordered (ys ++ x ∷ those) (x ∷ gathered kind n xs ++ those)) (sym (gathered_none kind n x xs more)) (middle_first (gathered kind n xs) x those))
    ]

-- where each element is of one of the kinds, kind by kind is another order
pub gather : {X : Type 0} (kind : X → ℕ) (n : ℕ) (xs : List X) → All (λ x. kind x < n) xs → Reordered xs (gathered kind n xs)
gather {X} kind n [] all = subst (λ (ys : List X). Reordered [] ys) (sym (gathered_nothing kind n)) ends
gather kind n (x ∷ xs) all =
    chain (x ∷ xs) (x ∷ gathered kind n xs) (gathered kind n (x ∷ xs))
    (next x xs (gathered kind n xs) (gather kind n xs (All-tail (λ y. kind y < n) x xs all)))
    (turned (gathered kind n (x ∷ xs)) (x ∷ gathered kind n xs) (gathered_one kind n x xs (All-head (λ y. kind y < n) x xs all)))

-- what two lists give, kind by kind, they give together
pub gathered_both : {X Y Z : Type 0} (kind : X → ℕ) (other : Y → ℕ) (f : List X → List Z) (g : List Y → List Z) (n : ℕ) (xs : List X) (ys : List Y)
    → f [] ≡ [] → g [] ≡ []
    → ((us vs : List X) → f (us ++ vs) ≡ f us ++ f vs) → ((us vs : List Y) → g (us ++ vs) ≡ g us ++ g vs)
    → ((i : ℕ) → i < n → f (filter (λ x. eqb (kind x) i) xs) ≡ g (filter (λ y. eqb (other y) i) ys))
    → f (gathered kind n xs) ≡ g (gathered other n ys)
gathered_both kind other f g zero xs ys no_f no_g f_both g_both each = no_f ∙ sym no_g
gathered_both {X} {Y} {Z} kind other f g (suc n) xs ys no_f no_g f_both g_both each =
    let rest = gathered_both kind other f g n xs ys no_f no_g f_both g_both (λ i h. each i (omega (arith, h))) in
    let here = each n (omega arith) in
    f_both (gathered kind n xs) (filter (λ x. eqb (kind x) n) xs)
    ∙ ap (λ (zs : List Z). zs ++ f (filter (λ x. eqb (kind x) n) xs)) rest
    ∙ ap (λ (zs : List Z). g (gathered other n ys) ++ zs) here
    ∙ sym (g_both (gathered other n ys) (filter (λ y. eqb (other y) n) ys))
