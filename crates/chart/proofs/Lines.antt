-- Lines put behind one another.
use Rattle.std.proofs.Common.{◌≡◌, ℕ, suc, ◌+◌, ◌<◌, List, [], ◌∷◌, ◌++◌, length, get_or, take, map, refl, sym, ap, ◌∙◌, arith, append_assoc, append-nil}
use Rattle.std.proofs.lemmas.List.{take_more, length-take-le}
use Rattle.run_figures.specs.Lines.{numbered_lines}
use Rattle.draft.specs.Draft.{DraftView, Adds}

numbered_push : {X : Type 0} (line : ℕ → X → List ℕ) (n : ℕ) (xs : List X) (x : X) → numbered_lines line n (xs ++ x ∷ []) ≡ numbered_lines line n xs ++ line (n + length xs) x
numbered_push line n [] x =
    let e : n ≡ n + 0 = omega arith in
    append-nil (line n x) ∙ ap (λ k. line k x) e
numbered_push line n (y ∷ ys) x =
    let e : n + 1 + length ys ≡ n + suc (length ys) = omega arith in
    ap (λ t. line n y ++ t) (numbered_push line (n + 1) ys x ∙ ap (λ k. numbered_lines line (n + 1) ys ++ line k x) e)
    ∙ sym (append_assoc (line n y) (numbered_lines line (n + 1) ys) (line (n + suc (length ys)) x))

-- the same of numbered lines, where the first has the number 0
pub numbered_at : {X : Type 0} (line : ℕ → X → List ℕ) (xs : List X) (i : ℕ) (d : X) (old before after : List ℕ) → i < length xs → before ≡ old ++ numbered_lines line 0 (take i xs) → after ≡ before ++ line i (get_or xs i d) → after ≡ old ++ numbered_lines line 0 (take (i + 1) xs)
numbered_at line xs i d old before after l b a =
    let len : length (take i xs) ≡ i = length-take-le i xs (omega arith) in
    let at : 0 + length (take i xs) ≡ i = omega (arith, len) in
    let x = get_or xs i d in
    let more : numbered_lines line 0 (take (i + 1) xs) ≡ numbered_lines line 0 (take i xs) ++ line i x =
    ap (numbered_lines line 0) (take_more xs i d l) ∙ numbered_push line 0 (take i xs) x ∙ ap (λ k. numbered_lines line 0 (take i xs) ++ line k x) at in
    a ∙ ap (λ t. t ++ line i x) b ∙ append_assoc old (numbered_lines line 0 (take i xs)) (line i x) ∙ ap (λ t. old ++ t) (sym more)

pub numbered-map : {X Y : Type 0} (line : ℕ → Y → List ℕ) (v : X → Y) (n : ℕ) (xs : List X) → numbered_lines line n (map v xs) ≡ numbered_lines (λ k x. line k (v x)) n xs
numbered-map line v n [] = refl
numbered-map line v n (x ∷ xs) = ap (λ t. line n (v x) ++ t) (numbered-map line v (n + 1) xs)

-- ---- behind a draft

-- the line of what was read at a place, which has a number, behind those of what stands before it,
-- where the first has the number 0
pub more_numbered : {X : Type 0} (line : ℕ → X → List ℕ) (xs : List X) (i : ℕ) (d : X) (old before after : DraftView) → i < length xs → Adds old before (numbered_lines line 0 (take i xs)) → Adds before after (line i (get_or xs i d)) → Adds old after (numbered_lines line 0 (take (i + 1) xs))
more_numbered line xs i d old before after l b a whole =
    let last = a whole in
    let first = b last.0 in
    (first.0, numbered_at line xs i d old.text before.text after.text l first.1 last.1)
