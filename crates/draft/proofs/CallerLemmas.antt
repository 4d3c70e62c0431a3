-- What a caller shows of texts that it puts behind one another.
use Rattle.std.proofs.Common.{◌≡◌, ℕ, ◌+◌, ◌<◌, List, [], ◌++◌, length, get_or, take, sym, ap, ◌∙◌, append_assoc}
use Rattle.std.specs.Prelude.{flat_map, Result, Ok, Err, IfOk, OnOk, true}
use Rattle.std.proofs.lemmas.List.{take_more, flat_map_more}
use Rattle.draft.specs.Draft.{DraftView, Adds}

-- two texts, one behind the other
pub joined : (a b c : DraftView) (s t : List ℕ) → Adds a b s → Adds b c t → Adds a c (s ++ t)
joined a b c s t p q whole =
    let second = q whole in
    let first = p second.0 in
    (first.0, second.1 ∙ ap (λ xs. xs ++ t) first.1 ∙ append_assoc a.text s t)

pub joined3 : (a b c d : DraftView) (s t u : List ℕ) → Adds a b s → Adds b c t → Adds c d u → Adds a d (s ++ (t ++ u))
joined3 a b c d s t u p q r = joined a b d s (t ++ u) p (joined b c d t u q r)

pub joined4 : (a b c d e : DraftView) (s t u v : List ℕ) → Adds a b s → Adds b c t → Adds c d u → Adds d e v → Adds a e (s ++ (t ++ (u ++ v)))
joined4 a b c d e s t u v p q r w = joined a b e s (t ++ (u ++ v)) p (joined3 b c d e t u v q r w)

-- a text that is another one
pub as_text : (a b : DraftView) (s t : List ℕ) → s ≡ t → Adds a b s → Adds a b t
as_text a b s t e p whole = ((p whole).0, (p whole).1 ∙ ap (λ xs. a.text ++ xs) e)

-- the line of what was read at a place, behind those of what stands before it
pub flat_at : {X : Type 0} (line : X → List ℕ) (xs : List X) (i : ℕ) (d : X) (old before after : List ℕ) → i < length xs → before ≡ old ++ flat_map line (take i xs) → after ≡ before ++ line (get_or xs i d) → after ≡ old ++ flat_map line (take (i + 1) xs)
flat_at line xs i d old before after l b a =
    a ∙ ap (λ t. t ++ line (get_or xs i d)) b ∙ flat_map_more line old (take i xs) (get_or xs i d)
    ∙ ap (λ ys. old ++ flat_map line ys) (sym (take_more xs i d l))

-- the line of what was read at a place, behind those of what stands before it
pub more_lines : {X : Type 0} (line : X → List ℕ) (xs : List X) (i : ℕ) (d : X) (old before after : DraftView) → i < length xs → Adds old before (flat_map line (take i xs)) → Adds before after (line (get_or xs i d)) → Adds old after (flat_map line (take (i + 1) xs))
more_lines line xs i d old before after l b a whole =
    let last = a whole in
    let first = b last.0 in
    (first.0, flat_at line xs i d old.text before.text after.text l first.1 last.1)

-- what was put into an empty draft is its whole text
pub finished : {T E : Type 0} (items : T → List ℕ) (r : Result T E) (a b : DraftView) (s : List ℕ) → a.text ≡ [] → Adds a b s → IfOk r (λ v. items v ≡ b.text) → OnOk r (b.whole ≡ true) → IfOk r (λ v. items v ≡ s)
finished items (Ok v) a b s empty p text whole = text ∙ (p whole).1 ∙ ap (λ xs. xs ++ s) empty
finished items (Err e) a b s empty p text whole = tt
