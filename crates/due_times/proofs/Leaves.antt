-- The leaves of a timer tree that becomes wider.
use Rattle.std.proofs.Common.{◌≡◌, ℕ, zero, suc, ◌+◌, ◌-◌, ◌*◌, ◌^◌, ◌<◌, ◌≤◌, List, [], ◌∷◌, ◌++◌, length, get_or, drop, replicate, refl, sym, ap, ◌∙◌, arith, inl, inr}
use Rattle.std.proofs.lemmas.Bool.{cases_lt}
use Rattle.std.proofs.lemmas.Grind.{same_number_lists}
use Rattle.std.proofs.lemmas.List.{length-append, length-drop, length-replicate, get_or_append_left, get_or-append_right, get_or-drop, get_or-replicate}
use Rattle.due_times.specs.Timers.{least}
use Rattle.due_times.specs.private.TimerTree.{AreCopied}

-- after a list that was made longer there are times that never come
more_at : (old : List ℕ) (more : List ℕ) (count node : ℕ) → more ≡ old ++ replicate count (2 ^ 64 - 1) → length old ≤ node → node < length old + count → get_or more node 0 ≡ 2 ^ 64 - 1
more_at old more count node is past within =
    ap (λ ns. get_or ns node 0) is
    ∙ get_or-append_right old (replicate count (2 ^ 64 - 1)) (length old) node 0 refl past
    ∙ get_or-replicate count (node - length old) (2 ^ 64 - 1) 0 (omega (arith, past, within))

pub widened : (old more new : List ℕ) (half : ℕ) → length old ≡ 2 * half → more ≡ old ++ replicate (6 * half) (2 ^ 64 - 1) → length new ≡ 8 * half → AreCopied more half half new → drop (4 * half) new ≡ drop half old ++ replicate (3 * half) (2 ^ 64 - 1)
widened old more new half two is eight copied = same_number_lists _ _ (omega (arith, length-drop (4 * half) new, length-append (drop half old) (replicate (3 * half) (2 ^ 64 - 1)), length-drop half old, length-replicate (3 * half) (2 ^ 64 - 1), two, eight)) each
  where
    left : (k : ℕ) → k < half → get_or (drop (4 * half) new) k 0 ≡ get_or (drop half old ++ replicate (3 * half) (2 ^ 64 - 1)) k 0
    left k h =
        get_or-drop (4 * half) new k 0 ∙ copied.copies k h
        ∙ ap (λ ns. get_or ns (half + k) 0) is ∙ get_or_append_left old (replicate (6 * half) (2 ^ 64 - 1)) 0 (half + k) (omega (arith, h, two))
        ∙ sym (get_or_append_left (drop half old) (replicate (3 * half) (2 ^ 64 - 1)) 0 k (omega (arith, h, two, length-drop half old)) ∙ get_or-drop half old k 0)

    right : (k : ℕ) → half ≤ k → k < 4 * half → get_or (drop (4 * half) new) k 0 ≡ get_or (drop half old ++ replicate (3 * half) (2 ^ 64 - 1)) k 0
    right k past h =
        get_or-drop (4 * half) new k 0 ∙ copied.following (4 * half + k) (omega (arith, past))
        ∙ more_at old more (6 * half) (4 * half + k) is (omega (arith, two)) (omega (arith, h, two))
        ∙ sym (more_at (drop half old) (drop half old ++ replicate (3 * half) (2 ^ 64 - 1)) (3 * half) k refl (omega (arith, past, two, length-drop half old)) (omega (arith, h, two, length-drop half old)))

    each : (k : ℕ) → k < length (drop (4 * half) new) → get_or (drop (4 * half) new) k 0 ≡ get_or (drop half old ++ replicate (3 * half) (2 ^ 64 - 1)) k 0
    each k h =
        let within : k < 4 * half = omega (arith, h, length-drop (4 * half) new, eight) in
        elim (cases_lt k half) [ inl less ↦ left k less | inr past ↦ right k past within ]

-- each of several times is not before the first of them
pub least_later : (time : ℕ) (due : List ℕ) (place : ℕ) → time < least due → place < length due → time < get_or due place 0
least_later time [] place h within = absurd (omega (arith, within))
least_later time (t ∷ due) zero h within = omega (arith, h)
least_later time (t ∷ due) (suc place) h within = least_later time due place (omega (arith, h)) (omega (arith, within))
