-- What a search finds is where the text is cut.
use Rattle.std.proofs.Common.{◌≡◌, ℕ, zero, suc, ◌+◌, ◌-◌, ◌<◌, false, List, [], ◌∷◌, length, take, drop, Some, None, refl, sym, ap, ◌∙◌, arith, suc-add, zero-add, ⊎_elim}
use Rattle.std.proofs.lemmas.List.{length-drop}
use Rattle.std.proofs.Math.Seq.{take-length}
use Rattle.std.proofs.lemmas.Bool.{cases_Bool}
use Rattle.memchr.specs.Find.{Nowhere, OccursAt, occurs_at}
use Rattle.memchr.proofs.lemmas.MatchLemmas.{occurs_at-true, OccursAt-true}
use Rattle.recorded_text.specs.Cuts.{first_cut, last_cut}

-- a mark stands one place later behind one more byte
later : (x : ℕ) (xs mark : List ℕ) (k : ℕ) → OccursAt xs mark k → OccursAt (x ∷ xs) mark (suc k)
later x xs mark k h = record { fits = omega (arith, h.fits); reads = λ j l. rw suc-add (h.reads j l) }

earlier : (x : ℕ) (xs mark : List ℕ) (k : ℕ) → OccursAt (x ∷ xs) mark (suc k) → OccursAt xs mark k
earlier x xs mark k h = record { fits = omega (arith, h.fits); reads = λ j l. rw suc-add at (h.reads j l) }

-- where a mark does not stand, the test fails
missing : (text mark : List ℕ) (k : ℕ) → (OccursAt text mark k → ⊥) → occurs_at text mark k ≡ false
missing text mark k h =
    ⊎_elim (λ yes. absurd (h (OccursAt-true text mark k yes))) (λ no. no) (cases_Bool (occurs_at text mark k))

-- no mark stands in nothing
in_nothing : (mark : List ℕ) (k : ℕ) → 0 < length mark → OccursAt [] mark k → ⊥
in_nothing mark k some h = omega (arith, h.fits, some)

pub first_found : (mark text : List ℕ) (k : ℕ) → 0 < length mark → ((j : ℕ) → j < k → OccursAt text mark j → ⊥) → OccursAt text mark k → first_cut mark text ≡ Some (take k text, drop (k + length mark) text)
unfolding first_cut
first_found mark [] k some before here = absurd (in_nothing mark k some here)
first_found mark (x ∷ xs) zero some before here = rw (occurs_at-true (x ∷ xs) mark 0 here, zero-add) refl
first_found mark (x ∷ xs) (suc k) some before here =
    let rest = first_found mark xs k some (λ j l h. before (suc j) (omega (arith, l)) (later x xs mark j h)) (earlier x xs mark k here) in
    rw (missing (x ∷ xs) mark 0 (before 0 (omega arith)), rest, suc-add) refl

pub first_missing : (mark text : List ℕ) → 0 < length mark → ((j : ℕ) → OccursAt text mark j → ⊥) → first_cut mark text ≡ None
unfolding first_cut
first_missing mark [] some none = refl
first_missing mark (x ∷ xs) some none =
    rw (missing (x ∷ xs) mark 0 (none 0), first_missing mark xs some (λ j h. none (suc j) (later x xs mark j h))) refl

pub last_missing : (mark text : List ℕ) → 0 < length mark → ((j : ℕ) → OccursAt text mark j → ⊥) → last_cut mark text ≡ None
unfolding last_cut
last_missing mark [] some none = refl
last_missing mark (x ∷ xs) some none =
    rw (missing (x ∷ xs) mark 0 (none 0), last_missing mark xs some (λ j h. none (suc j) (later x xs mark j h))) refl

pub last_found : (mark text : List ℕ) (k : ℕ) → 0 < length mark → ((j : ℕ) → k < j → OccursAt text mark j → ⊥) → OccursAt text mark k → last_cut mark text ≡ Some (take k text, drop (k + length mark) text)
unfolding last_cut
last_found mark [] k some after here = absurd (in_nothing mark k some here)
last_found mark (x ∷ xs) zero some after here =
    rw (occurs_at-true (x ∷ xs) mark 0 here, last_missing mark xs some (λ j h. after (suc j) (omega arith) (later x xs mark j h)), zero-add) refl
last_found mark (x ∷ xs) (suc k) some after here =
    let rest = last_found mark xs k some (λ j l h. after (suc j) (omega (arith, l)) (later x xs mark j h)) (earlier x xs mark k here) in
    rw (rest, suc-add) refl

-- what a search over a whole text says of every place
pub nowhere : (text mark : List ℕ) → Nowhere (OccursAt text mark) 0 (length text + 1) → (j : ℕ) → OccursAt text mark j → ⊥
nowhere text mark none j h = none j (omega arith) (omega (arith, h.fits)) h

-- a slice from k on is what is dropped to
pub rest_is : {X : Type 0} (k : ℕ) (items : List X) → take (length items - k) (drop k items) ≡ drop k items
rest_is k items = ap (λ (n : ℕ). take n (drop k items)) (sym (length-drop k items)) ∙ take-length (drop k items)
