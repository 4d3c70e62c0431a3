-- Lines that end, and the first that is bad.
use Rattle.std.proofs.Common.{◌≡◌, ℕ, zero, suc, ◌+◌, ◌<◌, true, false, List, [], ◌∷◌, ◌++◌, length, get_or, take, drop, Option, Some, None, refl, sym, ap, ◌∙◌, arith, append_assoc, append-nil}
use Rattle.std.specs.List.{flat_map, list_any, position_or_len, position}
use Rattle.std.specs.Option.{option_map}
use Rattle.std.proofs.lemmas.Bool.{ne_eqb, eqb-true, eq-eqb, lt-ltb, le-ltb, or_parts}
use Rattle.std.proofs.lemmas.List.{length-append, take-append-drop, drop_more}
use Rattle.std.proofs.lemmas.List.Folds.{list_any-append}
use Rattle.std.proofs.lemmas.Grind.{flat_map-append}
use Rattle.memchr.specs.Find.{Nowhere, NoneBefore, Passes, is_byte, IsFirstByte}
use Rattle.recorded_text.specs.Line.{SwitchView}
use Rattle.recorded_text.specs.Text.{split_lines, is_bad_line, switches_in_line, first_bad}
use Rattle.recorded_text.specs.private.SoFar.{Lacks, IsReadSoFar}

lacks_front : (text : List ℕ) (i : ℕ) → ((k : ℕ) → k < i → k < length text → get_or text k 0 ≡ 10 → ⊥) → Lacks 10 (take i text)
lacks_front [] zero h = tt
lacks_front [] (suc i) h = tt
lacks_front (x ∷ xs) zero h = tt
lacks_front (x ∷ xs) (suc i) h = (h 0 (omega arith) (omega arith), lacks_front xs i (λ k l m. h (suc k) (omega (arith, l)) (omega (arith, m))))

lacks_all : (text : List ℕ) → ((k : ℕ) → k < length text → get_or text k 0 ≡ 10 → ⊥) → Lacks 10 text
lacks_all [] h = tt
lacks_all (x ∷ xs) h = (h 0 (omega arith), lacks_all xs (λ k m. h (suc k) (omega (arith, m))))

pub Lacks-append : (c : ℕ) (a b : List ℕ) → Lacks c a → Lacks c b → Lacks c (a ++ b)
Lacks-append c [] b h k = k
Lacks-append c (x ∷ a) b h k = (h.0, Lacks-append c a b h.1 k)

parted : (text : List ℕ) (i : ℕ) → i < length text → text ≡ take i text ++ get_or text i 0 ∷ drop (i + 1) text
parted text i l = sym (take-append-drop i text) ∙ ap (λ rest. take i text ++ rest) (drop_more text i 0 l)

pub split_line : (text : List ℕ) (i : ℕ) → NoneBefore (Passes (is_byte 10) text) 0 (length text) i × Passes (is_byte 10) text i → (text ≡ take i text ++ 10 ∷ drop (i + 1) text) × Lacks 10 (take i text)
split_line text i found = (
  parted text i found.0.high ∙ ap (λ (c : ℕ). take i text ++ c ∷ drop (i + 1) text) (eqb-true _ _ found.1),
  lacks_front text i (λ k l m e. found.0.before k (omega arith) l (eq-eqb _ _ e)),
)

pub no_line : (text : List ℕ) → Nowhere (Passes (is_byte 10) text) 0 (length text) → Lacks 10 text
no_line text none = lacks_all text (λ k l e. none k (omega arith) l (eq-eqb _ _ e))

lines_cut : (front rest : List ℕ) → Lacks 10 front → split_lines (front ++ 10 ∷ rest) ≡ front ∷ split_lines rest
unfolding split_lines
lines_cut [] rest h = refl
lines_cut (x ∷ xs) rest h = rw (ne_eqb x 10 h.0, lines_cut xs rest h.1) refl

pub last_line : (text : List ℕ) → Lacks 10 text → split_lines text ≡ text ∷ []
unfolding split_lines
last_line [] h = refl
last_line (x ∷ xs) h = rw (ne_eqb x 10 h.0, last_line xs h.1) refl

-- what is ahead, with its first line apart
ahead_is : (rest front left after : List ℕ) → Lacks 10 rest → Lacks 10 front → split_lines ((rest ++ (front ++ 10 ∷ left)) ++ after) ≡ (rest ++ front) ∷ split_lines (left ++ after)
ahead_is rest front left after a b =
    let same : (rest ++ (front ++ 10 ∷ left)) ++ after ≡ (rest ++ front) ++ 10 ∷ (left ++ after) = simp append_assoc in
    ap split_lines same ∙ lines_cut (rest ++ front) (left ++ after) (Lacks-append 10 rest front a b)

pub next_line : (whole rest front left after : List ℕ) (count : ℕ) (found more : List SwitchView) → Lacks 10 rest → Lacks 10 front → IsReadSoFar whole ((rest ++ (front ++ 10 ∷ left)) ++ after) count found → is_bad_line (rest ++ front) ≡ false → more ≡ found ++ switches_in_line (rest ++ front) → IsReadSoFar whole (left ++ after) (count + 1) more
next_line whole rest front left after count found more a b h good tells =
    record {
      done = h.done ++ (rest ++ front) ∷ [];
      parts = h.parts ∙ ap (λ ls. h.done ++ ls) (ahead_is rest front left after a b) ∙ sym (append_assoc h.done ((rest ++ front) ∷ []) (split_lines (left ++ after)));
      counted = omega (arith, h.counted, length-append h.done ((rest ++ front) ∷ []));
      good = list_any-append is_bad_line h.done ((rest ++ front) ∷ []) ∙ rw (h.good, good) refl;
      shown = tells ∙ rw h.shown (ap (λ s. flat_map switches_in_line h.done ++ s) (sym (append-nil (switches_in_line (rest ++ front)))) ∙ sym (flat_map-append switches_in_line h.done ((rest ++ front) ∷ [])));
    }

pub first_at : (done more : List (List ℕ)) (line : List ℕ) → list_any is_bad_line done ≡ false → is_bad_line line ≡ true → position_or_len is_bad_line (done ++ line ∷ more) ≡ length done
first_at [] more line good bad = rw bad refl
first_at (d ∷ ds) more line good bad =
    let p = or_parts (is_bad_line d) (list_any is_bad_line ds) good in
    let rest = first_at ds more line p.1 bad in
    rw p.0 (omega (arith, rest))

none_at : (done : List (List ℕ)) → list_any is_bad_line done ≡ false → position_or_len is_bad_line done ≡ length done
none_at [] good = refl
none_at (d ∷ ds) good =
    let p = or_parts (is_bad_line d) (list_any is_bad_line ds) good in
    let rest = none_at ds p.1 in
    rw p.0 (omega (arith, rest))

-- where no line is bad, there is no first bad one
pub none_bad : (done : List (List ℕ)) → list_any is_bad_line done ≡ false → position is_bad_line done ≡ None
none_bad done good = rw (none_at done good, le-ltb (length done) (length done) (omega arith)) refl

pub bad_line : (whole rest front left after : List ℕ) (count : ℕ) (found : List SwitchView) → Lacks 10 rest → Lacks 10 front → IsReadSoFar whole ((rest ++ (front ++ 10 ∷ left)) ++ after) count found → is_bad_line (rest ++ front) ≡ true → first_bad whole ≡ Some (count + 1)
bad_line whole rest front left after count found a b h bad =
    let more = split_lines (left ++ after) in
    let parts : split_lines whole ≡ h.done ++ (rest ++ front) ∷ more = h.parts ∙ ap (λ ls. h.done ++ ls) (ahead_is rest front left after a b) in
    let within : length h.done < length (h.done ++ (rest ++ front) ∷ more) = omega (arith, length-append h.done ((rest ++ front) ∷ more)) in
    let place : position is_bad_line (h.done ++ (rest ++ front) ∷ more) ≡ Some (length h.done) = rw (first_at h.done more (rest ++ front) h.good bad, lt-ltb _ _ within) refl in
    ap (λ ls. option_map (λ i. i + 1) (position is_bad_line ls)) parts ∙ ap (λ o. option_map (λ i. i + 1) o) place ∙ ap (λ (n : ℕ). Some (n + 1)) (sym h.counted)

pub no_line_from : (text : List ℕ) (r : Option ℕ) → IsFirstByte (is_byte 10) text r → ((i : ℕ) → r ≡ Some i → ⊥) → Lacks 10 text
no_line_from text None h none = no_line text h
no_line_from text (Some i) h none = absurd (none i refl)

-- the first line of a text that has one that ends, and the only line of one that has none
pub first_line : (text : List ℕ) (i : ℕ) → NoneBefore (Passes (is_byte 10) text) 0 (length text) i × Passes (is_byte 10) text i → split_lines text ≡ take i text ∷ split_lines (drop (i + 1) text)
first_line text i found =
    let cut = split_line text i found in
    ap split_lines cut.0 ∙ lines_cut (take i text) (drop (i + 1) text) cut.1

pub only_line : (text : List ℕ) (r : Option ℕ) → IsFirstByte (is_byte 10) text r → ((i : ℕ) → r ≡ Some i → ⊥) → split_lines text ≡ text ∷ []
only_line text r h none = last_line text (no_line_from text r h none)
