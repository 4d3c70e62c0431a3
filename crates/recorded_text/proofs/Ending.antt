-- What is read of a reader, piece by piece and to its end.
use Rattle.std.proofs.Common.{◌≡◌, ℕ, ◌+◌, ◌<◌, true, false, List, [], ◌∷◌, ◌++◌, length, Option, Some, None, refl, sym, ap, ◌∙◌, arith, subst, map, append_assoc, append-nil}
use Rattle.std.specs.Prelude.{IfSome}
use Rattle.std.specs.Option.{option_map}
use Rattle.std.specs.List.{flat_map, list_any, position}
use Rattle.std.proofs.lemmas.Bool.{lt-ltb}
use Rattle.std.proofs.lemmas.List.{length-append}
use Rattle.std.proofs.lemmas.List.Folds.{list_any-append}
use Rattle.std.proofs.lemmas.Grind.{flat_map-append}
use Rattle.std.specs.Io.KnownBytes.{Consumes, IsAtEnd}
use Rattle.recorded_text.specs.Line.{SwitchView}
use Rattle.recorded_text.specs.Steps.{step_view}
use Rattle.recorded_text.specs.declared.step.Step.{Step}
use Rattle.recorded_text.specs.declared.fault.RecordedFault.{RecordedFault}
use Rattle.recorded_text.specs.Text.{split_lines, is_bad_line, switches_in_line, first_bad, IsRead, IsRecordedFault}
use Rattle.recorded_text.specs.private.SoFar.{Lacks, IsReadSoFar, AreDone}
use Rattle.recorded_text.proofs.Lining.{last_line, none_bad, first_at}

-- nothing is done yet
pub at_start : (a : Option (List ℕ)) → AreDone a a [] 0 []
at_start None = tt
at_start (Some whole) = record { done = []; parts = refl; counted = refl; good = refl; shown = refl }

-- a piece that a read gave
pub piece_done : (a b c : Option (List ℕ)) (piece rest kept : List ℕ) (count after : ℕ) (found more : List SwitchView) → AreDone a b rest count found → Consumes b c piece
    → ((whole ahead : List ℕ) → IsReadSoFar whole ((rest ++ piece) ++ ahead) count found → IsReadSoFar whole (kept ++ ahead) after more) → AreDone a c kept after more
piece_done None b c piece rest kept count after found more h gone f = tt
piece_done (Some whole) None c piece rest kept count after found more h gone f = absurd h
piece_done (Some whole) (Some left) None piece rest kept count after found more h gone f = absurd gone
piece_done (Some whole) (Some left) (Some ahead) piece rest kept count after found more h gone f =
    f whole ahead (subst (λ (t : List ℕ). IsReadSoFar whole t count found) (ap (λ t. rest ++ t) gone ∙ sym (append_assoc rest piece ahead)) h)

pub piece_bad : (a b c : Option (List ℕ)) (piece rest : List ℕ) (count : ℕ) (found : List SwitchView) (e : RecordedFault) → AreDone a b rest count found → Consumes b c piece
    → ((whole ahead : List ℕ) → IsReadSoFar whole ((rest ++ piece) ++ ahead) count found → IsRecordedFault whole e) → IfSome a (λ text. IsRecordedFault text e)
piece_bad None b c piece rest count found e h gone f = tt
piece_bad (Some whole) None c piece rest count found e h gone f = absurd h
piece_bad (Some whole) (Some left) None piece rest count found e h gone f = absurd gone
piece_bad (Some whole) (Some left) (Some ahead) piece rest count found e h gone f =
    f whole ahead (subst (λ (t : List ℕ). IsReadSoFar whole t count found) (ap (λ t. rest ++ t) gone ∙ sym (append_assoc rest piece ahead)) h)

-- at the end what was kept is the last line
ended : (whole left rest : List ℕ) (count : ℕ) (found : List SwitchView) → left ≡ [] → IsReadSoFar whole (rest ++ left) count found → IsReadSoFar whole rest count found
ended whole left rest count found e h = subst (λ (t : List ℕ). IsReadSoFar whole t count found) (ap (λ t. rest ++ t) e ∙ append-nil rest) h

nothing_left : (left ahead piece : List ℕ) → left ≡ piece ++ ahead → piece ≡ [] → ahead ≡ [] → left ≡ []
nothing_left left ahead piece e p a = e ∙ rw (p, a) refl

all_good : (whole rest : List ℕ) (count : ℕ) (found : List SwitchView) (names : List (List ℕ)) (steps : List Step) → Lacks 10 rest → IsReadSoFar whole rest count found → is_bad_line rest ≡ false → map (step_view names) steps ≡ found ++ switches_in_line rest → IsRead whole names steps
all_good whole rest count found names steps lacks h good shown =
    let parts : split_lines whole ≡ h.done ++ rest ∷ [] = h.parts ∙ ap (λ ls. h.done ++ ls) (last_line rest lacks) in
    let none : list_any is_bad_line (h.done ++ rest ∷ []) ≡ false = list_any-append is_bad_line h.done (rest ∷ []) ∙ rw (h.good, good) refl in
    record {
      good = ap (λ ls. option_map (λ i. i + 1) (position is_bad_line ls)) parts ∙ ap (λ o. option_map (λ i. i + 1) o) (none_bad (h.done ++ rest ∷ []) none);
      shown = shown ∙ rw h.shown (ap (λ s. flat_map switches_in_line h.done ++ s) (sym (append-nil (switches_in_line rest))) ∙ sym (flat_map-append switches_in_line h.done (rest ∷ []))) ∙ ap (λ ls. flat_map switches_in_line ls) (sym parts);
    }

one_bad : (whole rest : List ℕ) (count : ℕ) (found : List SwitchView) → Lacks 10 rest → IsReadSoFar whole rest count found → is_bad_line rest ≡ true → first_bad whole ≡ Some (count + 1)
one_bad whole rest count found lacks h bad =
    let parts : split_lines whole ≡ h.done ++ rest ∷ [] = h.parts ∙ ap (λ ls. h.done ++ ls) (last_line rest lacks) in
    let within : length h.done < length (h.done ++ rest ∷ []) = omega (arith, length-append h.done (rest ∷ [])) in
    let place : position is_bad_line (h.done ++ rest ∷ []) ≡ Some (length h.done) = rw (first_at h.done [] rest h.good bad, lt-ltb _ _ within) refl in
    ap (λ ls. option_map (λ i. i + 1) (position is_bad_line ls)) parts ∙ ap (λ o. option_map (λ i. i + 1) o) place ∙ ap (λ (n : ℕ). Some (n + 1)) (sym h.counted)

pub end_good : (a b c : Option (List ℕ)) (piece rest : List ℕ) (count : ℕ) (found : List SwitchView) (names : List (List ℕ)) (steps : List Step) → AreDone a b rest count found → Consumes b c piece → piece ≡ [] → IsAtEnd c → Lacks 10 rest
    → is_bad_line rest ≡ false → map (step_view names) steps ≡ found ++ switches_in_line rest → IfSome a (λ text. IsRead text names steps)
end_good None b c piece rest count found names steps h gone none end lacks good shown = tt
end_good (Some whole) None c piece rest count found names steps h gone none end lacks good shown = absurd h
end_good (Some whole) (Some left) None piece rest count found names steps h gone none end lacks good shown = absurd gone
end_good (Some whole) (Some left) (Some ahead) piece rest count found names steps h gone none end lacks good shown =
    all_good whole rest count found names steps lacks (ended whole left rest count found (nothing_left left ahead piece gone none end) h) good shown

pub end_bad : (a b c : Option (List ℕ)) (piece rest : List ℕ) (count : ℕ) (found : List SwitchView) → AreDone a b rest count found → Consumes b c piece → piece ≡ [] → IsAtEnd c → Lacks 10 rest
    → is_bad_line rest ≡ true → IfSome a (λ text. first_bad text ≡ Some (count + 1))
end_bad None b c piece rest count found h gone none end lacks bad = tt
end_bad (Some whole) None c piece rest count found h gone none end lacks bad = absurd h
end_bad (Some whole) (Some left) None piece rest count found h gone none end lacks bad = absurd gone
end_bad (Some whole) (Some left) (Some ahead) piece rest count found h gone none end lacks bad =
    one_bad whole rest count found lacks (ended whole left rest count found (nothing_left left ahead piece gone none end) h) bad
