-- A task that a queue has, and one that it has not.
use Rattle.std.proofs.Common.{◌≡◌, ◌≢◌, true, false, List, get_or, sym, ◌∙◌, inl, inr}
use Rattle.std.specs.Prelude.{All}
use Rattle.std.proofs.lemmas.Bool.{cases_Bool}
use Rattle.std.proofs.lemmas.List.Elements.{All-weaker}
use Rattle.std.proofs.lemmas.List.Folds.{list_any_none}
use Rattle.edf_pick.specs.declared.candidate.Candidate.{Candidate}
use Rattle.edf_pick.specs.Order.{IsRising, is_same, has_candidate}
use Rattle.edf_pick.proofs.Before.{number_differs}
use Rattle.edf_pick.proofs.Rising.{place, absent_place}

-- ONE MORE
pub absent_number : (c : Candidate) (queue : List Candidate) → All (λ a. a.number ≢ c.number) queue → has_candidate c queue ≡ false
absent_number c queue others =
    list_any_none (λ a. is_same a c) queue (All-weaker (λ a. a.number ≢ c.number) (λ a. is_same a c ≡ false) (λ a h. number_differs a c h) queue others)

-- ONE LESS
pub there_same : (c : Candidate) (queue : List Candidate) (d : Candidate) → IsRising queue → has_candidate c queue ≡ true → is_same (get_or queue (place c queue) d) c ≡ true
there_same c queue d rising there =
    elim (cases_Bool (is_same (get_or queue (place c queue) d) c)) [
      | inl same ↦ same
      | inr other ↦ absurd (let clash : true ≡ false = sym there ∙ absent_place c queue d rising (λ _. other) in cc)
    ]
