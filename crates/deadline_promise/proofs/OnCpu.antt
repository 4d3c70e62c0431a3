-- On one CPU runs a ready task, or nobody.
use Rattle.std.proofs.Common.{◌≡◌, ℕ, ◌<◌, true, ◌&&◌, eqb, List, length, get_or, refl, ap, sym, ◌∙◌, inl, inr, arith}
use Rattle.std.specs.Prelude.{All, Any, IsTrue}
use Rattle.std.specs.List.{list_any}
use Rattle.std.proofs.lemmas.Bool.{eqb-true, cases_lt}
use Rattle.std.proofs.lemmas.List.{get_or_default}
use Rattle.std.proofs.lemmas.List.Folds.{Any-from_list_any}
use Rattle.edf_pick.specs.declared.candidate.Candidate.{Candidate}
use Rattle.edf_pick.specs.Places.{Places, is_on_cpu, placed}
use Rattle.domain_run.specs.declared.task.Task.{Task}
use Rattle.domain_run.specs.Conditions.{is_ready}
use Rattle.domain_run.specs.Tick.{candidates}
use Rattle.domain_run.proofs.CallerLemmas.{AreNumbered}
use Rattle.deadline_promise.proofs.Choosing.{and_both, of_tasks, one_placed}

one_index : (tasks : List Task) (i j : ℕ) (t u : Task) → AreNumbered tasks → i < length tasks → j < length tasks → (get_or tasks i t).number ≡ (get_or tasks j t).number → i ≡ j
one_index tasks i j t u numbered h k e =
    elim (cases_lt i j) [
      | inl less ↦ absurd (numbered i j t less k e)
      | inr at_least ↦ elim (cases_lt j i) [
        | inl more ↦ absurd (numbered j i t more h (sym e))
        | inr at_most ↦ omega arith
      ]
    ]

ready_one : (ts : List Task) (i n : ℕ) (t : Task) → AreNumbered ts → i < length ts → (get_or ts i t).number ≡ n → Any (λ u. (is_ready u.condition && eqb u.number n) ≡ true) ts → IsTrue (is_ready (get_or ts i t).condition)
ready_one ts i n t numbered h e (j, u, within, same, test) =
    let facts = and_both (is_ready u.condition) (eqb u.number n) test in
    let there_is : get_or ts j t ≡ u = get_or_default ts j t u within ∙ same in
    let i_is : i ≡ j = one_index ts i j t u numbered h within (e ∙ sym (ap (λ (x : Task). x.number) there_is ∙ eqb-true u.number n facts.1)) in
    ap (λ (x : Task). is_ready x.condition) (ap (λ k. get_or ts k t) i_is ∙ there_is) ∙ facts.0

-- who is placed on one CPU is ready
pub running_ready : (ts : List Task) (before : Places) → length before ≡ 1 → AreNumbered ts → All (λ t. IsTrue (is_on_cpu t.number (placed 1 (candidates ts) before)) → IsTrue (is_ready t.condition)) ts
running_ready ts before wide numbered i x within h =
    let n = (get_or ts i x).number in
    let there : list_any (λ (c : Candidate). eqb c.number n) (candidates ts) ≡ true = (one_placed (candidates ts) before wide).1 n h in
    ready_one ts i n x numbered within refl
    (Any-from_list_any (λ u. is_ready u.condition && eqb u.number n) ts (sym (of_tasks (λ c. eqb c.number n) ts) ∙ there))
