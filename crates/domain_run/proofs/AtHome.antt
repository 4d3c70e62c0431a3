-- The task that runs on a CPU belongs to it, whatever else happens to it.
use Rattle.std.proofs.Common.{◌≡◌, ℕ, Bool, true, false, cond, eqb, Option, Some, None, List, get_or, map, refl, sym, ap, subst, ◌∙◌}
use Rattle.std.specs.Prelude.{position}
use Rattle.std.specs.List.{list_any}
use Rattle.std.proofs.lemmas.Bool.{both_ways}
use Rattle.std.proofs.lemmas.List.Elements.{All-map}
use Rattle.std.proofs.lemmas.List.Folds.{Any-from_list_any}
use Rattle.edf_pick.specs.Places.{Places, is_task, is_on_cpu}
use Rattle.domain_run.specs.declared.task.Task.{Task}
use Rattle.domain_run.specs.Parts.{with_cpu, with_last_cpu}
use Rattle.domain_run.specs.Sound.{occupant, HasNoTaskTwice}
use Rattle.domain_run.specs.private.Index.{IsListedAt}
use Rattle.domain_run.specs.private.RunQueue.{AreHomed}
use Rattle.domain_run.proofs.Placing.{homed_nowhere, homed_number, position_at, found_at, runs_at, task_there}
use Rattle.domain_run.proofs.Tracing.{AreRunning}

-- part 4
twice : (o : Option ℕ) (t : Task) → with_cpu o (with_cpu o t) ≡ with_cpu o t
twice None t = refl
twice (Some cpu) t = refl

pub homed_placed : (places : Places) (tasks : List Task) → AreHomed places (map (with_last_cpu places) tasks)
homed_placed places tasks = All-map (λ t. with_last_cpu places t ≡ t) (with_last_cpu places) tasks (λ k d h.
    let t = get_or tasks k d in
    let o = position (is_task t.number) places in
    ap (λ n. with_cpu (position (is_task n) places) (with_last_cpu places t)) (homed_number o t) ∙ twice o t)

-- a task that runs nowhere
pub homed_stranger : (places : Places) (used : List ℕ) (t : Task) → AreRunning used places → list_any (λ n. eqb n t.number) used ≡ false → with_last_cpu places t ≡ t
homed_stranger places used t all fresh = homed_nowhere places t (not_there (is_on_cpu t.number places) refl)
  where
    not_there : (b : Bool) → is_on_cpu t.number places ≡ b → b ≡ false
    not_there true e =
        let at = runs_at t.number places (Any-from_list_any (is_task t.number) places e) in
        let no : true ≡ false = sym (all at.0 t.number at.1) ∙ fresh in absurd cc
    not_there false e = refl

-- a listed task runs on the CPU to which it belongs, or on none
pub position_of : (places : Places) (t : Task) (n : ℕ) → HasNoTaskTwice places → t.number ≡ n → with_last_cpu places t ≡ t → position (is_task n) places ≡ cond (is_task n (occupant places t.cpu)) (Some t.cpu) None
position_of places t n apart number homed = by_on_cpu (is_task n (occupant places t.cpu)) refl
  where
    by_position : (o : Option ℕ) → position (is_task n) places ≡ o → is_task n (occupant places t.cpu) ≡ false → position (is_task n) places ≡ None
    by_position None e none = e
    by_position (Some cpu) e none =
        let there : with_cpu (Some cpu) t ≡ t = ap (λ o. with_cpu o t) (sym (ap (λ (m : ℕ). position (is_task m) places) number ∙ e)) ∙ homed in
        let same : cpu ≡ t.cpu = ap (λ (x : Task). x.cpu) there in
        absurd (both_ways (is_task n (occupant places t.cpu)) none (subst (λ (k : ℕ). is_task n (occupant places k) ≡ true) same (found_at n places cpu e)))

    by_on_cpu : (b : Bool) → is_task n (occupant places t.cpu) ≡ b → position (is_task n) places ≡ cond b (Some t.cpu) None
    by_on_cpu true is = position_at places t.cpu n apart (task_there n (occupant places t.cpu) is)
    by_on_cpu false is = by_position (position (is_task n) places) refl is

pub listed_at : (places : Places) (tasks : List Task) (n p : ℕ) (t : Task) → HasNoTaskTwice places → AreHomed places tasks → IsListedAt tasks n p → ((d : Task) → t ≡ get_or tasks p d) → position (is_task n) places ≡ cond (is_task n (occupant places t.cpu)) (Some t.cpu) None
listed_at places tasks n p t apart homed at is =
    position_of places t n apart (ap (λ (u : Task). u.number) (is t) ∙ at.is t) (subst (λ (u : Task). with_last_cpu places u ≡ u) (sym (is t)) (homed p t at.within))
