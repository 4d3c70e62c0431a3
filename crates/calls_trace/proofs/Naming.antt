-- Each admitted number keeps its name.
use Rattle.std.proofs.Common.{◌≡◌, ℕ, zero, suc, ◌<◌, ◌≤◌, true, false, cond, eqb, ◌||◌, List, length, refl, sym, ap, ◌∙◌, subst, eq-eqb, Result, Ok, Err}
use Rattle.std.specs.Prelude.{OnOk}
use Rattle.std.specs.List.{list_any}
use Rattle.std.proofs.lemmas.Bool.{eqb-true, eqb-false, ne_eqb}
use Rattle.attr_check.specs.ParamsView.{ParamsView}
use Rattle.task_script.specs.NameView.{IsName}
use Rattle.task_script.specs.script.ScriptView.{ScriptView}
use Rattle.domain_run.specs.declared.call.Call.TheVariants.{Admit}
use Rattle.domain_run.specs.declared.call.Reply.TheVariants.{Admitted}
use Rattle.domain_run.specs.Domain.{Domain}
use Rattle.domain_run.specs.Calls.{reply_to, after_call, after_granted}
use Rattle.domain_run.specs.Tick.{ticks}
use Rattle.domain_run.specs.Sound.{IsAdmitted}
use Rattle.domain_run.proofs.CallerLemmas.{with_number_contains}
use Rattle.switch_text.specs.Names.{Names, name_of_task}
use Rattle.calls_trace.specs.Replay.{with_name}
use Rattle.calls_trace.specs.private.Replaying.{AdmittedHaveNames}
use Rattle.calls_trace.specs.private.Recorded.{HaveNames}

-- ticks admit nobody
pub ticks_used : (k : ℕ) (d : Domain) → (ticks k d).used ≡ d.used
ticks_used zero d = refl
ticks_used (suc k) d = ticks_used k d

eqb-swap : (a b : ℕ) → eqb a b ≡ eqb b a
eqb-swap a b =
    elim (eqb a b) as (λ x. eqb a b ≡ x → x ≡ eqb b a) [
      | true ↦ λ e. sym (eq-eqb b a (sym (eqb-true a b e)))
      | false ↦ λ e. sym (ne_eqb b a (λ q. eqb-false a b e (sym q)))
    ] refl

-- what an Ok says, said otherwise
pub on_ok : {T E : Type 0} (r : Result T E) (P Q : Type 0) → (P → Q) → OnOk r P → OnOk r Q
on_ok (Ok x) P Q f h = f h
on_ok (Err e) P Q f h = tt

-- one name more
pub one_more_named : (used : List ℕ) (number : ℕ) (name : List ℕ) (names : ℕ → List ℕ) → IsName name → HaveNames used names → (n : ℕ) → (eqb number n || list_any (λ m. eqb m n) used) ≡ true → (0 < length (with_name names number name n)) × (length (with_name names number name n) ≤ 15)
one_more_named used number name names is old n h =
    elim (eqb n number) as (λ b. eqb n number ≡ b → (0 < length (cond b name (names n))) × (length (cond b name (names n)) ≤ 15)) [
      | true ↦ λ e. (is.some, is.most)
      | false ↦ λ e. old n (sym (ap (λ b. b || list_any (λ m. eqb m n) used) (eqb-swap number n ∙ e)) ∙ h)
    ] refl

pub named_step : (d : Domain) (was is : Names) (number : ℕ) (name : List ℕ) (params : ParamsView) (delay : ℕ) (script : ScriptView) → reply_to d (Admit number name params delay script) ≡ Admitted → AdmittedHaveNames d was → IsName name
    → ((n : ℕ) → name_of_task is n ≡ with_name (name_of_task was) number name n) → AdmittedHaveNames (after_call d (Admit number name params delay script)) is
named_step d was is number name params delay script reply old good each n h =
    let one : after_call d (Admit number name params delay script) ≡ after_granted d (Admit number name params delay script) = rw reply refl in
    let h2 : (eqb number n || list_any (λ m. eqb m n) d.used) ≡ true = sym (with_number_contains number n d.used) ∙ subst (λ (x : Domain). IsAdmitted x.used n) one h in
    let both = one_more_named d.used number name (name_of_task was) good (λ m there. let had = old m there in (had.some, had.most)) n h2 in
    record { some = rw (each n) both.0; most = rw (each n) both.1 }

-- the same names, and as many that were admitted
pub still_named : (d e : Domain) (was is : Names) → e ≡ d → ((n : ℕ) → name_of_task is n ≡ name_of_task was n) → AdmittedHaveNames d was → AdmittedHaveNames e is
still_named d e was is same gives each n there =
    let old = each n (subst (λ (x : Domain). IsAdmitted x.used n) same there) in
    record { some = rw (gives n) old.some; most = rw (gives n) old.most }
