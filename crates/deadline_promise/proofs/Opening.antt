-- A domain in which tasks were admitted, and nothing else has happened.
use Rattle.std.proofs.Common.{◌≡◌, ℕ, ◌+◌, ◌≤◌, Bool, true, false, cond, eqb, ltb, leb, ◌||◌, None, List, [], ◌∷◌, ◌++◌, length, get_or, replicate, refl, sym, ap, ◌∙◌, subst, arith, eq-eqb}
use Rattle.std.specs.Prelude.{All, ◌≢◌, pos}
use Rattle.std.specs.List.{list_any}
use Rattle.std.proofs.lemmas.Bool.{false≢true}
use Rattle.std.proofs.lemmas.List.Elements.{All-nil, All-push, All-weaker, All-head, All-tail}
use Rattle.std.proofs.lemmas.List.Quantifiers.{all_pairs_push}
use Rattle.attr_check.specs.ParamsView.{ParamsView, IsOrdered}
use Rattle.attr_check.specs.Ratio.{cap}
use Rattle.task_script.specs.script.ScriptView.{ScriptView, IsScript}
use Rattle.domain_run.specs.declared.task.Task.{Task}
use Rattle.domain_run.specs.declared.task.Condition.TheVariants.{Blocked}
use Rattle.domain_run.specs.declared.happened.Happened.{Happened}
use Rattle.domain_run.specs.declared.call.Call.{Call}
use Rattle.domain_run.specs.declared.call.Call.TheVariants.{Admit, Regrade, Wake, Leave, Advance, Limit, Depart, Arrive}
use Rattle.domain_run.specs.declared.call.Reply.TheVariants.{Admitted, Full, Twice, Busy}
use Rattle.domain_run.specs.Domain.{Domain, empty_domain}
use Rattle.domain_run.specs.Tick.{sum_of}
use Rattle.domain_run.specs.Calls.{admit_reply, new_task, with_number, with_task_listed, is_refusal, after_call}
use Rattle.domain_run.specs.Run.{after_calls, run_of}
use Rattle.domain_run.specs.Sound.{IsAdmitted}
use Rattle.domain_run.specs.Happened.{logged_by_ticks, logged_by_call, logged_by_calls}
use Rattle.domain_run.proofs.CallerLemmas.{AreNumbered, IsGranted, granted_is, with_number_contains, sum_push}
use Rattle.deadline_promise.specs.Promise.{IsSoundAdmission, logged_of_run}

-- a task as it is admitted: blocked until its start, without a deadline and with nothing left
pub record IsBegun (t : Task) : Type 0 where
  pub ordered : IsOrdered t.params
  pub script : IsScript t.cursor.script
  pub bare : t.server ≡ record { deadline = None; left = pos 0 }
  pub start : ℕ
  pub blocked : t.condition ≡ Blocked start
  pub reference : t.cursor.reference ≡ start

pub record IsOpened (cpus limit : ℕ) (d : Domain) : Type 0 where
  pub same_cpus : d.cpus ≡ cpus
  pub same_limit : d.limit ≡ limit
  pub early : d.time ≡ 0
  pub idle : d.curr ≡ replicate cpus None
  pub within : sum_of d.tasks ≤ cap cpus limit
  pub numbered : AreNumbered d.tasks
  pub known : All (λ t. IsAdmitted d.used t.number) d.tasks
  pub begun : All IsBegun d.tasks

or_right : (a b : Bool) → b ≡ true → (a || b) ≡ true
or_right true b e = refl
or_right false b e = e

or_left : (a b : Bool) → a ≡ true → (a || b) ≡ true
or_left a b e = ap (λ x. x || b) e

other_number : (used : List ℕ) (number n : ℕ) → list_any (λ m. eqb m number) used ≡ false → IsAdmitted used n → n ≢ number
other_number used number n fresh is e = absurd (false≢true (sym fresh ∙ ap (λ k. list_any (λ m. eqb m k) used) (sym e) ∙ is))

listed_opened : (cpus limit : ℕ) (d : Domain) (number : ℕ) (name : List ℕ) (params : ParamsView) (delay : ℕ) (script : ScriptView) → IsOrdered params → IsScript script → IsGranted d number params → IsOpened cpus limit d
    → IsOpened cpus limit (with_task_listed d (new_task d number name params delay script))
listed_opened cpus limit d number name params delay script ordered is_script granted is =
    let t = new_task d number name params delay script in
    let fits : sum_of d.tasks + params.bw ≤ cap cpus limit =
    subst (λ n. sum_of d.tasks + params.bw ≤ n) (ap (λ n. cap n d.limit) is.same_cpus ∙ ap (λ n. cap cpus n) is.same_limit) granted.fits in
    record {
      same_cpus = is.same_cpus;
      same_limit = is.same_limit;
      early = is.early;
      idle = is.idle;
      within = subst (λ n. n ≤ cap cpus limit) (sym (sum_push d.tasks t)) fits;
      numbered = all_pairs_push (λ a b. a.number ≢ b.number) d.tasks t is.numbered (λ k x h. other_number d.used number (get_or d.tasks k x).number granted.fresh (is.known k x h));
      known = All-push (λ u. IsAdmitted (with_number number d.used) u.number) d.tasks t
          (All-weaker (λ u. IsAdmitted d.used u.number) (λ u. IsAdmitted (with_number number d.used) u.number)
          (λ u h. with_number_contains number u.number d.used ∙ or_right (eqb number u.number) (list_any (λ n. eqb n u.number) d.used) h) d.tasks is.known)
          (with_number_contains number number d.used ∙ or_left (eqb number number) (list_any (λ n. eqb n number) d.used) (eq-eqb number number refl));
      begun = All-push IsBegun d.tasks t is.begun (record { ordered = ordered; script = is_script; bare = refl; start = d.time + delay; blocked = refl; reference = refl });
    }

admitted_by : (a b c : Bool) (s : ℕ) → is_refusal (cond a Full (cond b Twice (cond c (Busy s) Admitted))) ≡ false → cond a Full (cond b Twice (cond c (Busy s) Admitted)) ≡ Admitted
admitted_by true b c s e = absurd (false≢true (sym e))
admitted_by false true c s e = absurd (false≢true (sym e))
admitted_by false false true s e = absurd (false≢true (sym e))
admitted_by false false false s e = refl

abbrev OpenedAfter : ℕ → ℕ → Domain → Call → Type 0
OpenedAfter cpus limit d c = IsOpened cpus limit (after_call d c)

call_opened : (cpus limit : ℕ) (d : Domain) (c : Call) → IsSoundAdmission c → IsOpened cpus limit d → OpenedAfter cpus limit d c
call_opened cpus limit d (Admit number name params delay script) (ordered, is_script) is =
    let e = with_task_listed d (new_task d number name params delay script) in
    elim (is_refusal (admit_reply d number params)) as (λ b. is_refusal (admit_reply d number params) ≡ b → IsOpened cpus limit (cond b d e)) [
      | true ↦ λ r. is
      | false ↦ λ r.
          let granted = admitted_by (leb 256 (length d.tasks)) (list_any (λ n. eqb n number) d.used) (ltb (cap d.cpus d.limit) (sum_of d.tasks + params.bw)) (sum_of d.tasks) r in
          listed_opened cpus limit d number name params delay script ordered is_script (granted_is d number params granted) is
    ] refl
call_opened cpus limit d (Regrade number params word) h is = absurd h
call_opened cpus limit d (Wake number) h is = absurd h
call_opened cpus limit d (Leave number) h is = absurd h
call_opened cpus limit d (Advance n) h is = absurd h
call_opened cpus limit d (Limit limit_to word) h is = absurd h
call_opened cpus limit d (Depart number) h is = absurd h
call_opened cpus limit d (Arrive number name params script) h is = absurd h

calls_opened : (cpus limit : ℕ) (d : Domain) (calls : List Call) → All IsSoundAdmission calls → IsOpened cpus limit d → IsOpened cpus limit (after_calls d calls)
calls_opened cpus limit d [] are is = is
calls_opened cpus limit d (c ∷ calls) are is =
    calls_opened cpus limit (after_call d c) calls (All-tail IsSoundAdmission c calls are) (call_opened cpus limit d c (All-head IsSoundAdmission c calls are) is)

pub run_opened : (cpus limit : ℕ) (calls : List Call) → All IsSoundAdmission calls → IsOpened cpus limit (run_of cpus limit calls)
run_opened cpus limit calls are =
    calls_opened cpus limit (empty_domain cpus limit) calls are
    (record {
      same_cpus = refl;
      same_limit = refl;
      early = refl;
      idle = refl;
      within = omega arith;
      numbered = λ i j d less h. absurd (omega (arith, h));
      known = All-nil (λ (t : Task). IsAdmitted [] t.number);
      begun = All-nil IsBegun;
    })

-- ---- what is logged: an admission logs nothing

append_none : {X : Type 0} (xs : List X) → xs ++ [] ≡ xs
append_none [] = refl
append_none (x ∷ xs) = ap (λ ys. x ∷ ys) (append_none xs)

none_logged : (d : Domain) (c : Call) → IsSoundAdmission c → logged_by_call d c ≡ []
none_logged d (Admit number name params delay script) h =
    elim (is_refusal (admit_reply d number params)) as (λ b. cond {A = List Happened} b [] [] ≡ []) [ true ↦ refl | false ↦ refl ]
none_logged d (Regrade number params word) h = absurd h
none_logged d (Wake number) h = absurd h
none_logged d (Leave number) h = absurd h
none_logged d (Advance n) h = absurd h
none_logged d (Limit limit_to word) h = absurd h
none_logged d (Depart number) h = absurd h
none_logged d (Arrive number name params script) h = absurd h

calls_logged : (d : Domain) (n : ℕ) (calls : List Call) → All IsSoundAdmission calls → logged_by_calls d (calls ++ Advance n ∷ []) ≡ logged_by_ticks n (after_calls d calls)
calls_logged d n [] are = append_none (logged_by_ticks n d)
calls_logged d n (c ∷ calls) are =
    ap (λ hs. hs ++ logged_by_calls (after_call d c) (calls ++ Advance n ∷ [])) (none_logged d c (All-head IsSoundAdmission c calls are))
    ∙ calls_logged (after_call d c) n calls (All-tail IsSoundAdmission c calls are)

pub run_logged : (cpus limit n : ℕ) (calls : List Call) → All IsSoundAdmission calls → logged_of_run cpus limit calls n ≡ logged_by_ticks n (run_of cpus limit calls)
run_logged cpus limit n calls are = calls_logged (empty_domain cpus limit) n calls are
