-- The workload of a recording is read.
use Rattle.std.proofs.Common.{◌≡◌, ℕ, zero, suc, ◌+◌, ◌/◌, ◌%◌, ◌<◌, ◌≤◌, Bool, true, false, cond, eqb, List, [], ◌∷◌, ◌++◌, length, Option, Some, None, refl, sym, ap, ◌∙◌, arith, inl, inr, length-append}
use Rattle.std.specs.Prelude.{All, fold, nat_lt, unwrap_or, IfSome}
use Rattle.std.specs.Option.{option_or}
use Rattle.std.specs.List.{AllByRecursion, list_any}
use Rattle.std.proofs.lemmas.Bool.{cases_Bool, cases_lt, and_parts, leb-true, ne_eqb, eq-eqb, lt-ltb}
use Rattle.std.proofs.lemmas.List.Elements.{All-from_recursion, recursion_from_All}
use Rattle.std.proofs.lemmas.List.Sums.{sum_by_push}
use Rattle.std.proofs.Math.Nat.{eq-zero-or-pos}
use Rattle.domain_run.specs.declared.call.Call.{Call}
use Rattle.calls_text.specs.declared.section.Entry.{Entry}
use Rattle.calls_text.specs.SectionView.{SectionView}
use Rattle.calls_text.specs.OwnCalls.{IsNumberedAfter, count_made_by}
use Rattle.calls_text.specs.Limits.{IsCall, IsEntry, IsSection, AreRead}
use Rattle.recorded_jobs.specs.declared.moment.Moment.{Moment}
use Rattle.recorded_jobs.specs.declared.stretch.Stretch.{Stretch}
use Rattle.recorded_jobs.specs.declared.job.Release.{Release}
use Rattle.recorded_jobs.specs.Stretches.{all_stretches, stretches_of}
use Rattle.recorded_jobs.specs.Jobs.{stretches_cut, jobs_cut}
use Rattle.recorded_jobs.specs.Releases.{time_at_end, wakes_of, releases_after}
use Rattle.recorded_jobs.specs.CpusUsed.{with_new_cpu, cpus_run_on, cpus_used}
use Rattle.recorded_scripts.proofs.CallerLemmas.{script_within}
use Rattle.tasks_text.specs.declared.task.Task.{Task}
use Rattle.tasks_text.specs.Tasks.{IsTask, IsTaskList}
use Rattle.recorded_workload.specs.declared.shape.Shape.{Shape}
use Rattle.recorded_workload.specs.declared.fault.WorkloadFault.TheVariants.{LongSleep}
use Rattle.recorded_workload.specs.Workload.{all_jobs_from, jobs_of_all, earlier, earliest, time_zero, workload_ticks, admit_of, admits_from, full_advances, last_advance, advances, workload_entry, numbered_from, calls_by, workload_cpus, workload_of}
use Rattle.recorded_workload.specs.Refusals.{IsWorkloadShape, none_found, many_from, fits_script, long_from, cpus_refused, ticks_refused, refused_by, workload_refused}
use Rattle.recorded_workload.proofs.Numbered.{numbered_len}

-- ---- what is not refused

or_none : {X : Type 0} (a b : Option X) → option_or a b ≡ None → (a ≡ None) × (b ≡ None)
or_none None b e = (refl, e)
or_none (Some x) b e = absurd cc

unless_some : {X : Type 0} (b : Bool) (x : X) → cond b (Some x) None ≡ None → b ≡ false
unless_some true x e = absurd cc
unless_some false x e = refl

pub record IsGranted (jobs : List (List Release)) (cpus ticks : ℕ) : Type 0 where
  pub found : none_found (earliest jobs) ≡ None
  pub short : long_from (time_zero jobs) 0 jobs ≡ None
  pub few_cpus : cpus ≤ 64
  pub few_ticks : ticks ≤ 3900000000000

at_most : (n m : ℕ) → nat_lt n m ≡ false → m ≤ n
at_most n m e =
    elim (cases_lt n m) [
      | inl less ↦ absurd (let t = lt-ltb n m less in cc)
      | inr more ↦ more
    ]

pub granted : (jobs : List (List Release)) (cpus ticks : ℕ) → refused_by jobs cpus ticks ≡ None → IsGranted jobs cpus ticks
granted jobs cpus ticks e =
    let a = or_none (none_found (earliest jobs)) _ e in
    let b = or_none (many_from 0 jobs) _ a.1 in
    let c = or_none (long_from (time_zero jobs) 0 jobs) _ b.1 in
    let d = or_none (cpus_refused cpus) (ticks_refused ticks) c.1 in
    record {
      found = a.0;
      short = c.0;
      few_cpus = at_most 64 cpus (unless_some _ _ d.0);
      few_ticks = at_most 3900000000000 ticks (unless_some _ _ d.1);
    }

-- ---- CPUs

new_cpu_some : (cpus : List ℕ) (cpu : ℕ) → 0 < length (with_new_cpu cpus cpu)
new_cpu_some [] cpu = omega arith
new_cpu_some (c ∷ cpus) cpu =
    elim (cases_Bool (list_any (λ (o : ℕ). eqb cpu o) (c ∷ cpus))) [
      | inl old ↦ rw old (omega arith)
      | inr new ↦ rw new (omega arith)
    ]

cpus_stay : (cpus : List ℕ) (ss : List Stretch) → 0 < length cpus → 0 < length (fold (λ (cs : List ℕ) (s : Stretch). with_new_cpu cs s.cpu) cpus ss)
cpus_stay cpus [] some = some
cpus_stay cpus (s ∷ ss) some = cpus_stay (with_new_cpu cpus s.cpu) ss (new_cpu_some cpus s.cpu)

cpus_some : (ss : List Stretch) → 0 < length ss → 0 < length (cpus_run_on ss)
cpus_some [] some = absurd (omega (arith, some))
cpus_some (s ∷ ss) some = cpus_stay (with_new_cpu [] s.cpu) ss (new_cpu_some [] s.cpu)

-- without a stretch no task has a job
none_by : (task : ℕ) (wakes : List ℕ) (ss : List Stretch) → ss ≡ [] → releases_after 0 wakes (jobs_cut (stretches_of task ss)) ≡ []
unfolding releases_after stretches_cut
none_by task wakes [] e = refl
none_by task wakes (s ∷ ss) e = absurd cc

none_earliest : (moments : List Moment) (n : ℕ) (tasks : List Task) → all_stretches (time_at_end moments) moments ≡ [] → fold earlier None (all_jobs_from moments n tasks) ≡ None
unfolding all_jobs_from
none_earliest moments n [] e = refl
none_earliest moments n (t ∷ tasks) e =
    rw (none_by n (wakes_of n moments) (all_stretches (time_at_end moments) moments) e) (none_earliest moments (n + 1) tasks e)

some_stretch : (ss : List Stretch) → (ss ≡ [] → ⊥) → 0 < length ss
some_stretch [] h = absurd (h refl)
some_stretch (s ∷ ss) h = omega arith

not_none : (o : Option ℕ) → none_found o ≡ None → o ≡ None → ⊥
not_none None e f = absurd cc
not_none (Some t) e f = absurd cc

used_some : (moments : List Moment) (tasks : List Task) → none_found (earliest (jobs_of_all moments tasks)) ≡ None → 0 < cpus_used moments
used_some moments tasks e =
    cpus_some (all_stretches (time_at_end moments) moments) (some_stretch (all_stretches (time_at_end moments) moments) (λ none. not_none (earliest (jobs_of_all moments tasks)) e (none_earliest moments 0 tasks none)))

some_by : (own : Option ℕ) (used : ℕ) → IfSome own (λ cpus. 0 < cpus) → 0 < used → 0 < unwrap_or own used
some_by None used own some = some
some_by (Some n) used own some = own

-- ---- calls

abbrev Legal : List Call → Type 0
Legal calls = AllByRecursion IsCall calls

both_legal : (a b : List Call) → Legal a → Legal b → Legal (a ++ b)
both_legal [] b ha hb = hb
both_legal (c ∷ a) b ha hb = (ha.0, both_legal a b ha.1 hb)

fits_by : (good : Bool) (start n : ℕ) (jobs : List (List Release)) → cond good (long_from start (n + 1) jobs) (Some (LongSleep n)) ≡ None → (good ≡ true) × (long_from start (n + 1) jobs ≡ None)
fits_by true start n jobs e = (refl, e)
fits_by false start n jobs e = absurd cc

fits_parts : (start n : ℕ) (js : List Release) (jobs : List (List Release)) → long_from start n (js ∷ jobs) ≡ None → (fits_script start js ≡ true) × (long_from start (n + 1) jobs ≡ None)
unfolding long_from
fits_parts start n js jobs e = fits_by (fits_script start js) start n jobs e

admit_legal : (start n : ℕ) (t : Task) (js : List Release) → IsTask t → n < 256 → fits_script start js ≡ true → Legal (admit_of start n t js)
admit_legal start n t [] is few short = tt
admit_legal start n t (r ∷ rs) is few short =
    let p = and_parts _ _ short in (
      record {
        numbered = (omega arith, omega (arith, few));
        named = is.named;
        checked = is.checked;
        soon = leb-true _ _ p.0;
        scripted = script_within (r ∷ rs) (omega arith) p.1;
      },
      tt,
    )

admits_legal : (start n : ℕ) (tasks : List Task) (jobs : List (List Release)) → AllByRecursion IsTask tasks → n + length tasks ≤ 256 → long_from start n jobs ≡ None → Legal (admits_from start n tasks jobs)
unfolding admits_from
admits_legal start n [] jobs each few short = tt
admits_legal start n (t ∷ tasks) [] each few short = tt
admits_legal start n (t ∷ tasks) (js ∷ jobs) each few short =
    let p = fits_parts start n js jobs short in
    both_legal (admit_of start n t js) (admits_from start (n + 1) tasks jobs) (admit_legal start n t js each.0 (omega (arith, few)) p.0) (admits_legal start (n + 1) tasks jobs each.1 (omega (arith, few)) p.1)

admit_one : (start n : ℕ) (t : Task) (js : List Release) → length (admit_of start n t js) ≤ 1
admit_one start n t [] = omega arith
admit_one start n t (r ∷ rs) = omega arith

admits_few : (start n : ℕ) (tasks : List Task) (jobs : List (List Release)) → length (admits_from start n tasks jobs) ≤ length tasks
unfolding admits_from
admits_few start n [] jobs = omega arith
admits_few start n (t ∷ tasks) [] = omega arith
admits_few start n (t ∷ tasks) (js ∷ jobs) =
    let a = admit_one start n t js in
    let b = admits_few start (n + 1) tasks jobs in
    omega (arith, a, b, length-append (admit_of start n t js) (admits_from start (n + 1) tasks jobs))

full_legal : (n : ℕ) → Legal (full_advances n)
unfolding full_advances
full_legal zero = tt
full_legal (suc n) = ((omega arith, omega arith), full_legal n)

full_len : (n : ℕ) → length (full_advances n) ≡ n
unfolding full_advances
full_len zero = refl
full_len (suc n) = ap suc (full_len n)

last_legal : (n : ℕ) → n < 60000000 → Legal (last_advance n)
last_legal n l =
    elim (eq-zero-or-pos n) [
      | inl none ↦ rw (eq-eqb n 0 none) tt
      | inr some ↦ rw (ne_eqb n 0 (λ e. omega (arith, e, some))) ((some, omega (arith, l)), tt)
    ]

last_len : (n : ℕ) → length (last_advance n) ≤ 1
last_len n =
    elim (eq-zero-or-pos n) [
      | inl none ↦ rw (eq-eqb n 0 none) (omega arith)
      | inr some ↦ rw (ne_eqb n 0 (λ e. omega (arith, e, some))) (omega arith)
    ]

advances_legal : (ticks : ℕ) → Legal (advances ticks)
advances_legal ticks = both_legal (full_advances (ticks / 60000000)) (last_advance (ticks % 60000000)) (full_legal (ticks / 60000000)) (last_legal (ticks % 60000000) (omega arith))

advances_few : (ticks : ℕ) → ticks ≤ 3900000000000 → length (advances ticks) ≤ 65001
advances_few ticks few =
    let whole : ticks / 60000000 ≤ 65000 = omega (arith, few) in
    omega (arith, whole, full_len (ticks / 60000000), last_len (ticks % 60000000), length-append (full_advances (ticks / 60000000)) (last_advance (ticks % 60000000)))

-- ---- entries

entries_legal : (n : ℕ) (calls : List Call) → Legal calls → AllByRecursion IsEntry (numbered_from n calls)
unfolding numbered_from
entries_legal n [] h = tt
entries_legal n (c ∷ calls) h = (record { client = (omega arith, omega arith); call = h.0 }, entries_legal (n + 1) calls h.1)

no_replies_in : (n : ℕ) (calls : List Call) → AllByRecursion (λ (e : Entry). e.reply ≡ None) (numbered_from n calls)
unfolding numbered_from
no_replies_in n [] = tt
no_replies_in n (c ∷ calls) = (refl, no_replies_in (n + 1) calls)

count_more : (before : List Entry) (n : ℕ) (c : Call) → count_made_by 1 before ≡ n → count_made_by 1 (before ++ workload_entry n c ∷ []) ≡ n + 1
count_more before n c e = sum_by_push (λ (x : Entry). cond (eqb x.client 1) 1 0) before (workload_entry n c) ∙ ap (λ (k : ℕ). k + 1) e

numbers_right : (before : List Entry) (n : ℕ) (calls : List Call) → count_made_by 1 before ≡ n → IsNumberedAfter before (numbered_from n calls)
unfolding numbered_from
numbers_right before n [] e = tt
numbers_right before n (c ∷ calls) e = (sym e, numbers_right (before ++ workload_entry n c ∷ []) (n + 1) calls (count_more before n c e))

-- ---- the section

pub workload_read : (moments : List Moment) (tasks : List Task) (shape : Shape) → IsTaskList tasks → IsWorkloadShape shape → workload_refused moments tasks shape ≡ None → AreRead (workload_of moments tasks shape ∷ [])
workload_read moments tasks shape are is none =
    let jobs = jobs_of_all moments tasks in
    let ticks = workload_ticks moments jobs in
    let calls = calls_by moments tasks jobs in
    let g = granted jobs (workload_cpus moments shape) ticks none in
    let legal : Legal calls = both_legal (admits_from (time_zero jobs) 0 tasks jobs) (advances ticks) (admits_legal (time_zero jobs) 0 tasks jobs (recursion_from_All IsTask tasks are.each) (omega (arith, are.most)) g.short) (advances_legal ticks) in
    let few : length (numbered_from 0 calls) ≤ 65536 = omega (arith, numbered_len 0 calls, length-append (admits_from (time_zero jobs) 0 tasks jobs) (advances ticks), admits_few (time_zero jobs) 0 tasks jobs, advances_few ticks g.few_ticks, are.most) in
    record {
      within = record {
        some = omega arith;
        most = omega arith;
        each = All-from_recursion IsSection (workload_of moments tasks shape ∷ []) (
          record {
            some_cpus = some_by shape.cpus (cpus_used moments) is.some_cpus (used_some moments tasks g.found);
            most_cpus = g.few_cpus;
            least_limit = is.least_limit;
            most_limit = is.most_limit;
            most_entries = few;
            entries = All-from_recursion IsEntry (numbered_from 0 calls) (entries_legal 0 calls legal);
            numbered = numbers_right [] 0 calls refl;
          },
          tt,
        );
      };
      no_replies = All-from_recursion (λ (s : SectionView). All (λ (e : Entry). e.reply ≡ None) s.entries) (workload_of moments tasks shape ∷ []) (All-from_recursion (λ (e : Entry). e.reply ≡ None) (numbered_from 0 calls) (no_replies_in 0 calls), tt);
    }
