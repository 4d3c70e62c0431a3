-- The answer that a task is never late says that all premises hold.
use Rattle.std.proofs.Common.{◌≡◌, ℕ, ◌+◌, ◌<◌, ◌≤◌, Bool, true, false, cond, ltb, Option, Some, None, List, length, get_or, refl, sym, ap, ◌∙◌, arith}
use Rattle.std.specs.Prelude.{All}
use Rattle.std.specs.List.{list_any}
use Rattle.std.proofs.lemmas.Bool.{false≢true, ltb-false}
use Rattle.std.proofs.lemmas.Option.{slice_get-get_or}
use Rattle.attr_check.specs.ParamsView.{ParamsView}
use Rattle.domain_run.specs.declared.task.Task.{Task}
use Rattle.domain_run.specs.Domain.{Domain}
use Rattle.domain_run.specs.Run.{run_of}
use Rattle.task_script.specs.script.ScriptView.{ScriptView}
use Rattle.deadline_promise.specs.declared.demand.Demand.{Demand}
use Rattle.deadline_promise.specs.declared.answer.Promise.{Promise}
use Rattle.deadline_promise.specs.declared.answer.Promise.TheVariants.{NeverLate, SeveralCpus, Reclaiming, ShortDeadline, FullLimit, OverBudget, NearReleases, MixedWaits}
use Rattle.deadline_promise.specs.KeptBudget.{BoundsWork, IsAtLeast, OfAllEvents, KeepsBudget}
use Rattle.deadline_promise.specs.Demand.{IsWorkMax, IsGapMin, IsDemand}
use Rattle.deadline_promise.specs.Answer.{is_over_budget, releases_near, promise_by_demand, promise_in, promise_if_listed, IsPromiseKept}
use Rattle.deadline_promise.specs.Promise.{MayPromise}
use Rattle.deadline_promise.proofs.Opening.{IsOpened, run_opened}
use Rattle.deadline_promise.proofs.Sums.{none_any}
use Rattle.deadline_promise.proofs.Listing.{found_there}
use Rattle.deadline_promise.proofs.Figuring.{never_late}
use Rattle.limits.specs.Limits.{unit}

-- ---- what the answer tested
record DomainAllows (d : Domain) : Type 0 where
  cpus : ltb 1 d.cpus ≡ false
  plain : list_any (λ (t : Task). t.params.reclaim) d.tasks ≡ false
  whole : list_any (λ (t : Task). ltb t.params.deadline t.params.period) d.tasks ≡ false
  fits : ltb unit (d.limit + length d.tasks) ≡ false

record ScriptAllows (p : ParamsView) (demand : Demand) : Type 0 where
  work : is_over_budget p.runtime demand.work_max ≡ false
  gaps : releases_near p.period demand.gap_min ≡ false
  alike : demand.alike ≡ true

script_tests : (a b c : Bool) → cond a OverBudget (cond b NearReleases (cond c NeverLate MixedWaits)) ≡ NeverLate → (a ≡ false) × (b ≡ false) × (c ≡ true)
script_tests true b c e = absurd cc
script_tests false true c e = absurd cc
script_tests false false true e = (refl, refl, refl)
script_tests false false false e = absurd cc

domain_tests : (a b c d : Bool) (p : Promise) → cond a SeveralCpus (cond b Reclaiming (cond c ShortDeadline (cond d FullLimit p))) ≡ NeverLate → (a ≡ false) × (b ≡ false) × (c ≡ false) × (d ≡ false) × (p ≡ NeverLate)
domain_tests true b c d p e = absurd cc
domain_tests false true c d p e = absurd cc
domain_tests false false true d p e = absurd cc
domain_tests false false false true p e = absurd cc
domain_tests false false false false p e = (refl, refl, refl, refl, e)

allowed : (d : Domain) (p : ParamsView) (demand : Demand) → promise_in d p demand ≡ NeverLate → DomainAllows d × ScriptAllows p demand
allowed d p demand e =
    let one = domain_tests (ltb 1 d.cpus) (list_any (λ (t : Task). t.params.reclaim) d.tasks) (list_any (λ (t : Task). ltb t.params.deadline t.params.period) d.tasks) (ltb unit (d.limit + length d.tasks)) (promise_by_demand p demand) e in
    let two = script_tests (is_over_budget p.runtime demand.work_max) (releases_near p.period demand.gap_min) demand.alike one.4 in
    (record { cpus = one.0; plain = one.1; whole = one.2; fits = one.3 }, record { work = two.0; gaps = two.1; alike = two.2 })

-- ---- of the script
work_kept : (s : ScriptView) (runtime : ℕ) (o : Option ℕ) → IsWorkMax s o → is_over_budget runtime o ≡ false → BoundsWork s runtime
work_kept s runtime None is e = absurd (false≢true (sym e))
work_kept s runtime (Some w) is e = (is runtime).0 (ltb-false runtime w e)

gaps_kept : (s : ScriptView) (period : ℕ) (o : Option ℕ) → IsGapMin s o → releases_near period o ≡ false → OfAllEvents (IsAtLeast period) s
gaps_kept s period None is e = is period
gaps_kept s period (Some g) is e = (is period).0 (ltb-false g period e)

budget_kept : (s : ScriptView) (p : ParamsView) (demand : Demand) → IsDemand s demand → ScriptAllows p demand → KeepsBudget p.runtime p.period s
budget_kept s p demand is allows = record {
  work = work_kept s p.runtime demand.work_max is.work allows.work;
  gaps = gaps_kept s p.period demand.gap_min is.gaps allows.gaps;
  alike = is.alike.0 allows.alike;
}

-- ---- of the domain
none_task : (p : Task → Bool) (xs : List Task) → list_any p xs ≡ false → All (λ x. p x ≡ false) xs
none_task p xs e = none_any p xs e

premises : (cpus limit : ℕ) (d : Domain) → 0 < cpus → IsOpened cpus limit d → DomainAllows d → (cpus ≡ 1) × All (λ (t : Task). t.params.deadline ≡ t.params.period) d.tasks × All (λ (t : Task). t.params.reclaim ≡ false) d.tasks × (limit + length d.tasks ≤ unit)
premises cpus limit d some is allows = (
  omega (arith, some, is.same_cpus, ltb-false 1 d.cpus allows.cpus),
  (λ k z h. let t = get_or d.tasks k z in
      omega (arith, (is.begun k z h).ordered.deadline_first, ltb-false t.params.deadline t.params.period (none_task (λ (u : Task). ltb u.params.deadline u.params.period) d.tasks allows.whole k z h))),
  none_task (λ (u : Task). u.params.reclaim) d.tasks allows.plain,
  omega (arith, is.same_limit, ltb-false unit (d.limit + length d.tasks) allows.fits),
)

pub promise_kept : IsPromiseKept
promise_kept cpus limit n calls demand some admissions k z within asks answer =
    let d = run_of cpus limit calls in
    let t = get_or d.tasks k z in
    let is = run_opened cpus limit calls admissions in
    let found = found_there d.tasks k t is.numbered (slice_get-get_or d.tasks k z within) in
    let answer_in : promise_in d t.params demand ≡ NeverLate = sym (ap (promise_if_listed d demand) found) ∙ answer in
    let allows = allowed d t.params demand answer_in in
    let hold = premises cpus limit d some is allows.0 in
    let may : MayPromise cpus limit calls = record { one = hold.0; admissions = admissions; whole_periods = hold.1; plain = hold.2; fits = hold.3 } in
    never_late cpus limit n calls may k z within (budget_kept t.cursor.script t.params demand asks allows.1)
