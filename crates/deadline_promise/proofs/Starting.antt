-- What is admitted before the first tick.
use Rattle.std.proofs.Common.{◌≡◌, ℕ, ◌+◌, ◌-◌, ◌*◌, ◌/◌, ◌≤◌, ◌<◌, false, Option, None, List, [], ◌∷◌, length, replicate, get_or, refl, ap, sym, ◌∙◌, subst, arith}
use Rattle.std.specs.Prelude.{All, IsTrue, sum_by}
use Rattle.std.proofs.lemmas.Bool.{false≢true}
use Rattle.std.proofs.lemmas.List.Elements.{All-head, All-tail, All-weaker}
use Rattle.std.proofs.lemmas.List.Sums.{sum_by-cons}
use Rattle.std.proofs.Math.Nat.{mul-le-mul_right}
use Rattle.attr_check.specs.Ratio.{cap}
use Rattle.attr_check.specs.ParamsView.{ParamsView, IsOrdered}
use Rattle.cbs_rules.specs.declared.server.Server.{Server}
use Rattle.grub_rules.specs.declared.share.Share.{Share}
use Rattle.domain_run.specs.declared.task.Task.{Task}
use Rattle.domain_run.specs.declared.task.Condition.{Condition}
use Rattle.domain_run.specs.declared.task.Condition.TheVariants.{Ready, Throttled, Blocked, Waiting, Leaving}
use Rattle.domain_run.specs.Conditions.{is_ready, is_throttled, is_contending}
use Rattle.domain_run.specs.Tick.{share_of, shares, sum_of, ticks}
use Rattle.domain_run.specs.Run.{run_of}
use Rattle.domain_run.specs.declared.call.Call.{Call}
use Rattle.domain_run.proofs.CallerLemmas.{ticks_time}
use Rattle.deadline_promise.specs.Promise.{due_left, MayPromise, IsNeverCrowded, AlwaysHasRoom}
use Rattle.deadline_promise.specs.Reach.{share_up, reach}
use Rattle.deadline_promise.proofs.Kept.{IsShare, IsWhole, IsPaced, IsFit, IsCalm}
use Rattle.deadline_promise.proofs.Opening.{IsBegun, run_opened}
use Rattle.deadline_promise.proofs.Ticking.{ticks_calm}
use Rattle.deadline_promise.proofs.Owed.{demand}
use Rattle.deadline_promise.proofs.Parts.{resting_reach}
use Rattle.deadline_promise.proofs.Sums.{sum_shares}
use Rattle.limits.specs.Limits.{unit}

over : (m b : ℕ) → 0 < b → m < (m / b + 1) * b
over m b some = omega (arith, some)

pub share_is : (p : ParamsView) → IsOrdered p → p.deadline ≡ p.period → p.reclaim ≡ false → IsShare p
share_is p is same plain =
    let some : 0 < p.period = omega (arith, is.some_runtime, is.runtime_first, is.deadline_first) in
    let e : (p.bw + 1) * p.period ≡ (p.runtime * unit / p.period + 1) * p.period = ap (λ n. (n + 1) * p.period) is.share in
    record {
      some = some;
      some_budget = omega (arith, is.some_runtime);
      covers = omega (arith, e, over (p.runtime * unit) p.period some);
      whole_period = same;
      plain = plain;
    }

ready_contends : (c : Condition) → is_contending c ≡ false → IsTrue (is_ready c) → IsTrue (is_contending c)
ready_contends Ready e h = h
ready_contends Throttled e h = absurd (false≢true h)
ready_contends (Blocked u) e h = h
ready_contends Waiting e h = h
ready_contends Leaving e h = h

throttled_contends : (c : Condition) → IsTrue (is_throttled c) → IsTrue (is_contending c)
throttled_contends Ready h = absurd (false≢true h)
throttled_contends Throttled h = h
throttled_contends (Blocked u) h = h
throttled_contends Waiting h = h
throttled_contends Leaving h = h

begun_apart : (t : Task) → IsBegun t → is_contending t.condition ≡ false
begun_apart t h = ap is_contending h.blocked

begun_paced : (t : Task) → IsBegun t → t.params.deadline ≡ t.params.period → t.params.reclaim ≡ false → IsPaced t
begun_paced t h whole plain = record {
  share = share_is t.params h.ordered whole plain;
  whole = subst (λ (s : Server). IsWhole t.params s.left) (sym h.bare) (0, refl, omega arith);
  dated = λ y. absurd (false≢true (sym (begun_apart t h) ∙ y));
}

begun_fit : (t : Task) → IsBegun t → IsFit t
begun_fit t h =
    let apart = begun_apart t h in
    record {
      lifted = λ y. absurd (false≢true (sym apart ∙ ready_contends t.condition apart y));
      spent = λ y. absurd (false≢true (sym apart ∙ throttled_contends t.condition y));
    }

sum_all : {X : Type 0} (f h : X → ℕ) (xs : List X) → All (λ t. f t ≤ h t) xs → sum_by f xs ≤ sum_by h xs
sum_all f h [] all = omega arith
sum_all f h (x ∷ xs) all =
    omega (arith, sum_by-cons f x xs, sum_by-cons h x xs, All-head (λ t. f t ≤ h t) x xs all, sum_all f h xs (All-tail (λ t. f t ≤ h t) x xs all))

shares_are : (ts : List Task) → sum_by (λ (t : Task). share_up t.params) ts ≡ sum_of ts + length ts
shares_are [] = refl
shares_are (t ∷ ts) =
    omega (arith, sum_by-cons (λ (u : Task). share_up u.params) t ts, sum_by-cons (λ (s : Share). s.bw) (share_of t) (shares ts), shares_are ts)

-- what the premises give, at the beginning
pub run_calm : (cpus limit : ℕ) (calls : List Call) → MayPromise cpus limit calls → IsCalm (run_of cpus limit calls)
run_calm cpus limit calls may =
    let d = run_of cpus limit calls in
    let is = run_opened cpus limit calls may.admissions in
    let paced : All IsPaced d.tasks = λ k z h. begun_paced (get_or d.tasks k z) (is.begun k z h) (may.whole_periods k z h) (may.plain k z h) in
    let within : sum_of d.tasks ≤ limit = omega (arith, is.within, ap (λ n. cap n limit) may.one) in
    let all : sum_by (λ (t : Task). share_up t.params) d.tasks ≤ unit = omega (arith, within, may.fits, shares_are d.tasks) in
    record {
      one = is.same_cpus ∙ may.one;
      wide = ap (λ (os : List (Option ℕ)). length os) is.idle ∙ ap (λ n. length (replicate {A = Option ℕ} n None)) may.one;
      numbered = is.numbered;
      paced = paced;
      fit = All-weaker IsBegun IsFit begun_fit d.tasks is.begun;
      shares = all;
      room = λ x later.
          let k = x - d.time in
          let low = sum_all (reach d.time x) (λ (t : Task). share_up t.params * k) d.tasks
          (λ i z g. let t = get_or d.tasks i z in resting_reach d.time x t (paced i z g) (begun_apart t (is.begun i z g))) in
          omega (arith, low, sum_shares (λ (t : Task). share_up t.params) k d.tasks, mul-le-mul_right k all);
    }

pub run_time : (cpus limit n : ℕ) (calls : List Call) → MayPromise cpus limit calls → (ticks n (run_of cpus limit calls)).time ≡ n
run_time cpus limit n calls may =
    let d = run_of cpus limit calls in
    omega (arith, ticks_time n d, (run_opened cpus limit calls may.admissions).early)

pub never_crowded : IsNeverCrowded
never_crowded cpus limit n calls may = (ticks_calm n (run_of cpus limit calls) (run_calm cpus limit calls may)).room

pub has_room : AlwaysHasRoom
has_room cpus limit n x calls may later =
    let d = run_of cpus limit calls in
    let e = run_time cpus limit n calls may in
    subst (λ m. sum_by (due_left x) (ticks n d).tasks ≤ unit * (x - m)) e
    (demand n x d (run_calm cpus limit calls may) (subst (λ m. m ≤ x) (sym e) later))
