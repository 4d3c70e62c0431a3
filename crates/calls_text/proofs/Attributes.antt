-- The parameters that a task's times give, and the times of accepted parameters.
use Rattle.std.proofs.Common.{◌≡◌, ℕ, ◌*◌, ◌/◌, ◌%◌, ◌^◌, ◌≤◌, ◌<◌, Bool, true, false, not, cond, eqb, List, Option, Some, None, Result, Ok, Err, refl, ap, subst, ◌∙◌, arith}
use Rattle.std.specs.Prelude.{codes}
use Rattle.std.specs.Result.{result_ok}
use Rattle.std.specs.Str.{bytes_eq}
use Rattle.std.proofs.Math.Nat.{mul-div_cancel}
use Rattle.std.proofs.lemmas.Bool.{and_parts, leb-true, not-false, ne_eqb, eqb-false}
use Rattle.std.proofs.lemmas.Option.{same_Some}
use Rattle.std.proofs.lemmas.Slice.Eq.{bytes_eq-Decides}
use Rattle.attr_check.specs.declared.attr.SchedAttr.{SchedAttr}
use Rattle.attr_check.specs.declared.refusal.AttrRefusal.{AttrRefusal}
use Rattle.attr_check.specs.declared.refusal.AttrRefusal.TheVariants.{NotDeadline, UnknownFlag, TopBit, Small, Order, Grain, Long}
use Rattle.attr_check.specs.ParamsView.{ParamsView}
use Rattle.attr_check.specs.Accepted.{accepted, unless_refused, first_refusal, passes, params_of, period_of}
use Rattle.calls_text.specs.declared.times.Times.{Times}
use Rattle.calls_text.specs.Limits.{IsChecked}
use Rattle.calls_text.specs.private.Reading.{params_at, flag_at}
use Rattle.calls_text.proofs.Cuts.{Lacks}

unless_is : (a : SchedAttr) (r : Option AttrRefusal) (p : ParamsView) → unless_refused a r ≡ Ok p → (r ≡ None) × (params_of a ≡ p)
unless_is a None p e = (refl, cc)
unless_is a (Some r) p e = absurd cc

accepted_is : (a : SchedAttr) (p : ParamsView) → accepted a ≡ Ok p → (first_refusal a ≡ None) × (params_of a ≡ p)
accepted_is a p e = unless_is a (first_refusal a) p e

result_is : {E T : Type 0} (r : Result T E) (x : T) → result_ok r ≡ Some x → r ≡ Ok x
result_is (Ok y) x e = cc
result_is (Err d) x e = absurd cc

skipped : {X : Type 0} (b : Bool) (x : X) (o : Option X) → cond b (Some x) o ≡ None → (b ≡ false) × (o ≡ None)
skipped true x o e = absurd cc
skipped false x o e = (refl, e)

-- the tests that matter to the times
record PassesTimes (a : SchedAttr) : Type 0 where
  small : 1024 ≤ a.runtime
  runtime_first : a.runtime ≤ a.deadline
  deadline_first : a.deadline ≤ period_of a
  long : period_of a / 1000 ≤ 2 ^ 32

passes_times : (a : SchedAttr) → first_refusal a ≡ None → PassesTimes a
passes_times a e =
    let t1 = skipped (not (passes a NotDeadline)) NotDeadline _ e in
    let t2 = skipped (not (passes a UnknownFlag)) UnknownFlag _ t1.1 in
    let t3 = skipped (not (passes a TopBit)) TopBit _ t2.1 in
    let t4 = skipped (not (passes a Small)) Small _ t3.1 in
    let t5 = skipped (not (passes a Order)) Order _ t4.1 in
    let t6 = skipped (not (passes a Grain)) Grain _ t5.1 in
    let t7 = skipped (not (passes a Long)) Long _ t6.1 in
    let order = and_parts _ _ (not-false (passes a Order) t5.0) in
    record {
      small = leb-true _ _ (not-false (passes a Small) t4.0);
      runtime_first = leb-true _ _ order.0;
      deadline_first = leb-true _ _ order.1;
      long = leb-true _ _ (not-false (passes a Long) t7.0);
    }

abbrev pub attr_at : Times → Bool → SchedAttr
attr_at t reclaim = record { policy = 6; flags = cond reclaim 2 0; runtime = t.runtime * 1000; deadline = t.deadline * 1000; period = t.period * 1000 }

abbrev pub times_of : ParamsView → Times
times_of p = record { runtime = p.runtime; deadline = p.deadline; period = p.period }

-- the times and the flag of the parameters are those that were given
pub record AreGiven (t : Times) (reclaim : Bool) (p : ParamsView) : Type 0 where
  pub times : times_of p ≡ t
  pub flag : p.reclaim ≡ reclaim
  pub checked : IsChecked p

flag_kept : (reclaim : Bool) → eqb (cond reclaim 2 0 / 2 % 2) 1 ≡ reclaim
flag_kept true = refl
flag_kept false = refl

with_times : (t : Times) (reclaim : Bool) (p : ParamsView) → params_of (attr_at t reclaim) ≡ p → 0 < t.period → (times_of p ≡ t) × (p.reclaim ≡ reclaim)
with_times t reclaim p e some =
    let period : eqb (t.period * 1000) 0 ≡ false = ne_eqb _ _ (λ none. omega (arith, none)) in
    let a = mul-div_cancel t.runtime {n = 1000} (omega arith) in
    let b = mul-div_cancel t.deadline {n = 1000} (omega arith) in
    let c = mul-div_cancel t.period {n = 1000} (omega arith) in
    let same : times_of (params_of (attr_at t reclaim)) ≡ t = rw (period, a, b, c) refl in
    subst (λ (q : ParamsView). (times_of q ≡ t) × (q.reclaim ≡ reclaim)) e (same, flag_kept reclaim)

pub params_take : (t : Times) (reclaim : Bool) (p : ParamsView) → 0 < t.period → params_at t reclaim ≡ Some p → AreGiven t reclaim p
unfolding params_at
params_take t reclaim p some h =
    let given = result_is (accepted (attr_at t reclaim)) p h in
    let is = accepted_is (attr_at t reclaim) p given in
    let w = with_times t reclaim p is.1 some in
    record { times = w.0; flag = w.1; checked = ap (λ (u : Times). accepted (attr_at u p.reclaim)) w.0 ∙ ap (λ (f : Bool). accepted (attr_at t f)) w.1 ∙ given }

pub record AreSmall (t : Times) : Type 0 where
  pub runtime : (1 ≤ t.runtime) × (t.runtime ≤ 4294967296)
  pub deadline : (1 ≤ t.deadline) × (t.deadline ≤ 4294967296)
  pub period : (1 ≤ t.period) × (t.period ≤ 4294967296)

small_times : (q d p x : ℕ) → 1024 ≤ q * 1000 → q * 1000 ≤ d * 1000 → d * 1000 ≤ x → x / 1000 ≤ 2 ^ 32 → x / 1000 ≡ p → AreSmall (record { runtime = q; deadline = d; period = p })
small_times q d p x small runtime_first deadline_first long period = record {
  runtime = (omega arith, omega arith);
  deadline = (omega arith, omega arith);
  period = (omega arith, omega arith);
}

pub params_again : (p : ParamsView) → IsChecked p → (params_at (times_of p) p.reclaim ≡ Some p) × AreSmall (times_of p)
unfolding params_at
params_again p is =
    let a = accepted_is (attr_at (times_of p) p.reclaim) p is in
    let t = passes_times (attr_at (times_of p) p.reclaim) a.0 in
    let period : period_of (attr_at (times_of p) p.reclaim) / 1000 ≡ p.period = ap (λ (q : ParamsView). q.period) a.1 in
    let s = t.small in
    let r = t.runtime_first in
    let d = t.deadline_first in
    let l = t.long in
    (ap result_ok is, small_times p.runtime p.deadline p.period (period_of (attr_at (times_of p) p.reclaim)) s r d l period)

-- ---- the flag

abbrev pub flag_word : Bool → List ℕ
flag_word reclaim = cond reclaim (codes "R") (codes "-")

flag_by : (text : List ℕ) (reclaim r dash : Bool) → bytes_eq text (codes "R") ≡ r → bytes_eq text (codes "-") ≡ dash → cond r (Some true) (cond dash (Some false) None) ≡ Some reclaim → text ≡ flag_word reclaim
flag_by text reclaim true dash is other h = (bytes_eq-Decides text (codes "R")).0 is ∙ ap flag_word (same_Some true reclaim h)
flag_by text reclaim false true other is h = (bytes_eq-Decides text (codes "-")).0 is ∙ ap flag_word (same_Some false reclaim h)
flag_by text reclaim false false other another h = absurd cc

pub flag_takes : (text : List ℕ) (reclaim : Bool) → flag_at text ≡ Some reclaim → text ≡ flag_word reclaim
unfolding flag_at
flag_takes text reclaim h = flag_by text reclaim (bytes_eq text (codes "R")) (bytes_eq text (codes "-")) refl refl h

pub flag_again : (reclaim : Bool) → flag_at (flag_word reclaim) ≡ Some reclaim
unfolding flag_at
flag_again true = refl
flag_again false = refl

pub flag_lacks : (c : ℕ) (reclaim : Bool) → eqb 82 c ≡ false → eqb 45 c ≡ false → Lacks c (flag_word reclaim)
flag_lacks c true r dash = (eqb-false _ _ r, tt)
flag_lacks c false r dash = (eqb-false _ _ dash, tt)
