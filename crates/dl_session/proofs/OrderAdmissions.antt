-- Admissions that are all granted may be made in any other order.
use Rattle.std.proofs.Common.{◌≡◌, ◌≢◌, ℕ, ◌+◌, Bool, true, false, cond, eqb, ltb, leb, ◌||◌, Option, Some, None, List, [], ◌∷◌, ◌++◌, length, refl, sym, ap, ◌∙◌, subst, arith, length-append, ne_eqb, eqb-true, eq-eqb}
use Rattle.std.specs.List.{list_any}
use Rattle.std.proofs.lemmas.Bool.{or_parts, lt-leb, le-ltb}
use mathlib.Core.Path.{fun_ext}
use Rattle.attr_check.specs.ParamsView.{ParamsView}
use Rattle.attr_check.specs.Ratio.{cap}
use Rattle.domain_run.specs.declared.task.Task.{Task}
use Rattle.domain_run.specs.declared.call.Call.{Call}
use Rattle.domain_run.specs.declared.call.Call.TheVariants.{Admit, Regrade, Wake, Leave, Advance, Limit, Depart, Arrive}
use Rattle.domain_run.specs.declared.call.Reply.{Reply}
use Rattle.domain_run.specs.declared.call.Reply.TheVariants.{Admitted, Woken, Done, Full, Twice, Busy, NotWaiting}
use Rattle.domain_run.specs.Conditions.{is_waiting}
use Rattle.domain_run.specs.Domain.{Domain}
use Rattle.domain_run.specs.Tick.{sum_of}
use Rattle.domain_run.specs.Calls.{admit_reply, new_task, with_number, with_task_listed, task_of, word_reply, regrade_reply, wake_reply, leave_reply, set_reply, depart_reply, reply_to, is_refusal, after_call}
use Rattle.domain_run.proofs.CallerLemmas.{with_number_contains, sum_push, IsGranted, granted_is}
use Rattle.call_book.specs.Book.{AdmissionView, admission}
use Rattle.calls_trace.specs.Replay.{with_name, named_by, names_after}
use Rattle.domain_run.proofs.CallerLemmas.{Reordered, next, swaps, chain, same_order, turned, same_length, same_any, before_same}
use Rattle.domain_run.proofs.CallerLemmas.{Alike, relisted, same_sum_of}

-- ---- alike

pub alike_itself : (d : Domain) → Alike d d
alike_itself d = record { same = refl; tasks = same_order d.tasks; used = same_order d.used }

pub alike_more : (d e f : Domain) → Alike d e → Alike e f → Alike d f
alike_more d e f one two = record {
  same = two.same ∙ ap (λ (x : Domain). relisted x f.tasks f.used) one.same;
  tasks = chain d.tasks e.tasks f.tasks one.tasks two.tasks;
  used = chain d.used e.used f.used one.used two.used;
}

-- ---- the numbers ever admitted

inserted : (n : ℕ) (ms : List ℕ) → Reordered (with_number n ms) (n ∷ ms)
inserted n [] = same_order (n ∷ [])
inserted n (m ∷ ms) =
    elim (ltb n m) as (λ b. Reordered (cond b (n ∷ m ∷ ms) (m ∷ with_number n ms)) (n ∷ m ∷ ms)) [
      | true ↦ same_order (n ∷ m ∷ ms)
      | false ↦ chain (m ∷ with_number n ms) (m ∷ n ∷ ms) (n ∷ m ∷ ms) (next m (with_number n ms) (n ∷ ms) (inserted n ms)) (swaps m n ms)
    ]

inserted_same : (n : ℕ) (ms ns : List ℕ) → Reordered ms ns → Reordered (with_number n ms) (with_number n ns)
inserted_same n ms ns r =
    chain (with_number n ms) (n ∷ ns) (with_number n ns)
    (chain (with_number n ms) (n ∷ ms) (n ∷ ns) (inserted n ms) (next n ms ns r))
    (turned (with_number n ns) (n ∷ ns) (inserted n ns))

inserted_two : (n m : ℕ) (ms : List ℕ) → Reordered (with_number n (with_number m ms)) (n ∷ m ∷ ms)
inserted_two n m ms =
    chain (with_number n (with_number m ms)) (n ∷ with_number m ms) (n ∷ m ∷ ms) (inserted n (with_number m ms)) (next n (with_number m ms) (m ∷ ms) (inserted m ms))

inserted_swap : (n m : ℕ) (ms : List ℕ) → Reordered (with_number n (with_number m ms)) (with_number m (with_number n ms))
inserted_swap n m ms =
    chain (with_number n (with_number m ms)) (m ∷ n ∷ ms) (with_number m (with_number n ms))
    (chain (with_number n (with_number m ms)) (n ∷ m ∷ ms) (m ∷ n ∷ ms) (inserted_two n m ms) (swaps n m ms))
    (turned (with_number m (with_number n ms)) (m ∷ n ∷ ms) (inserted_two m n ms))

pushed_swap : {X : Type 0} (xs : List X) (x y : X) → Reordered ((xs ++ x ∷ []) ++ y ∷ []) ((xs ++ y ∷ []) ++ x ∷ [])
pushed_swap [] x y = swaps x y []
pushed_swap (z ∷ xs) x y = next z ((xs ++ x ∷ []) ++ y ∷ []) ((xs ++ y ∷ []) ++ x ∷ []) (pushed_swap xs x y)

-- ---- one admission

abbrev pub task_from : Domain → AdmissionView → Task
task_from d a = new_task d a.number a.name a.params a.delay a.script

abbrev pub with_admitted : Domain → AdmissionView → Domain
with_admitted d a = with_task_listed d (task_from d a)

admits : (d : Domain) (a : AdmissionView) → IsGranted d a.number a.params → reply_to d (admission a) ≡ Admitted
admits d a g =
    let full = lt-leb 256 (length d.tasks) g.room in
    let over = le-ltb (cap d.cpus d.limit) (sum_of d.tasks + a.params.bw) g.fits in
    ap (λ b. cond b Full (cond (list_any (λ n. eqb n a.number) d.used) Twice (cond (ltb (cap d.cpus d.limit) (sum_of d.tasks + a.params.bw)) (Busy (sum_of d.tasks)) Admitted))) full
    ∙ ap (λ b. cond b Twice (cond (ltb (cap d.cpus d.limit) (sum_of d.tasks + a.params.bw)) (Busy (sum_of d.tasks)) Admitted)) g.fresh
    ∙ ap (λ b. cond b (Busy (sum_of d.tasks)) Admitted) over

pub admitted_as : (d : Domain) (a : AdmissionView) → reply_to d (admission a) ≡ Admitted → after_call d (admission a) ≡ with_admitted d a
admitted_as d a e = ap (λ r. cond (is_refusal r) d (with_admitted d a)) e

pub named_as : (d : Domain) (c : Call) (names : ℕ → List ℕ) → reply_to d c ≡ Admitted → names_after d c names ≡ named_by c names
named_as d c names e = ap (λ (r : Reply). cond (is_refusal r) names (named_by c names)) e

same_reply : (d : Domain) (ts : List Task) (us : List ℕ) (a : AdmissionView) → Reordered d.tasks ts → Reordered d.used us → admit_reply d a.number a.params ≡ admit_reply (relisted d ts us) a.number a.params
same_reply d ts us a r s =
    let made : ℕ → Bool → ℕ → Reply = λ len any sum. cond (leb 256 len) Full (cond any Twice (cond (ltb (cap d.cpus d.limit) (sum + a.params.bw)) (Busy sum) Admitted)) in
    let test = λ (n : ℕ). eqb n a.number in
    ap (λ len. made len (list_any test d.used) (sum_of d.tasks)) (same_length d.tasks ts r)
    ∙ ap (λ any. made (length ts) any (sum_of d.tasks)) (same_any test d.used us s)
    ∙ ap (λ sum. made (length ts) (list_any test us) sum) (same_sum_of d.tasks ts r)

pub alike_reply : (d e : Domain) (a : AdmissionView) → Alike d e → reply_to d (admission a) ≡ reply_to e (admission a)
alike_reply d e a alike =
    subst (λ (x : Domain). reply_to d (admission a) ≡ reply_to x (admission a)) (sym alike.same) (same_reply d e.tasks e.used a alike.tasks alike.used)

relisted_with : (d : Domain) (ts : List Task) (us : List ℕ) (a : AdmissionView) → Reordered d.tasks ts → Reordered d.used us → Alike (with_admitted d a) (with_admitted (relisted d ts us) a)
relisted_with d ts us a r s = record {
  same = refl;
  tasks = before_same d.tasks ts (task_from d a ∷ []) r;
  used = inserted_same a.number d.used us s;
}

alike_with : (d e : Domain) (a : AdmissionView) → Alike d e → Alike (with_admitted d a) (with_admitted e a)
alike_with d e a alike =
    subst (λ (x : Domain). Alike (with_admitted d a) (with_admitted x a)) (sym alike.same) (relisted_with d e.tasks e.used a alike.tasks alike.used)

alike_admitted : (d e : Domain) (a : AdmissionView) → Alike d e → reply_to d (admission a) ≡ Admitted → Alike (after_call d (admission a)) (after_call e (admission a))
alike_admitted d e a alike is =
    let also : reply_to e (admission a) ≡ Admitted = sym (alike_reply d e a alike) ∙ is in
    subst (λ (x : Domain). Alike x (after_call e (admission a))) (sym (admitted_as d a is))
    (subst (λ (x : Domain). Alike (with_admitted d a) x) (sym (admitted_as e a also)) (alike_with d e a alike))

-- ---- only an admission is admitted

not_changed : (b : Bool) (s : ℕ) (word : Option ℕ) → cond b (Busy s) (word_reply word) ≡ Admitted → ⊥
not_changed true s word e = absurd cc
not_changed false s None e = absurd cc
not_changed false s (Some w) e = absurd cc

not_regraded : (d : Domain) (params : ParamsView) (word : Option ℕ) (o : Option Task) → regrade_reply d params word o ≡ Admitted → ⊥
not_regraded d params word None e = absurd cc
not_regraded d params word (Some t) e = not_changed _ (sum_of d.tasks) word e

not_waking : (b : Bool) → cond b Woken NotWaiting ≡ Admitted → ⊥
not_waking true e = absurd cc
not_waking false e = absurd cc

not_woken : (o : Option Task) → wake_reply o ≡ Admitted → ⊥
not_woken None e = absurd cc
not_woken (Some t) e = not_waking (is_waiting t.condition) e

not_left : (o : Option Task) → leave_reply o ≡ Admitted → ⊥
not_left None e = absurd cc
not_left (Some t) e = absurd cc

not_done : (n : ℕ) → Done n ≡ Admitted → ⊥
not_done n e = absurd cc

not_set : (b : Bool) (s : ℕ) (word : Option ℕ) → cond b (Busy s) (set_reply word) ≡ Admitted → ⊥
not_set true s word e = absurd cc
not_set false s None e = absurd cc
not_set false s (Some w) e = absurd cc

not_departed : (o : Option Task) → depart_reply o ≡ Admitted → ⊥
not_departed None e = absurd cc
not_departed (Some t) e = absurd cc

-- an arrival does what an admission without a delay does
abbrev pub as_admission : Call → Call
as_admission (Arrive number name params script) = Admit number name params 0 script
as_admission c = c

pub as_reply : (d : Domain) (c : Call) → reply_to d (as_admission c) ≡ reply_to d c
as_reply d (Admit number name params delay script) = refl
as_reply d (Regrade number params word) = refl
as_reply d (Wake number) = refl
as_reply d (Leave number) = refl
as_reply d (Advance n) = refl
as_reply d (Limit limit word) = refl
as_reply d (Depart number) = refl
as_reply d (Arrive number name params script) = refl

pub as_after : (d : Domain) (c : Call) → after_call d (as_admission c) ≡ after_call d c
as_after d (Admit number name params delay script) = refl
as_after d (Regrade number params word) = refl
as_after d (Wake number) = refl
as_after d (Leave number) = refl
as_after d (Advance n) = refl
as_after d (Limit limit word) = refl
as_after d (Depart number) = refl
as_after d (Arrive number name params script) = refl

pub as_named : (c : Call) (names : ℕ → List ℕ) → named_by (as_admission c) names ≡ named_by c names
as_named (Admit number name params delay script) names = refl
as_named (Regrade number params word) names = refl
as_named (Wake number) names = refl
as_named (Leave number) names = refl
as_named (Advance n) names = refl
as_named (Limit limit word) names = refl
as_named (Depart number) names = refl
as_named (Arrive number name params script) names = refl

-- the admission that a call is, or that an arrival is as good as
pub record IsAdmission (c : Call) : Type 0 where
  pub admission : AdmissionView
  pub is : as_admission c ≡ Admit admission.number admission.name admission.params admission.delay admission.script

pub is_admission : (d : Domain) (c : Call) → reply_to d c ≡ Admitted → IsAdmission c
is_admission d (Admit number name params delay script) e = record { admission = record { number = number; name = name; params = params; delay = delay; script = script }; is = refl }
is_admission d (Regrade number params word) e = absurd (not_regraded d params word (task_of d number) e)
is_admission d (Wake number) e = absurd (not_woken (task_of d number) e)
is_admission d (Leave number) e = absurd (not_left (task_of d number) e)
is_admission d (Advance n) e = absurd (not_done n e)
is_admission d (Limit limit word) e = absurd (not_set _ (sum_of d.tasks) word e)
is_admission d (Depart number) e = absurd (not_departed (task_of d number) e)
is_admission d (Arrive number name params script) e = record { admission = record { number = number; name = name; params = params; delay = 0; script = script }; is = refl }

-- ---- two admissions

pub record AreTwo (d : Domain) (x y : Call) : Type 0 where
  pub first : reply_to d y ≡ Admitted
  pub second : reply_to (after_call d y) x ≡ Admitted
  pub alike : Alike (after_call (after_call d x) y) (after_call (after_call d y) x)
  pub named : (names : ℕ → List ℕ) → named_by y (named_by x names) ≡ named_by x (named_by y names)

names_swap : (a b c : Bool) (x y z : List ℕ) → (a ≡ true → b ≡ false) → cond a x (cond b y z) ≡ cond b y (cond a x z)
names_swap true b c x y z h = ap (λ t. cond t y x) (sym (h refl))
names_swap false b c x y z h = refl

two_named : (names : ℕ → List ℕ) (a b : AdmissionView) → a.number ≢ b.number → with_name (with_name names a.number a.name) b.number b.name ≡ with_name (with_name names b.number b.name) a.number a.name
two_named names a b other =
    fun_ext (λ n. names_swap (eqb n b.number) (eqb n a.number) true b.name a.name (names n)
    (λ e. ne_eqb n a.number (λ same. other (sym same ∙ eqb-true n b.number e))))

two_with : (d : Domain) (a b : AdmissionView) → Alike (with_admitted (with_admitted d a) b) (with_admitted (with_admitted d b) a)
two_with d a b = record {
  same = refl;
  tasks = pushed_swap d.tasks (task_from d a) (task_from d b);
  used = inserted_swap b.number a.number d.used;
}

two_admitted : (d : Domain) (a b : AdmissionView) → reply_to d (admission a) ≡ Admitted → reply_to (after_call d (admission a)) (admission b) ≡ Admitted → AreTwo d (admission a) (admission b)
two_admitted d a b one then =
    let g = granted_is d a.number a.params one in
    let step = admitted_as d a one in
    let two : reply_to (with_admitted d a) (admission b) ≡ Admitted = subst (λ (x : Domain). reply_to x (admission b) ≡ Admitted) step then in
    let h = granted_is (with_admitted d a) b.number b.params two in
    let long = length-append d.tasks (task_from d a ∷ []) in
    let sum = sum_push d.tasks (task_from d a) in
    let apart = or_parts (eqb a.number b.number) (list_any (λ n. eqb n b.number) d.used) (sym (with_number_contains a.number b.number d.used) ∙ h.fresh) in
    let fits = h.fits in
    let other : a.number ≢ b.number = λ e. let no : true ≡ false = sym (eq-eqb a.number b.number e) ∙ apart.0 in absurd cc in
    let room = g.room in
    let first : reply_to d (admission b) ≡ Admitted = admits d b (record { room = room; fresh = apart.1; fits = omega (arith, fits, sum) }) in
    let step_b = admitted_as d b first in
    let long_b = length-append d.tasks (task_from d b ∷ []) in
    let sum_b = sum_push d.tasks (task_from d b) in
    let more = h.room in
    let fresh : list_any (λ n. eqb n a.number) (with_number b.number d.used) ≡ false =
    with_number_contains b.number a.number d.used ∙ ap (λ t. t || list_any (λ n. eqb n a.number) d.used) (ne_eqb b.number a.number (λ e. other (sym e))) ∙ g.fresh in
    let second : reply_to (with_admitted d b) (admission a) ≡ Admitted =
    admits (with_admitted d b) a (record { room = omega (arith, more, long, long_b); fresh = fresh; fits = omega (arith, fits, sum, sum_b) }) in
    let left : after_call (after_call d (admission a)) (admission b) ≡ with_admitted (with_admitted d a) b =
    ap (λ (x : Domain). after_call x (admission b)) step ∙ admitted_as (with_admitted d a) b two in
    let right : after_call (after_call d (admission b)) (admission a) ≡ with_admitted (with_admitted d b) a =
    ap (λ (x : Domain). after_call x (admission a)) step_b ∙ admitted_as (with_admitted d b) a second in
    record {
      first = first;
      second = subst (λ (x : Domain). reply_to x (admission a) ≡ Admitted) (sym step_b) second;
      alike = subst (λ (x : Domain). Alike x (after_call (after_call d (admission b)) (admission a))) (sym left)
          (subst (λ (x : Domain). Alike (with_admitted (with_admitted d a) b) x) (sym right) (two_with d a b));
      named = λ names. two_named names a b other;
    }

-- what holds of the admissions that two calls are as good as, holds of the calls
two_as : (d : Domain) (x y : Call) → AreTwo d (as_admission x) (as_admission y) → AreTwo d x y
two_as d x y are =
    let p : Call = as_admission x in
    let q : Call = as_admission y in
    let left : after_call (after_call d p) q ≡ after_call (after_call d x) y = as_after (after_call d p) y ∙ ap (λ (e : Domain). after_call e y) (as_after d x) in
    let right : after_call (after_call d q) p ≡ after_call (after_call d y) x = as_after (after_call d q) x ∙ ap (λ (e : Domain). after_call e x) (as_after d y) in
    record {
      first = sym (as_reply d y) ∙ are.first;
      second = ap (λ (e : Domain). reply_to e x) (sym (as_after d y)) ∙ sym (as_reply (after_call d q) x) ∙ are.second;
      alike = subst (λ (e : Domain). Alike e (after_call (after_call d y) x)) left (subst (λ (e : Domain). Alike (after_call (after_call d p) q) e) right are.alike);
      named = λ names.
          ap (named_by y) (sym (as_named x names)) ∙ sym (as_named y (named_by p names)) ∙ are.named names
          ∙ as_named x (named_by q names) ∙ ap (named_by x) (as_named y names);
    }

pub two_calls : (d : Domain) (x y : Call) → reply_to d x ≡ Admitted → reply_to (after_call d x) y ≡ Admitted → AreTwo d x y
two_calls d x y one two =
    let a = is_admission d x one in
    let b = is_admission (after_call d x) y two in
    let first : reply_to d (as_admission x) ≡ Admitted = as_reply d x ∙ one in
    let then : reply_to (after_call d (as_admission x)) (as_admission y) ≡ Admitted = as_reply (after_call d (as_admission x)) y ∙ ap (λ (e : Domain). reply_to e y) (as_after d x) ∙ two in
    two_as d x y
    (subst (λ (c : Call). AreTwo d c (as_admission y)) (sym a.is)
    (subst (λ (c : Call). AreTwo d (admission a.admission) c) (sym b.is)
    (two_admitted d a.admission b.admission
    (subst (λ (c : Call). reply_to d c ≡ Admitted) a.is first)
    (subst (λ (c : Call). reply_to (after_call d (admission a.admission)) c ≡ Admitted) b.is (subst (λ (c : Call). reply_to (after_call d c) (as_admission y) ≡ Admitted) a.is then)))))

pub record IsAlikeAfter (d e : Domain) (c : Call) : Type 0 where
  pub reply : reply_to e c ≡ Admitted
  pub alike : Alike (after_call d c) (after_call e c)

pub alike_call : (d e : Domain) (c : Call) → Alike d e → reply_to d c ≡ Admitted → IsAlikeAfter d e c
alike_call d e c alike one =
    let a = is_admission d c one in
    let is : reply_to d (admission a.admission) ≡ Admitted = subst (λ (x : Call). reply_to d x ≡ Admitted) a.is (as_reply d c ∙ one) in
    let are : IsAlikeAfter d e (as_admission c) = subst (λ (x : Call). IsAlikeAfter d e x) (sym a.is)
    (record { reply = sym (alike_reply d e a.admission alike) ∙ is; alike = alike_admitted d e a.admission alike is }) in
    record {
      reply = sym (as_reply e c) ∙ are.reply;
      alike = subst (λ (x : Domain). Alike x (after_call e c)) (as_after d c) (subst (λ (x : Domain). Alike (after_call d (as_admission c)) x) (as_after e c) are.alike);
    }
