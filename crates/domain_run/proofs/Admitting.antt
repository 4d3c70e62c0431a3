-- A domain with one more task keeps what every domain keeps.
use Rattle.std.proofs.Common.{◌≡◌, ℕ, ◌+◌, ◌*◌, ◌^◌, ◌<◌, ◌≤◌, Bool, true, false, cond, eqb, ltb, leb, ◌||◌, List, [], ◌∷◌, ◌++◌, length, refl, sym, ap, ◌∙◌, subst, arith, length-append, eq-eqb}
use Rattle.std.specs.Prelude.{All, IsTrue, ◌≢◌, sum_by}
use Rattle.std.specs.List.{list_any}
use Rattle.std.proofs.lemmas.Bool.{ltb-false, leb-false}
use Rattle.std.proofs.lemmas.Int.{ints}
use Rattle.std.proofs.lemmas.List.Elements.{All-push, All-weaker}
use Rattle.std.proofs.lemmas.List.Quantifiers.{all_pairs_push}
use Rattle.std.proofs.lemmas.List.Sums.{sum_by-append}
use Rattle.std.proofs.lemmas.List.{map-append}
use Rattle.std.proofs.Math.Nat.{mul-le-mul}
use Rattle.attr_check.specs.Ratio.{cap}
use Rattle.attr_check.specs.ParamsView.{ParamsView}
use Rattle.task_script.specs.script.ScriptView.{ScriptView}
use Rattle.grub_rules.specs.declared.share.Share.{Share}
use Rattle.domain_run.specs.declared.task.Task.{Task}
use Rattle.domain_run.specs.Domain.{Domain}
use Rattle.domain_run.specs.Tick.{share_of, shares, sum_of}
use Rattle.domain_run.specs.Calls.{new_task, with_number, with_task_listed, admit_reply}
use Rattle.domain_run.specs.declared.call.Reply.TheVariants.{Admitted, Full, Twice, Busy}
use Rattle.domain_run.specs.Sound.{IsSound, IsSteady, IsDomain}
use Rattle.domain_run.proofs.Tracing.{listed_traced}

swapped : (a b c : Bool) → (a || (b || c)) ≡ (b || (a || c))
swapped true true c = refl
swapped true false c = refl
swapped false b c = refl

pub with_number_contains : (m k : ℕ) (ms : List ℕ) → list_any (λ n. eqb n k) (with_number m ms) ≡ (eqb m k || list_any (λ n. eqb n k) ms)
with_number_contains m k [] = refl
with_number_contains m k (x ∷ ms) =
    elim (ltb m x) as (λ b. list_any (λ n. eqb n k) (cond b (m ∷ x ∷ ms) (x ∷ with_number m ms)) ≡ (eqb m k || (eqb x k || list_any (λ n. eqb n k) ms))) [
      | true ↦ refl
      | false ↦ ap (λ b. eqb x k || b) (with_number_contains m k ms) ∙ swapped (eqb x k) (eqb m k) (list_any (λ n. eqb n k) ms)
    ]

or_right : (a b : Bool) → b ≡ true → (a || b) ≡ true
or_right true b e = refl
or_right false b e = e

or_left : (a b : Bool) → a ≡ true → (a || b) ≡ true
or_left a b e = rw e refl

new_sound : (d : Domain) (number : ℕ) (name : List ℕ) (params : ParamsView) (delay : ℕ) (script : ScriptView) → d.time ≤ 2 ^ 42 → delay ≤ 1000000000 → IsSound d.time (new_task d number name params delay script)
new_sound d number name params delay script early short = record {
  served = record { near = tt; low = omega (arith, ints); high = omega (arith, ints) };
  spent = λ h. absurd cc;
  lifted = λ h. absurd cc;
  dated = λ h. absurd cc;
  busy = λ h. absurd cc;
  timed = (omega arith, omega arith);
}

pub sum_push : (tasks : List Task) (t : Task) → sum_of (tasks ++ t ∷ []) ≡ sum_of tasks + t.params.bw
sum_push tasks t = ap (sum_by (λ (s : Share). s.bw)) (map-append share_of tasks (t ∷ [])) ∙ sum_by-append (λ (s : Share). s.bw) (shares tasks) (share_of t ∷ []) ∙ ap (λ n. sum_of tasks + n) (omega arith)

pub listed_is : (d : Domain) (number : ℕ) (name : List ℕ) (params : ParamsView) (delay : ℕ) (script : ScriptView) → IsSteady d → delay ≤ 1000000000 → length d.tasks < 256 → list_any (λ n. eqb n number) d.used ≡ false → sum_of d.tasks + params.bw ≤ cap d.cpus d.limit → IsSteady (with_task_listed d (new_task d number name params delay script))
listed_is d number name params delay script is short room fresh fits =
    let t = new_task d number name params delay script in
    record {
      early = is.early;
      cpus = is.cpus;
      limit = is.limit;
      within = rw (sum_push d.tasks t) fits;
      listed = omega (arith, length-append d.tasks (t ∷ []));
      sound = All-push (IsSound d.time) d.tasks t is.sound (new_sound d number name params delay script is.early short);
      homes = All-push (λ t. t.cpu < d.cpus) d.tasks t is.homes (omega (arith, is.cpus.0));
      numbered = all_pairs_push (λ a b. a.number ≢ b.number) d.tasks t is.numbered (λ k x h e. let no : true ≡ false = sym (is.known k x h) ∙ ap (λ m. list_any (λ n. eqb n m) d.used) e ∙ fresh in absurd cc);
      known = All-push (λ t. IsTrue (list_any (λ n. eqb n t.number) (with_number number d.used))) d.tasks t
          (All-weaker (λ t. IsTrue (list_any (λ n. eqb n t.number) d.used)) (λ t. IsTrue (list_any (λ n. eqb n t.number) (with_number number d.used))) (λ x h. with_number_contains number x.number d.used ∙ or_right (eqb number x.number) (list_any (λ n. eqb n x.number) d.used) h) d.tasks is.known)
          (with_number_contains number number d.used ∙ or_left (eqb number number) (list_any (λ n. eqb n number) d.used) (eq-eqb number number refl));
      wide = is.wide;
      apart = is.apart;
    }

-- what an admission that is granted says
pub record IsGranted (d : Domain) (number : ℕ) (params : ParamsView) : Type 0 where
  pub room : length d.tasks < 256
  pub fresh : list_any (λ n. eqb n number) d.used ≡ false
  pub fits : sum_of d.tasks + params.bw ≤ cap d.cpus d.limit

granted_by : (a b c : Bool) (s : ℕ) → cond a Full (cond b Twice (cond c (Busy s) Admitted)) ≡ Admitted → (a ≡ false) × (b ≡ false) × (c ≡ false)
granted_by true b c s e = absurd cc
granted_by false true c s e = absurd cc
granted_by false false true s e = absurd cc
granted_by false false false s e = (refl, refl, refl)

pub granted_is : (d : Domain) (number : ℕ) (params : ParamsView) → admit_reply d number params ≡ Admitted → IsGranted d number params
granted_is d number params e =
    let g = granted_by (leb 256 (length d.tasks)) (list_any (λ n. eqb n number) d.used) (ltb (cap d.cpus d.limit) (sum_of d.tasks + params.bw)) (sum_of d.tasks) e in
    record { room = leb-false 256 (length d.tasks) g.0; fresh = g.1; fits = ltb-false (cap d.cpus d.limit) (sum_of d.tasks + params.bw) g.2 }

-- the lists of the code are those of the domain with the task
pub listed_as : (d e : Domain) (number : ℕ) (name : List ℕ) (params : ParamsView) (delay : ℕ) (script : ScriptView) (t : Task) (tasks : List Task) (used : List ℕ) → d ≡ e → t ≡ new_task d number name params delay script → tasks ≡ d.tasks ++ t ∷ [] → used ≡ with_number number d.used
    → record d { tasks = tasks; used = used } ≡ with_task_listed e (new_task e number name params delay script)
listed_as d e number name params delay script t tasks used same task-is tasks-are used-are =
    let made : List Task → List ℕ → Domain = λ ts us. record d { tasks = ts; used = us } in
    ap (λ ts. made ts used) (tasks-are ∙ ap (λ x. d.tasks ++ x ∷ []) task-is)
    ∙ ap (made (d.tasks ++ new_task d number name params delay script ∷ [])) used-are
    ∙ ap (λ x. with_task_listed x (new_task x number name params delay script)) same

pub list_keeps : (d e : Domain) (number : ℕ) (name : List ℕ) (params : ParamsView) (delay : ℕ) (script : ScriptView) → d ≡ e → IsDomain d → delay ≤ 1000000000 → admit_reply e number params ≡ Admitted → IsDomain (with_task_listed e (new_task e number name params delay script))
list_keeps d e number name params delay script same is short granted =
    let g = granted_is e number params granted in
    let is_e : IsDomain e = subst IsDomain same is in
    record {
      steady = listed_is e number name params delay script is_e.steady short g.room g.fresh g.fits;
      traced = listed_traced e (with_task_listed e (new_task e number name params delay script)) refl refl refl refl (λ n h. with_number_contains number n e.used ∙ or_right (eqb number n) (list_any (λ m. eqb m n) e.used) h) is_e.traced;
    }

-- what the list needs of a new task
pub record IsNew (tasks : List Task) (used : List ℕ) (number : ℕ) (params : ParamsView) : Type 0 where
  pub few : length tasks < 256
  pub short : params.bw ≤ 2 ^ 26
  pub absent : All (λ t. t.number ≢ number) tasks
  pub fresh : list_any (λ n. eqb n number) used ≡ false

pub new_is : (d e : Domain) (number : ℕ) (params : ParamsView) → d ≡ e → IsDomain d → admit_reply e number params ≡ Admitted → IsNew d.tasks d.used number params
new_is d e number params same is granted =
    let g : IsGranted d number params = subst (λ (x : Domain). IsGranted x number params) (sym same) (granted_is e number params granted) in
    let most : cap d.cpus d.limit ≤ 64 * 1048576 = mul-le-mul is.steady.cpus.1 is.steady.limit.1 in
    record {
      few = g.room;
      short = omega (arith, g.fits, most);
      fresh = g.fresh;
      absent = λ k t h e. let no : true ≡ false = sym (is.steady.known k t h) ∙ ap (λ m. list_any (λ n. eqb n m) d.used) e ∙ g.fresh in absurd cc;
    }
