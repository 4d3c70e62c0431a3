-- What the code reads of the listed tasks, place by place.
use Rattle.std.proofs.Common.{◌≡◌, ◌≢◌, ℕ, zero, suc, ◌+◌, ◌≤◌, Bool, true, false, cond, eqb, ltb, ◌||◌, Option, Some, None, List, [], ◌∷◌, length, refl, sym, ap, subst, ◌∙◌, arith, eq-eqb}
use Rattle.std.specs.Prelude.{All, find, fold, take, slice_get, option_map}
use Rattle.std.specs.List.{list_any}
use Rattle.std.proofs.lemmas.Bool.{ne_eqb}
use Rattle.std.proofs.lemmas.List.Elements.{All-head, All-tail}
use Rattle.std.proofs.lemmas.List.Sums.{fold_more}
use Rattle.std.proofs.lemmas.List.{take_all}
use Rattle.std.proofs.lemmas.Option.{slice_get_within, get_or_from_slice_get}
use Rattle.attr_check.specs.ParamsView.{ParamsView}
use Rattle.domain_run.specs.declared.task.Task.{Task}
use Rattle.domain_run.specs.declared.task.TaskView.{TaskView}
use Rattle.domain_run.specs.Domain.{Domain}
use Rattle.domain_run.specs.Views.{view_of, view_in, number_in}
use Rattle.domain_run.proofs.CallerLemmas.{AreNumbered}
use Rattle.deadline_promise.specs.declared.listed.Listed.{Listed}
use Rattle.deadline_promise.specs.private.Listed.{none_listed, with_listed, with_if_any, listed_of}

-- ---- the task at a place is that of its number
slice_of : (P : Task → Type 0) (xs : List Task) (k : ℕ) (t : Task) → All P xs → slice_get xs k ≡ Some t → P t
slice_of P [] k t all e = absurd cc
slice_of P (x ∷ xs) zero t all e = let same : x ≡ t = cc in subst P same (All-head P x xs all)
slice_of P (x ∷ xs) (suc k) t all e = slice_of P xs k t (All-tail P x xs all) e

pub found_there : (ts : List Task) (k : ℕ) (t : Task) → AreNumbered ts → slice_get ts k ≡ Some t → find (λ u. eqb u.number t.number) ts ≡ Some t
found_there [] k t numbered e = absurd cc
found_there (x ∷ xs) zero t numbered e =
    let same : x ≡ t = cc in
    let here : eqb x.number t.number ≡ true = eq-eqb x.number t.number (ap (λ (u : Task). u.number) same) in
    ap (λ b. cond b (Some x) (find (λ u. eqb u.number t.number) xs)) here ∙ e
found_there (x ∷ xs) (suc k) t numbered e =
    let others : All (λ (u : Task). x.number ≢ u.number) xs = λ j d h. numbered zero (suc j) d (omega arith) (omega (arith, h)) in
    let rest : AreNumbered xs = λ i j d less h. numbered (suc i) (suc j) d (omega (arith, less)) (omega (arith, h)) in
    let other : eqb x.number t.number ≡ false = ne_eqb x.number t.number (slice_of (λ u. x.number ≢ u.number) xs k t others e) in
    ap (λ b. cond b (Some x) (find (λ u. eqb u.number t.number) xs)) other ∙ found_there xs k t rest e

abbrev params_of_task : Task → ParamsView
params_of_task t = t.params

pub params_are : (d : Domain) (place number : ℕ) (o : Option TaskView) → AreNumbered d.tasks → Some number ≡ number_in d place → o ≡ view_in d number → option_map (λ v. v.params) o ≡ option_map (λ t. t.params) (slice_get d.tasks place)
params_are d place number o numbered at seen = by_task (slice_get d.tasks place) refl
  where
    by_task : (q : Option Task) → slice_get d.tasks place ≡ q → option_map (λ (v : TaskView). v.params) o ≡ option_map (λ (t : Task). t.params) q
    by_task None e = let no_such : Some number ≡ None = at ∙ ap (option_map (λ (t : Task). t.number)) e in absurd cc
    by_task (Some t) e =
        let named : Some number ≡ Some t.number = at ∙ ap (option_map (λ (u : Task). u.number)) e in
        let same : number ≡ t.number = cc in
        ap (option_map (λ (v : TaskView). v.params)) (seen ∙ ap (λ n. option_map view_of (find (λ u. eqb u.number n) d.tasks)) same ∙ ap (option_map view_of) (found_there d.tasks place t numbered e))

-- ---- all of them
abbrev step : Listed → Task → Listed
step l t = with_listed l t.params

-- a place past the end changes nothing
pub listed_more : (ts : List Task) (place : ℕ) (o : Option ParamsView) (l : Listed) → o ≡ option_map (λ t. t.params) (slice_get ts place) → l ≡ fold step none_listed (take place ts)
    → (p : ParamsView) → o ≡ Some p → with_listed l p ≡ fold step none_listed (take (place + 1) ts)
listed_more ts place o l at is p some = by_task (slice_get ts place) refl
  where
    by_task : (q : Option Task) → slice_get ts place ≡ q → with_listed l p ≡ fold step none_listed (take (place + 1) ts)
    by_task None e = let no_such : Some p ≡ None = sym some ∙ at ∙ ap (option_map (λ (t : Task). t.params)) e in absurd cc
    by_task (Some t) e =
        let here : Some p ≡ Some t.params = sym some ∙ at ∙ ap (option_map (λ (u : Task). u.params)) e in
        let same : p ≡ t.params = cc in
        (λ i. with_listed (is i) (same i))
        ∙ ap (λ (u : Task). step (fold step none_listed (take place ts)) u) (sym (get_or_from_slice_get ts place t t e))
        ∙ sym (fold_more step none_listed ts place t (slice_get_within ts place t e))

pub listed_past : (ts : List Task) (place : ℕ) (o : Option ParamsView) (l : Listed) → o ≡ option_map (λ t. t.params) (slice_get ts place) → l ≡ fold step none_listed (take place ts) → o ≡ None → l ≡ fold step none_listed (take (place + 1) ts)
listed_past ts place o l at is none =
    is ∙ ap (fold step none_listed) (take_all place ts (past ts place (sym at ∙ none)) ∙ sym (take_all (place + 1) ts (omega (arith, past ts place (sym at ∙ none)))))
  where
    past : (xs : List Task) (k : ℕ) → option_map (λ (t : Task). t.params) (slice_get xs k) ≡ None → length xs ≤ k
    past [] k e = omega arith
    past (x ∷ xs) zero e = absurd cc
    past (x ∷ xs) (suc k) e = omega (arith, past xs k e)

-- the step of the loop over the places
pub listed_step : (ts : List Task) (place : ℕ) (o : Option ParamsView) (l : Listed) → o ≡ option_map (λ t. t.params) (slice_get ts place) → (l ≡ fold step none_listed (take place ts)) × (l.count ≤ place)
    → (with_if_any l o ≡ fold step none_listed (take (place + 1) ts)) × ((with_if_any l o).count ≤ place + 1)
listed_step ts place None l at h = (listed_past ts place None l at h.0 refl, omega (arith, h.1))
listed_step ts place (Some p) l at h = (listed_more ts place (Some p) l at h.0 p refl, omega (arith, h.1))

counted : (ts : List Task) (l : Listed) → (fold step l ts).count ≡ l.count + length ts
counted [] l = omega arith
counted (t ∷ ts) l = omega (arith, counted ts (step l t))

or_all : (a b c : Bool) → ((a || b) || c) ≡ (a || (b || c))
or_all true b c = refl
or_all false b c = refl

reclaiming_logged : (ts : List Task) (l : Listed) → (fold step l ts).reclaims ≡ (l.reclaims || list_any (λ t. t.params.reclaim) ts)
reclaiming_logged [] l = or_none l.reclaims
  where
    or_none : (b : Bool) → b ≡ (b || false)
    or_none true = refl
    or_none false = refl
reclaiming_logged (t ∷ ts) l = reclaiming_logged ts (step l t) ∙ or_all l.reclaims t.params.reclaim (list_any (λ (u : Task). u.params.reclaim) ts)

short_logged : (ts : List Task) (l : Listed) → (fold step l ts).short ≡ (l.short || list_any (λ t. ltb t.params.deadline t.params.period) ts)
short_logged [] l = or_none l.short
  where
    or_none : (b : Bool) → b ≡ (b || false)
    or_none true = refl
    or_none false = refl
short_logged (t ∷ ts) l = short_logged ts (step l t) ∙ or_all l.short (ltb t.params.deadline t.params.period) (list_any (λ (u : Task). ltb u.params.deadline u.params.period) ts)

-- what is read of all places is what the tasks are
pub record AreListed (l : Listed) (ts : List Task) : Type 0 where
  pub count : l.count ≡ length ts
  pub reclaims : l.reclaims ≡ list_any (λ t. t.params.reclaim) ts
  pub short : l.short ≡ list_any (λ t. ltb t.params.deadline t.params.period) ts

pub listed_is : (ts : List Task) (place : ℕ) (l : Listed) → length ts ≤ place → l ≡ fold step none_listed (take place ts) → AreListed l ts
listed_is ts place l few is =
    let e : l ≡ listed_of ts = is ∙ ap (fold step none_listed) (take_all place ts few) in
    record {
      count = ap (λ (k : Listed). k.count) e ∙ counted ts none_listed ∙ omega arith;
      reclaims = ap (λ (k : Listed). k.reclaims) e ∙ reclaiming_logged ts none_listed;
      short = ap (λ (k : Listed). k.short) e ∙ short_logged ts none_listed;
    }
