-- Releases, one after the other, and the wakes that they are read from.
use Rattle.std.proofs.Common.{◌≡◌, ℕ, zero, suc, ◌+◌, ◌<◌, ◌≤◌, ⊎_elim, Bool, true, false, List, [], ◌∷◌, ◌++◌, length, get_or, drop, refl, sym, subst, ap, ◌∙◌, arith, map, append_assoc, append-nil}
use Rattle.std.specs.Prelude.{filter, unwrap_or, if◌then◌else◌, Some, None}
use Rattle.std.specs.List.{cons_option}
use Rattle.std.specs.List.Sorted.{IsNonDecreasing, IsNonDecreasingBy}
use Rattle.std.proofs.lemmas.List.{drop_more, drop_all}
use Rattle.std.proofs.lemmas.List.Kept.{IsNonDecreasingBy-filter}
use Rattle.std.proofs.lemmas.Bool.{cases_Bool}
use Rattle.recorded_jobs.specs.declared.moment.Moment.{Moment}
use Rattle.recorded_jobs.specs.declared.job.Job.{Job}
use Rattle.recorded_jobs.specs.declared.job.Release.{Release}
use Rattle.recorded_jobs.specs.Releases.{is_wake_of, wakes_of, latest_between, release_by, releases_after}

pub next_release : (after later : ℕ) (wakes : List ℕ) (jobs : List Job) (i : ℕ) (d : Job) (r : Release) (old new all : List Release) → i < length jobs → r ≡ release_by (get_or jobs i d) (latest_between after (get_or jobs i d).start wakes) → later ≡ unwrap_or (get_or jobs i d).«end» (get_or jobs i d).start → new ≡ old ++ r ∷ [] → old ++ releases_after after wakes (drop i jobs) ≡ all → new ++ releases_after later wakes (drop (i + 1) jobs) ≡ all
unfolding releases_after
next_release after later wakes jobs i d r old new all l is next more h =
    let j = get_or jobs i d in
    let cut : releases_after after wakes (drop i jobs) ≡ release_by j (latest_between after j.start wakes) ∷ releases_after (unwrap_or j.«end» j.start) wakes (drop (i + 1) jobs) = ap (releases_after after wakes) (drop_more jobs i d l) in
    ap (λ (rs : List Release). rs ++ releases_after later wakes (drop (i + 1) jobs)) more ∙ append_assoc old (r ∷ []) (releases_after later wakes (drop (i + 1) jobs))
    ∙ ap (λ (rs : List Release). old ++ rs) (ap (λ (q : Release). q ∷ releases_after later wakes (drop (i + 1) jobs)) is ∙ ap (λ (t : ℕ). release_by j (latest_between after j.start wakes) ∷ releases_after t wakes (drop (i + 1) jobs)) next ∙ sym cut)
    ∙ h

pub all_released : (after : ℕ) (wakes : List ℕ) (jobs : List Job) (i : ℕ) (found all : List Release) → length jobs ≤ i → found ++ releases_after after wakes (drop i jobs) ≡ all → found ≡ all
unfolding releases_after
all_released after wakes jobs i found all l h =
    sym (append-nil found) ∙ ap (λ (js : List Job). found ++ releases_after after wakes js) (sym (drop_all i jobs l)) ∙ h

picked : (b : Bool) (m : Moment) (xs : List Moment) (ys : List ℕ) → ys ≡ map (λ m. m.time) xs → cons_option (if b then Some m.time else None) ys ≡ map (λ m. m.time) (if b then m ∷ xs else xs)
picked true m xs ys h = ap (λ (zs : List ℕ). m.time ∷ zs) h
picked false m xs ys h = h

as_filter : (task : ℕ) (ms : List Moment) → wakes_of task ms ≡ map (λ m. m.time) (filter (λ m. is_wake_of task m.what) ms)
as_filter task [] = refl
as_filter task (m ∷ ms) =
    picked (is_wake_of task m.what) m (filter (λ m. is_wake_of task m.what) ms) (wakes_of task ms) (as_filter task ms)

at_map : (ms : List Moment) (i d : ℕ) (e : Moment) → i < length ms → get_or (map (λ m. m.time) ms) i d ≡ (get_or ms i e).time
at_map [] i d e l = absurd (omega (arith, l))
at_map (m ∷ ms) zero d e l = refl
at_map (m ∷ ms) (suc i) d e l = at_map ms i d e (omega (arith, l))

map_length : (ms : List Moment) → length (map (λ m. m.time) ms) ≡ length ms
map_length [] = refl
map_length (m ∷ ms) = let rest = map_length ms in omega (arith, rest)

some_moment : (ms : List Moment) (j : ℕ) → j < length ms → Moment
some_moment [] j l = absurd (omega (arith, l))
some_moment (m ∷ ms) j l = m

mapped_order : (ms : List Moment) → IsNonDecreasingBy (λ (m : Moment). m.time) ms → IsNonDecreasing (map (λ m. m.time) ms)
mapped_order ms h = λ i j d le l.
    let inside : j < length ms = omega (arith, l, map_length ms) in
    let e = some_moment ms j inside in
    let one = at_map ms i d e (omega (arith, inside, le)) in
    let two = at_map ms j d e inside in
    let up = h i j e le inside in
    omega (arith, one, two, up)

pub wakes_in_order : (task : ℕ) (ms : List Moment) → IsNonDecreasingBy (λ (m : Moment). m.time) ms → IsNonDecreasing (wakes_of task ms)
wakes_in_order task ms h =
    let kept = IsNonDecreasingBy-filter (λ (m : Moment). m.time) (λ m. is_wake_of task m.what) ms h in
    subst IsNonDecreasing (sym (as_filter task ms)) (mapped_order (filter (λ m. is_wake_of task m.what) ms) kept)
