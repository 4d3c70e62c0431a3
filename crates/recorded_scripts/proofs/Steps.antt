-- The events of jobs, one job after the other, and their phases.
use Rattle.std.proofs.Common.{◌≡◌, ℕ, zero, suc, ◌+◌, ◌-◌, ◌<◌, ◌≤◌, ⊎_elim, true, false, List, [], ◌∷◌, ◌++◌, length, get_or, take, drop, refl, sym, subst, ap, ◌∙◌, arith, append_assoc, append-nil}
use Rattle.std.specs.Prelude.{min, ◌&&◌}
use Rattle.std.proofs.lemmas.List.{drop_more, drop_all, take_all}
use Rattle.std.proofs.lemmas.Bool.{cases_lt, and_parts}
use Rattle.task_script.specs.declared.phase.Event.{Event}
use Rattle.task_script.specs.script.ScriptView.{PhaseView}
use Rattle.recorded_jobs.specs.declared.job.Release.{Release}
use Rattle.recorded_scripts.specs.Scripts.{events_of_one, events_after, first_phase, phases_of, is_short_release, are_short_after}

pub short_step : (before : ℕ) (rs : List Release) (i : ℕ) (d : Release) → i < length rs → are_short_after before (drop i rs) ≡ (is_short_release before (get_or rs i d) && are_short_after (get_or rs i d).time (drop (i + 1) rs))
unfolding are_short_after
short_step before rs i d l = ap (are_short_after before) (drop_more rs i d l)

pub short_none : (before : ℕ) (rs : List Release) (i : ℕ) → length rs ≤ i → are_short_after before (drop i rs) ≡ true
unfolding are_short_after
short_none before rs i l = ap (are_short_after before) (drop_all i rs l)

pub short_later : (before : ℕ) (rs : List Release) (i : ℕ) (d : Release) → i < length rs → is_short_release before (get_or rs i d) ≡ true → are_short_after before (drop i rs) ≡ are_short_after (get_or rs i d).time (drop (i + 1) rs)
short_later before rs i d l h = short_step before rs i d l ∙ rw h refl

pub short_not : (before : ℕ) (rs : List Release) (i : ℕ) (d : Release) → i < length rs → is_short_release before (get_or rs i d) ≡ false → are_short_after before (drop i rs) ≡ false
short_not before rs i d l h = short_step before rs i d l ∙ rw h refl

pub short_here : (before : ℕ) (rs : List Release) (i : ℕ) (d : Release) → i < length rs → are_short_after before (drop i rs) ≡ true → (is_short_release before (get_or rs i d) ≡ true) × (are_short_after (get_or rs i d).time (drop (i + 1) rs) ≡ true)
short_here before rs i d l h = and_parts _ _ (sym (short_step before rs i d l) ∙ h)

pub event_step : (before : ℕ) (rs : List Release) (i : ℕ) (d : Release) (old new all : List Event) → i < length rs → new ≡ old ++ events_of_one before (get_or rs i d) → old ++ events_after before (drop i rs) ≡ all → new ++ events_after (get_or rs i d).time (drop (i + 1) rs) ≡ all
unfolding events_after
event_step before rs i d old new all l more h =
    let r = get_or rs i d in
    ap (λ (es : List Event). es ++ events_after r.time (drop (i + 1) rs)) more
    ∙ append_assoc old (events_of_one before r) (events_after r.time (drop (i + 1) rs))
    ∙ ap (λ (rest : List Release). old ++ events_after before rest) (sym (drop_more rs i d l)) ∙ h

pub event_none : (before : ℕ) (rs : List Release) (i : ℕ) (found all : List Event) → length rs ≤ i → found ++ events_after before (drop i rs) ≡ all → found ≡ all
unfolding events_after
event_none before rs i found all l h =
    sym (append-nil found) ∙ ap (λ (rest : List Release). found ++ events_after before rest) (sym (drop_all i rs l)) ∙ h

-- ---- phases

pub front_is : (es : List Event) (n : ℕ) → n ≡ min (length es) 64 → take n es ≡ take 64 es
front_is es n h =
    ⊎_elim (λ more. ap (λ (k : ℕ). take k es) (let e : n ≡ 64 = omega (arith, h, more) in e))
    (λ less. take_all n es (omega (arith, h, less)) ∙ sym (take_all 64 es less)) (cases_lt 64 (length es))

pub back_is : (es : List Event) (n : ℕ) → n ≡ min (length es) 64 → drop n es ≡ drop 64 es
back_is es n h =
    ⊎_elim (λ more. ap (λ (k : ℕ). drop k es) (let e : n ≡ 64 = omega (arith, h, more) in e))
    (λ less. drop_all n es (omega (arith, h, less)) ∙ sym (drop_all 64 es less)) (cases_lt 64 (length es))

pub phase_is : (es front : List Event) → 0 < length es → front ≡ take 64 es → first_phase es ≡ record { count = 1; events = front } ∷ []
phase_is [] front l h = absurd (omega (arith, l))
phase_is (e ∷ es) front l h = ap (λ (f : List Event). record { count = 1; events = f } ∷ []) (sym h)

pub phase_step : (i : ℕ) (rest after events : List Event) (old new : List PhaseView) → i < 64 → new ≡ old ++ first_phase rest → after ≡ drop 64 rest → old ++ phases_of (64 - i) rest ≡ phases_of 64 events → new ++ phases_of (64 - (i + 1)) after ≡ phases_of 64 events
unfolding phases_of
phase_step i rest after events old new l more cut h =
    let n : 64 - i ≡ suc (64 - (i + 1)) = omega (arith, l) in
    let h2 : old ++ phases_of (suc (64 - (i + 1))) rest ≡ phases_of 64 events = subst (λ (k : ℕ). old ++ phases_of k rest ≡ phases_of 64 events) n h in
    ap (λ (ps : List PhaseView). ps ++ phases_of (64 - (i + 1)) after) more ∙ append_assoc old (first_phase rest) (phases_of (64 - (i + 1)) after)
    ∙ ap (λ (es : List Event). old ++ (first_phase rest ++ phases_of (64 - (i + 1)) es)) cut ∙ h2

pub phase_none : (i : ℕ) (rest : List Event) (found all : List PhaseView) → 64 ≤ i → found ++ phases_of (64 - i) rest ≡ all → found ≡ all
unfolding phases_of
phase_none i rest found all l h =
    let n : 64 - i ≡ 0 = omega (arith, l) in
    let h2 : found ++ phases_of 0 rest ≡ all = subst (λ (k : ℕ). found ++ phases_of k rest ≡ all) n h in
    sym (append-nil found) ∙ h2
