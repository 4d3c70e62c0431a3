-- What a cursor reads where it stands, from its script or from the steps.
use Rattle.std.proofs.Common.{slice_index_or, ◌≡◌, ℕ, ◌+◌, ◌<◌, ◌≤◌, false, List, length, Some, refl, sym, ap, subst, ◌∙◌, arith, inl, inr}
use Rattle.std.specs.Prelude.{slice_get, IsSome}
use Rattle.std.proofs.lemmas.Bool.{cases_lt, le-leb, lt-leb}
use Rattle.std.proofs.lemmas.Option.{slice_get_within, slice_get-get_or, get_or_from_slice_get, same_Some}
use Rattle.task_script.specs.declared.progress.Progress.{Progress}
use Rattle.task_script.specs.declared.phase.Event.{Event}
use Rattle.task_script.specs.declared.phase.Event.TheVariants.{Wait}
use Rattle.task_script.specs.script.ScriptView.{PhaseView, ScriptView, IsEvent, IsScript}
use Rattle.task_script.specs.script.Unrolled.{event_at}
use Rattle.task_script.specs.private.Steps.{StepView, IsSteps, laps_at, step_in_phase}
use Rattle.task_script.specs.private.Progress.{progress_place, is_last_round, IsProgress, IsEventThere, AreLapsThere, IsLastOfLap, IsNextProgress}
use Rattle.task_script.proofs.StepPlaces.{step_there, first_fits}
use Rattle.task_script.proofs.Rounds.{here, some_phase_at, event_there, behind_event, last_of_lap}

-- IN THE STEPS

step_here : (s : ScriptView) (p : Progress) (steps : List StepView) → IsProgress s p → IsSteps s steps → 0 < length steps → (q : PhaseView) → slice_get s.phases p.phase ≡ Some q → slice_get steps (p.first + p.event) ≡ Some (step_in_phase q p.event)
step_here s p steps stands is some q at =
    ap (λ k. slice_get steps (k + p.event)) stands.first ∙ step_there s steps p.phase p.event q is some at (stands.there q at).event

pub step_within : (s : ScriptView) (p : Progress) (steps : List StepView) → IsProgress s p → IsSteps s steps → 0 < length steps → p.first + p.event < length steps
step_within s p steps stands is some =
    let q = here s p stands in
    slice_get_within steps (p.first + p.event) (step_in_phase q.phase p.event) (step_here s p steps stands is some q.phase q.at)

pub index_small : (s : ScriptView) (p : Progress) → IsScript s → IsProgress s p → p.first + p.event + 1 ≤ 8192
index_small s p h stands =
    let q = here s p stands in
    let within = stands.phase in
    let less = first_fits s h p.phase (omega (arith, within)) in
    let is = stands.first in
    let in_q = (stands.there q.phase q.at).event in
    let most = (some_phase_at s p.phase q.phase h q.at).most_events in
    omega (arith, less, is, in_q, most)

pub event_read : (s : ScriptView) (p : Progress) (steps : List StepView) → IsProgress s p → IsSteps s steps → 0 < length steps → (t : StepView) → t ≡ slice_index_or steps (p.first + p.event) t → IsEventThere s p t.event
event_read s p steps stands is some t read q at =
    let step = step_here s p steps stands is some q at in
    let same : t ≡ step_in_phase q p.event = read ∙ get_or_from_slice_get steps (p.first + p.event) (step_in_phase q p.event) t step in
    slice_get-get_or q.events p.event Wait (stands.there q at).event ∙ ap (λ (u : StepView). Some u.event) (sym same)

pub laps_read : (s : ScriptView) (p : Progress) (steps : List StepView) → IsProgress s p → IsSteps s steps → 0 < length steps → (t : StepView) → t ≡ slice_index_or steps (p.first + p.event) t → AreLapsThere s p t.laps
laps_read s p steps stands is some t read q at =
    let step = step_here s p steps stands is some q at in
    let same : t ≡ step_in_phase q p.event = read ∙ get_or_from_slice_get steps (p.first + p.event) (step_in_phase q p.event) t step in
    ap (λ (u : StepView). u.laps) same

-- IN THE SCRIPT

pub event_of_phase : (s : ScriptView) (p : Progress) (q : PhaseView) (event : Event) → slice_get s.phases p.phase ≡ Some q → slice_get q.events p.event ≡ Some event → IsEventThere s p event
event_of_phase s p q event at there r is = subst (λ (u : PhaseView). slice_get u.events p.event ≡ Some event) (same_Some q r (sym at ∙ is)) there

pub laps_of_phase : (s : ScriptView) (p : Progress) (q : PhaseView) (laps : ℕ) → slice_get s.phases p.phase ≡ Some q → laps ≡ laps_at q p.event → AreLapsThere s p laps
laps_of_phase s p q laps at there r is = subst (λ (u : PhaseView). laps ≡ laps_at u p.event) (same_Some q r (sym at ∙ is)) there

-- OF EITHER

pub is_event : (s : ScriptView) (p : Progress) (event : Event) → IsScript s → IsProgress s p → IsEventThere s p event → IsEvent event
is_event s p event h stands there =
    let q = here s p stands in
    let is = some_phase_at s p.phase q.phase h q.at in
    let at = there q.phase q.at in
    subst IsEvent (get_or_from_slice_get q.phase.events p.event event event at) (is.events p.event event (slice_get_within q.phase.events p.event event at))

pub event_is : (s : ScriptView) (p : Progress) (event : Event) → IsScript s → IsProgress s p → is_last_round s.rounds p.round ≡ false → IsEventThere s p event → Some event ≡ event_at s (progress_place s p)
event_is s p event h stands left there =
    let q = here s p stands in
    sym (there q.phase q.at) ∙ sym (event_there s p q.phase h stands left q.at)

pub not_last : (s : ScriptView) (p : Progress) (laps : ℕ) → IsScript s → IsProgress s p → IsSome (event_at s (progress_place s p)) → AreLapsThere s p laps → laps ≡ 0 → IsNextProgress s p (record p { event = p.event + 1 })
not_last s p laps h stands more there zero =
    let q = here s p stands in
    let laps_here = there q.phase q.at in
    elim (cases_lt (p.event + 1) (length q.phase.events)) [
      | inl further ↦ behind_event s p q.phase h stands more q.at further
      | inr end ↦
          let all : laps_at q.phase p.event ≡ q.phase.count = rw (le-leb _ _ end) refl in
          let some = (some_phase_at s p.phase q.phase h q.at).some in
          absurd (omega (arith, laps_here, all, zero, some))
    ]

pub is_last : (s : ScriptView) (p : Progress) (laps : ℕ) → IsProgress s p → AreLapsThere s p laps → 0 < laps → IsLastOfLap s p laps
is_last s p laps stands there some =
    let q = here s p stands in
    let laps_here = there q.phase q.at in
    elim (cases_lt (p.event + 1) (length q.phase.events)) [
      | inl further ↦
          let none : laps_at q.phase p.event ≡ 0 = rw (lt-leb _ _ further) refl in
          absurd (omega (arith, laps_here, none, some))
      | inr end ↦
          let all : laps_at q.phase p.event ≡ q.phase.count = rw (le-leb _ _ end) refl in
          subst (λ (n : ℕ). IsLastOfLap s p n) (sym (laps_here ∙ all)) (last_of_lap s p q.phase q.at end)
    ]
