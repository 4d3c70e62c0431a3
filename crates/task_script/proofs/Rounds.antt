-- Counters of rounds, phases, laps and events, and the place to which they come.
use Rattle.std.proofs.Common.{Fits, w32, slice_index_or, get_or, ◌≡◌, ℕ, zero, suc, ◌+◌, ◌-◌, ◌*◌, ◌%◌, ◌^◌, ◌<◌, ◌≤◌, true, false, List, [], ◌∷◌, length, Option, Some, None, refl, sym, ap, subst, ◌∙◌, arith, inl, inr, sum_by}
use Rattle.std.specs.Prelude.{slice_get, IsSome, IfSome, MatchOption}
use Rattle.std.proofs.Math.Nat.{mod-eq_of_lt, mod_self, mul-add-mod_self_right, mod-lt, suc-mul, add-mul}
use Rattle.std.proofs.lemmas.Nat.{mul-le}
use Rattle.std.proofs.lemmas.Bool.{false≢true, cases_lt, lt-ltb, le-ltb, le-leb, leb-true, leb-false}
use Rattle.std.proofs.lemmas.Option.{slice_get_read, slice_get_within, slice_get-get_or, get_or_from_slice_get, same_Some}
use Rattle.std.proofs.lemmas.List.Sums.{sum_by-cons, sum_by-le}
use Rattle.task_script.specs.declared.progress.Progress.{Progress}
use Rattle.task_script.specs.script.ScriptView.{PhaseView, ScriptView, IsPhase, IsScript, IsPlace, IsCursor, script_of, phase_len, round_len}
use Rattle.task_script.specs.script.Unrolled.{round_of, event_at}
use Rattle.task_script.specs.script.Segments.{first_place, kept_cursor}
use Rattle.task_script.specs.private.Steps.{first_step_of}
use Rattle.task_script.proofs.StepPlaces.{next_first}
use Rattle.task_script.specs.private.Progress.{events_behind, progress_place, is_last_round, next_round, IsInPhase, IsProgress, IsLastOfLap, IsNextProgress, HasRoundsLeft}
use Rattle.task_script.proofs.Unrolling.{event_in, event_in_is, event_ends, event_by, event_by_is, some_round, place_at_first, behind_within, kept_itself}

-- IN A ROUND

-- a lap and an event of it, within all laps
in_laps : (laps len lap event : ℕ) → lap < laps → event < len → lap * len + event < laps * len
in_laps laps len lap event h k =
    let more = mul-le (suc lap) len laps len (omega (arith, h)) (omega arith) in
    let one = suc-mul lap len in
    omega arith

in_phase : (p : PhaseView) (ps : List PhaseView) (lap event : ℕ) → lap < p.count → event < length p.events → event_in (p ∷ ps) (lap * length p.events + event) ≡ slice_get p.events event
in_phase p ps lap event h k =
    let within = in_laps p.count (length p.events) lap event h k in
    rw (lt-ltb _ _ within) (ap (slice_get p.events) (mul-add-mod_self_right lap (length p.events) event ∙ mod-eq_of_lt k))

-- the counters come to the event where they stand
event_here : (phases : List PhaseView) (i lap event : ℕ) (q : PhaseView) → slice_get phases i ≡ Some q → lap < q.count → event < length q.events → event_in phases (events_behind phases i lap event) ≡ slice_get q.events event
event_here [] i lap event q at h k = absurd cc
event_here (p ∷ ps) zero lap event q at h k =
    let same : p ≡ q = cc in
    in_phase p ps lap event (subst (λ r. lap < r.count) (sym same) h) (subst (λ r. event < length r.events) (sym same) k) ∙ ap (λ r. slice_get r.events event) same
event_here (p ∷ ps) (suc i) lap event q at h k =
    let past : phase_len p ≤ phase_len p + events_behind ps i lap event = omega arith in
    let rest : phase_len p + events_behind ps i lap event - phase_len p ≡ events_behind ps i lap event = omega arith in
    rw (le-ltb _ _ past) (ap (event_in ps) rest ∙ event_here ps i lap event q at h k)

in_round : (phases : List PhaseView) (i lap event : ℕ) (q : PhaseView) → slice_get phases i ≡ Some q → lap < q.count → event < length q.events → events_behind phases i lap event < sum_by phase_len phases
in_round [] i lap event q at h k = absurd cc
in_round (p ∷ ps) zero lap event q at h k =
    let same : p ≡ q = cc in
    let within = in_laps p.count (length p.events) lap event (subst (λ r. lap < r.count) (sym same) h) (subst (λ r. event < length r.events) (sym same) k) in
    let all = sum_by-cons phase_len p ps in
    omega (arith, within, all)
in_round (p ∷ ps) (suc i) lap event q at h k =
    let within = in_round ps i lap event q at h k in
    let all = sum_by-cons phase_len p ps in
    omega (arith, within, all)

-- one event further in a lap
next_event : (phases : List PhaseView) (i lap event : ℕ) → i < length phases → events_behind phases i lap (event + 1) ≡ events_behind phases i lap event + 1
next_event [] i lap event h = absurd (omega (arith, h))
next_event (p ∷ ps) zero lap event h = omega arith
next_event (p ∷ ps) (suc i) lap event h =
    let rest = next_event ps i lap event (omega (arith, h)) in
    omega (arith, rest)

-- behind the last event of a lap
next_lap : (phases : List PhaseView) (i lap event : ℕ) (q : PhaseView) → slice_get phases i ≡ Some q → event + 1 ≡ length q.events → events_behind phases i (lap + 1) 0 ≡ events_behind phases i lap event + 1
next_lap [] i lap event q at e = absurd cc
next_lap (p ∷ ps) zero lap event q at e =
    let same : p ≡ q = cc in
    let last : event + 1 ≡ length p.events = e ∙ ap (λ r. length r.events) (sym same) in
    let one = suc-mul lap (length p.events) in
    omega (arith, last, one)
next_lap (p ∷ ps) (suc i) lap event q at e =
    let rest = next_lap ps i lap event q at e in
    omega (arith, rest)

-- behind the last lap of a phase
first_event : (phases : List PhaseView) → events_behind phases 0 0 0 ≡ 0
first_event [] = refl
first_event (p ∷ ps) = omega arith

next_phase : (phases : List PhaseView) (i lap event : ℕ) (q : PhaseView) → slice_get phases i ≡ Some q → event + 1 ≡ length q.events → lap + 1 ≡ q.count → events_behind phases (suc i) 0 0 ≡ events_behind phases i lap event + 1
next_phase [] i lap event q at e l = absurd cc
next_phase (p ∷ ps) zero lap event q at e l =
    let same : p ≡ q = cc in
    let last : event + 1 ≡ length p.events = e ∙ ap (λ r. length r.events) (sym same) in
    let laps : suc lap ≡ p.count = omega (arith, l ∙ ap (λ r. r.count) (sym same)) in
    let one = suc-mul lap (length p.events) in
    let all : suc lap * length p.events ≡ p.count * length p.events = ap (λ n. n * length p.events) laps in
    let none = first_event ps in
    omega (arith, last, one, all, none)
next_phase (p ∷ ps) (suc i) lap event q at e l =
    let rest = next_phase ps i lap event q at e l in
    omega (arith, rest)

-- behind the last phase the round is behind
all_behind : (phases : List PhaseView) → events_behind phases (length phases) 0 0 ≡ sum_by phase_len phases
all_behind [] = refl
all_behind (p ∷ ps) =
    let all = sum_by-cons phase_len p ps in
    let rest = all_behind ps in
    omega (arith, all, rest)

last_phase : (phases : List PhaseView) (i lap event : ℕ) (q : PhaseView) → slice_get phases i ≡ Some q → event + 1 ≡ length q.events → lap + 1 ≡ q.count → length phases ≤ i + 1 → events_behind phases i lap event + 1 ≡ sum_by phase_len phases
last_phase phases i lap event q at e l last =
    let within = slice_get_within phases i q at in
    let end : suc i ≡ length phases = omega (arith, within, last) in
    sym (next_phase phases i lap event q at e l) ∙ ap (λ k. events_behind phases k 0 0) end ∙ all_behind phases

-- IN ALL ROUNDS

-- a place within one round has no round behind it
no_round : (round R x : ℕ) → round * R + x < R → round ≡ 0
no_round zero R x h = refl
no_round (suc r) R x h = absurd (let one = suc-mul r R in omega (arith, one, h))

same_round : (rounds : Option ℕ) (R round x : ℕ) → MatchOption rounds (round * R + x < R) (λ n. round * R + x ≤ n * R) → x + 1 < R → first_place rounds R (round * R + x + 1) ≡ round * R + (x + 1)
same_round None R round x within h =
    let none = no_round round R x within in
    let is : round * R + x + 1 ≡ x + 1 = ap (λ k. k * R + x + 1) none ∙ omega arith in
    ap (λ k. k % R) is ∙ mod-eq_of_lt h ∙ sym is ∙ omega arith
same_round (Some n) R round x within h = omega arith

other_round : (rounds : Option ℕ) (R round x : ℕ) → MatchOption rounds (round * R + x < R) (λ n. round * R + x ≤ n * R) → x + 1 ≡ R → first_place rounds R (round * R + x + 1) ≡ next_round rounds round * R
other_round None R round x within h =
    let none = no_round round R x within in
    let is : round * R + x + 1 ≡ R = ap (λ k. k * R + x + 1) none ∙ omega (arith, h) in
    let zero_rounds : 0 ≡ round * R = omega arith ∙ ap (λ k. k * R) (sym none) in
    ap (λ k. k % R) is ∙ mod_self R ∙ zero_rounds
other_round (Some n) R round x within h =
    let one = suc-mul round R in
    let next : (round + 1) * R ≡ suc round * R = ap (λ k. k * R) (omega arith) in
    omega (arith, one, next, h)

-- the place behind an event is within the rounds, as it is kept
kept_place : (s : ScriptView) (place : ℕ) → IsScript s → IsSome (event_at s place) → IsPlace s (first_place s.rounds (round_len s) (place + 1))
kept_place s place h more = go s.rounds refl where
  go : (rounds : Option ℕ) → s.rounds ≡ rounds → MatchOption rounds (first_place rounds (round_len s) (place + 1) < round_len s) (λ n. first_place rounds (round_len s) (place + 1) ≤ n * round_len s)
  go None is = mod-lt (place + 1) (some_round s h)
  go (Some n) is = behind_within s n place is more

-- behind the last round there is none; before it, it is the event of the phase
pub none_over : (s : ScriptView) (p : Progress) → is_last_round s.rounds p.round ≡ true → event_at s (progress_place s p) ≡ None
none_over s p over = go s.rounds over where
  go : (rounds : Option ℕ) → is_last_round rounds p.round ≡ true → event_at (script_of rounds s.phases) (progress_place s p) ≡ None
  go None over = absurd cc
  go (Some n) over =
      let more = mul-le n (round_len s) p.round (round_len s) (leb-true n p.round over) (omega arith) in
      event_ends n s.phases (progress_place s p) (omega (arith, more))

in_rounds : (rounds : Option ℕ) (phases : List PhaseView) (round x : ℕ) → is_last_round rounds round ≡ false → MatchOption rounds (round * sum_by phase_len phases + x < sum_by phase_len phases) (λ n. round * sum_by phase_len phases + x ≤ n * sum_by phase_len phases) → x < sum_by phase_len phases → event_by rounds phases (round * sum_by phase_len phases + x) ≡ slice_get (round_of phases) x
in_rounds None phases round x left within less = ap (slice_get (round_of phases)) (mul-add-mod_self_right round (sum_by phase_len phases) x ∙ mod-eq_of_lt less)
in_rounds (Some n) phases round x left within less =
    let inside = in_laps n (sum_by phase_len phases) round x (leb-false n round left) less in
    rw (lt-ltb _ _ inside) (ap (slice_get (round_of phases)) (mul-add-mod_self_right round (sum_by phase_len phases) x ∙ mod-eq_of_lt less))

pub event_there : (s : ScriptView) (p : Progress) (q : PhaseView) → IsScript s → IsProgress s p → is_last_round s.rounds p.round ≡ false → slice_get s.phases p.phase ≡ Some q → event_at s (progress_place s p) ≡ slice_get q.events p.event
event_there s p q h stands left at =
    let in_q = stands.there q at in
    let less = in_round s.phases p.phase p.lap p.event q at in_q.lap in_q.event in
    event_by_is s h (progress_place s p)
    ∙ in_rounds s.rounds s.phases p.round (events_behind s.phases p.phase p.lap p.event) left (stands.kept 0).within less
    ∙ sym (event_in_is s.phases (events_behind s.phases p.phase p.lap p.event))
    ∙ event_here s.phases p.phase p.lap p.event q at in_q.lap in_q.event

-- there are at most 10^9 rounds, of at most 2^46 places
short_phase : (p : PhaseView) → IsPhase p → phase_len p ≤ 2 ^ 40
short_phase p h =
    let most = mul-le p.count (length p.events) 1000000000 64 h.most h.most_events in
    omega (arith, most)

short_round : (s : ScriptView) → IsScript s → round_len s ≤ 2 ^ 46
short_round s h =
    let all = sum_by-le phase_len (2 ^ 40) s.phases (λ i d within. short_phase (slice_index_or s.phases i d) (h.phases i d within)) in
    let most = mul-le (length s.phases) (2 ^ 40) 64 (2 ^ 40) h.most_phases (omega arith) in
    omega (arith, all, most)

short_place : (s : ScriptView) (place : ℕ) → IsScript s → IsPlace s place → place ≤ 2 ^ 80
short_place s place h within = go s.rounds h.rounds within where
  go : (rounds : Option ℕ) → IfSome rounds (λ n. (0 < n) × (n ≤ 1000000000)) → MatchOption rounds (place < round_len s) (λ n. place ≤ n * round_len s) → place ≤ 2 ^ 80
  go None few within = omega (arith, within, short_round s h)
  go (Some n) few within =
      let all = mul-le n (round_len s) 1000000000 (2 ^ 46) few.1 (short_round s h) in
      omega (arith, all, within)

-- THE COUNTERS

-- what every cursor keeps, whatever its reference
keeps : (s : ScriptView) (p : Progress) → IsScript s → IsPlace s (progress_place s p) → (reference : ℕ) → IsCursor (record { script = s; place = progress_place s p; reference = reference })
keeps s p h within reference = record { within = within; short = short_place s (progress_place s p) h within }

pub some_phase_at : (s : ScriptView) (i : ℕ) (q : PhaseView) → IsScript s → slice_get s.phases i ≡ Some q → IsPhase q
some_phase_at s i q h at = subst IsPhase (get_or_from_slice_get s.phases i q q at) (h.phases i q (slice_get_within s.phases i q at))

-- a cursor stands as it is kept
pub stands_as_kept : (s : ScriptView) (p : Progress) (reference : ℕ) → IsProgress s p → kept_cursor (record { script = s; place = progress_place s p; reference = reference }) ≡ record { script = s; place = progress_place s p; reference = reference }
stands_as_kept s p reference stands = kept_itself (record { script = s; place = progress_place s p; reference = reference }) (stands.kept reference).within

-- the phase that is read where the counters stand
pub phase_read : (s : ScriptView) (p : Progress) (phases : List PhaseView) (q : PhaseView) → IsProgress s p → phases ≡ s.phases → q ≡ slice_index_or phases p.phase q → slice_get s.phases p.phase ≡ Some q
phase_read s p phases q stands same is =
    slice_get_read s.phases (length s.phases) p.phase q refl stands.phase (is ∙ ap (λ ps. slice_index_or ps p.phase q) same)

pub laps_left : (s : ScriptView) (p : Progress) (q : PhaseView) → IsScript s → IsProgress s p → slice_get s.phases p.phase ≡ Some q → Fits w32 (p.lap + 1)
laps_left s p q h stands at =
    let in_q = stands.there q at in
    let is = some_phase_at s p.phase q h at in
    omega (arith, in_q.lap, is.most)

pub begins : (s : ScriptView) → IsScript s → IsProgress s (record { round = 0; phase = 0; first = 0; lap = 0; event = 0 }) × (progress_place s (record { round = 0; phase = 0; first = 0; lap = 0; event = 0 }) ≡ 0)
begins s h =
    let first : Progress = record { round = 0; phase = 0; first = 0; lap = 0; event = 0 } in
    let none : 0 * round_len s + events_behind s.phases 0 0 0 ≡ 0 = omega (arith, first_event s.phases) in (
      record {
        phase = h.some_phases;
        first = refl;
        there = λ q at. let p = some_phase_at s 0 q h at in record { lap = p.some; event = p.some_events };
        kept = keeps s first h (subst (IsPlace s) (sym none) (place_at_first s h));
      },
      none,
    )

-- where an event is left, the number of rounds is not reached yet
pub rounds_left : (s : ScriptView) (p : Progress) → IsScript s → IsSome (event_at s (progress_place s p)) → IfSome s.rounds (λ n. p.round < 1000000000)
rounds_left s p h more = go s.rounds h.rounds (none_over s p) where
  go : (rounds : Option ℕ) → IfSome rounds (λ n. (0 < n) × (n ≤ 1000000000)) → (is_last_round rounds p.round ≡ true → event_at s (progress_place s p) ≡ None) → IfSome rounds (λ n. p.round < 1000000000)
  go None few over = tt
  go (Some n) few over = elim (cases_lt p.round n) [
    | inl left ↦ omega (arith, left, few.1)
    | inr past ↦
        let none : event_at s (progress_place s p) ≡ None = over (le-leb n p.round past) in
        let wrong = subst IsSome none more in
        absurd cc
  ]

-- BEHIND AN EVENT

-- in the same round
within_round : (s : ScriptView) (p after : Progress) (q : PhaseView) → IsScript s → IsProgress s p → IsSome (event_at s (progress_place s p)) → after.round ≡ p.round → slice_get s.phases after.phase ≡ Some q → IsInPhase q after → after.first ≡ first_step_of s.phases after.phase
    → events_behind s.phases after.phase after.lap after.event ≡ events_behind s.phases p.phase p.lap p.event + 1 → IsNextProgress s p after
within_round s p after q h stands more same at in_q first one =
    let R = round_len s in
    let x = events_behind s.phases p.phase p.lap p.event in
    let less : x + 1 < R = subst (λ k. k < R) one (in_round s.phases after.phase after.lap after.event q at in_q.lap in_q.event) in
    let place : progress_place s after ≡ first_place s.rounds R (progress_place s p + 1) = ap (λ k. k * R + events_behind s.phases after.phase after.lap after.event) same ∙ ap (λ k. p.round * R + k) one ∙ sym (same_round s.rounds R p.round x (stands.kept 0).within less) in
    record {
      stands = record {
        phase = slice_get_within s.phases after.phase q at;
        first = first;
        there = λ r is. subst (λ (u : PhaseView). IsInPhase u after) (same_Some q r (sym at ∙ is)) in_q;
        kept = keeps s after h (subst (IsPlace s) (sym place) (kept_place s (progress_place s p) h more));
      };
      place = place;
    }

pub behind_event : (s : ScriptView) (p : Progress) (q : PhaseView) → IsScript s → IsProgress s p → IsSome (event_at s (progress_place s p)) → slice_get s.phases p.phase ≡ Some q → p.event + 1 < length q.events → IsNextProgress s p (record p { event = p.event + 1 })
behind_event s p q h stands more at further =
    within_round s p (record p { event = p.event + 1 }) q h stands more refl at (record { lap = (stands.there q at).lap; event = further }) stands.first (next_event s.phases p.phase p.lap p.event stands.phase)

pub behind_lap : (s : ScriptView) (p : Progress) (q : PhaseView) → IsScript s → IsProgress s p → IsSome (event_at s (progress_place s p)) → slice_get s.phases p.phase ≡ Some q → length q.events ≤ p.event + 1 → p.lap + 1 < q.count → IsNextProgress s p (record p { lap = p.lap + 1; event = 0 })
behind_lap s p q h stands more at end further =
    let in_q = stands.there q at in
    let last : p.event + 1 ≡ length q.events = omega (arith, in_q.event, end) in
    within_round s p (record p { lap = p.lap + 1; event = 0 }) q h stands more refl at (record { lap = further; event = (some_phase_at s p.phase q h at).some_events }) stands.first (next_lap s.phases p.phase p.lap p.event q at last)

pub behind_phase : (s : ScriptView) (p : Progress) (q : PhaseView) → IsScript s → IsProgress s p → IsSome (event_at s (progress_place s p)) → slice_get s.phases p.phase ≡ Some q → length q.events ≤ p.event + 1 → q.count ≤ p.lap + 1 → p.phase + 1 < length s.phases → IsNextProgress s p (record p { phase = p.phase + 1; first = p.first + (p.event + 1); lap = 0; event = 0 })
behind_phase s p q h stands more at end laps further =
    let in_q = stands.there q at in
    let last : p.event + 1 ≡ length q.events = omega (arith, in_q.event, end) in
    let all : p.lap + 1 ≡ q.count = omega (arith, in_q.lap, laps) in
    let r = get_or s.phases (p.phase + 1) q in
    let there : slice_get s.phases (p.phase + 1) ≡ Some r = slice_get-get_or s.phases (p.phase + 1) q further in
    let is = some_phase_at s (p.phase + 1) r h there in
    let next : p.phase + 1 ≡ suc p.phase = omega arith in
    within_round s p (record p { phase = p.phase + 1; first = p.first + (p.event + 1); lap = 0; event = 0 }) r h stands more refl there (record { lap = is.some; event = is.some_events }) (ap (λ k. k + (p.event + 1)) stands.first ∙ next_first s.phases p.phase q at p.event last)
    (ap (λ k. events_behind s.phases k 0 0) next ∙ next_phase s.phases p.phase p.lap p.event q at last all)

pub behind_round : (s : ScriptView) (p : Progress) (q : PhaseView) → IsScript s → IsProgress s p → IsSome (event_at s (progress_place s p)) → slice_get s.phases p.phase ≡ Some q → length q.events ≤ p.event + 1 → q.count ≤ p.lap + 1 → length s.phases ≤ p.phase + 1 → IsNextProgress s p (record { round = next_round s.rounds p.round; phase = 0; first = 0; lap = 0; event = 0 })
behind_round s p q h stands more at end laps phases =
    let R = round_len s in
    let x = events_behind s.phases p.phase p.lap p.event in
    let after : Progress = record { round = next_round s.rounds p.round; phase = 0; first = 0; lap = 0; event = 0 } in
    let in_q = stands.there q at in
    let last : p.event + 1 ≡ length q.events = omega (arith, in_q.event, end) in
    let all : p.lap + 1 ≡ q.count = omega (arith, in_q.lap, laps) in
    let full : x + 1 ≡ R = last_phase s.phases p.phase p.lap p.event q at last all phases in
    let none = first_event s.phases in
    let place : progress_place s after ≡ first_place s.rounds R (progress_place s p + 1) = ap (λ k. next_round s.rounds p.round * R + k) none ∙ omega arith ∙ sym (other_round s.rounds R p.round x (stands.kept 0).within full) in
    record {
      stands = record {
        phase = h.some_phases;
        first = refl;
        there = λ r is. let one = some_phase_at s 0 r h is in record { lap = one.some; event = one.some_events };
        kept = keeps s after h (subst (IsPlace s) (sym place) (kept_place s (progress_place s p) h more));
      };
      place = place;
    }

-- AT THE END OF A LAP

pub last_of_lap : (s : ScriptView) (p : Progress) (q : PhaseView) → slice_get s.phases p.phase ≡ Some q → length q.events ≤ p.event + 1 → IsLastOfLap s p q.count
last_of_lap s p q at end = record {
  last = λ r is. subst (λ (u : PhaseView). length u.events ≤ p.event + 1) (same_Some q r (sym at ∙ is)) end;
  count = λ r is. ap (λ (u : PhaseView). u.count) (sym (same_Some q r (sym at ∙ is)));
}

-- the phase where the counters stand
pub record Here (s : ScriptView) (p : Progress) : Type 0 where
  pub phase : PhaseView
  pub at : slice_get s.phases p.phase ≡ Some phase

pub here : (s : ScriptView) (p : Progress) → IsProgress s p → Here s p
here s p stands = let none : PhaseView = record { count = 0; events = [] } in record { phase = get_or s.phases p.phase none; at = slice_get-get_or s.phases p.phase none stands.phase }

pub lap_fits : (s : ScriptView) (p : Progress) → IsScript s → IsProgress s p → Fits w32 (p.lap + 1)
lap_fits s p h stands = let q = here s p stands in laps_left s p q.phase h stands q.at

pub lap_behind : (s : ScriptView) (p : Progress) (laps : ℕ) → IsScript s → IsProgress s p → IsSome (event_at s (progress_place s p)) → IsLastOfLap s p laps → p.lap + 1 < laps → IsNextProgress s p (record p { lap = p.lap + 1; event = 0 })
lap_behind s p laps h stands more last further =
    let q = here s p stands in
    let all : q.phase.count ≡ laps = last.count q.phase q.at in
    behind_lap s p q.phase h stands more q.at (last.last q.phase q.at) (omega (arith, further, all))

pub phase_behind : (s : ScriptView) (p : Progress) (laps : ℕ) → IsScript s → IsProgress s p → IsSome (event_at s (progress_place s p)) → IsLastOfLap s p laps → laps ≤ p.lap + 1 → p.phase + 1 < length s.phases → IsNextProgress s p (record p { phase = p.phase + 1; first = p.first + (p.event + 1); lap = 0; event = 0 })
phase_behind s p laps h stands more last done further =
    let q = here s p stands in
    let all : q.phase.count ≡ laps = last.count q.phase q.at in
    behind_phase s p q.phase h stands more q.at (last.last q.phase q.at) (omega (arith, done, all)) further

pub round_behind : (s : ScriptView) (p : Progress) (laps : ℕ) → IsScript s → IsProgress s p → IsSome (event_at s (progress_place s p)) → IsLastOfLap s p laps → laps ≤ p.lap + 1 → length s.phases ≤ p.phase + 1 → IsNextProgress s p (record { round = next_round s.rounds p.round; phase = 0; first = 0; lap = 0; event = 0 })
round_behind s p laps h stands more last done end =
    let q = here s p stands in
    let all : q.phase.count ≡ laps = last.count q.phase q.at in
    behind_round s p q.phase h stands more q.at (last.last q.phase q.at) (omega (arith, done, all)) end

-- COUNTED, AND ROUNDS FURTHER ON

-- what is behind in a phase comes after the phases before it
behind_in : (phases : List PhaseView) (i lap event : ℕ) (q : PhaseView) → slice_get phases i ≡ Some q → events_behind phases i lap event ≡ events_behind phases i 0 0 + (lap * length q.events + event)
behind_in [] i lap event q at = absurd cc
behind_in (p ∷ ps) zero lap event q at =
    let same : p ≡ q = cc in
    let long = ap (λ (r : PhaseView). lap * length r.events) same in
    omega (arith, long)
behind_in (p ∷ ps) (suc i) lap event q at =
    let rest = behind_in ps i lap event q at in
    omega (arith, rest)

phase_behind_it : (phases : List PhaseView) (i : ℕ) (q : PhaseView) → slice_get phases i ≡ Some q → events_behind phases (suc i) 0 0 ≡ events_behind phases i 0 0 + phase_len q
phase_behind_it [] i q at = absurd cc
phase_behind_it (p ∷ ps) zero q at =
    let same : p ≡ q = cc in
    let long = ap phase_len same in
    let none = first_event ps in
    omega (arith, long, none)
phase_behind_it (p ∷ ps) (suc i) q at =
    let rest = phase_behind_it ps i q at in
    omega (arith, rest)

-- as a walk over the phases reads them
pub none_behind : (phases : List PhaseView) → 0 ≡ events_behind phases 0 0 0
none_behind phases = sym (first_event phases)

pub one_behind : (phases : List PhaseView) (i places one : ℕ) (q : PhaseView) → i < length phases → one ≡ phase_len (slice_index_or phases i q) → places ≡ events_behind phases i 0 0 → places + one ≡ events_behind phases (i + 1) 0 0
one_behind phases i places one q within is all =
    let next = phase_behind_it phases i (slice_index_or phases i q) (slice_get-get_or phases i q within) in
    let up : i + 1 ≡ suc i = omega arith in
    let there = ap (λ k. events_behind phases k 0 0) up in
    omega (arith, next, there, is, all)

pub step_is : (s : ScriptView) (p : Progress) (q : PhaseView) → slice_get s.phases p.phase ≡ Some q → (before within : ℕ) → before ≡ events_behind s.phases p.phase 0 0 → within ≡ p.lap * length q.events + p.event → progress_place s p ≡ p.round * round_len s + (before + within)
step_is s p q at before within b w =
    let both = behind_in s.phases p.phase p.lap p.event q at in
    omega (arith, both, b, w)

pub step_within : (s : ScriptView) (p : Progress) (q : PhaseView) → IsProgress s p → slice_get s.phases p.phase ≡ Some q → (before within : ℕ) → before ≡ events_behind s.phases p.phase 0 0 → within ≡ p.lap * length q.events + p.event → before + within < round_len s
step_within s p q stands at before within b w =
    let both = behind_in s.phases p.phase p.lap p.event q at in
    let in_q = stands.there q at in
    let less = in_round s.phases p.phase p.lap p.event q at in_q.lap in_q.event in
    omega (arith, both, less, b, w)

-- so many rounds further on, the last is not passed
rounds_on : (n R round x rounds : ℕ) → 0 < R → round * R + x ≤ n * R → (0 < rounds → round * R + x + rounds * R ≤ n * R) → round + rounds ≤ n
rounds_on n R round x rounds some within left = elim (cases_lt n (round + rounds)) [
  | inl past ↦
      let more = mul-le (suc n) R (round + rounds) R (omega (arith, past)) (omega arith) in
      let up = suc-mul n R in
      let both = add-mul round rounds R in
      elim (cases_lt 0 rounds) [
        | inl any ↦ let room = left any in absurd (omega (arith, some, more, up, both, room))
        | inr none ↦
            let same : rounds * R ≡ 0 * R = ap (λ k. k * R) (omega (arith, none)) in
            absurd (omega (arith, some, more, up, both, same, within))
      ]
  | inr most ↦ omega (arith, most)
]

pub rounds_fit : (s : ScriptView) (p : Progress) (rounds : ℕ) → IsScript s → IsProgress s p → (0 < rounds → HasRoundsLeft rounds s p) → IsSome s.rounds → p.round + rounds ≤ 1000000000
rounds_fit s p rounds h stands left = go s.rounds h.rounds (stands.kept 0).within left where
  go : (o : Option ℕ) → IfSome o (λ n. (0 < n) × (n ≤ 1000000000)) → MatchOption o (progress_place s p < round_len s) (λ n. progress_place s p ≤ n * round_len s) → (0 < rounds → IfSome o (λ n. progress_place s p + rounds * round_len s ≤ n * round_len s)) → IsSome o → p.round + rounds ≤ 1000000000
  go None few within left is = absurd (false≢true is)
  go (Some n) few within left is =
      let most = rounds_on n (round_len s) p.round (events_behind s.phases p.phase p.lap p.event) rounds (some_round s h) within left in
      omega (arith, most, few.1)

pub place_further : (s : ScriptView) (p : Progress) (rounds : ℕ) → progress_place s (record p { round = p.round + rounds }) ≡ progress_place s p + rounds * round_len s
place_further s p rounds =
    let both = add-mul p.round rounds (round_len s) in
    omega (arith, both)

pub stands_further : (s : ScriptView) (p : Progress) (rounds : ℕ) → IsScript s → IsProgress s p → (0 < rounds → HasRoundsLeft rounds s p) → IsSome s.rounds → IsProgress s (record p { round = p.round + rounds })
stands_further s p rounds h stands left some =
    let place = place_further s p rounds in
    record {
      phase = stands.phase;
      first = stands.first;
      there = λ q at. let in_q = stands.there q at in record { lap = in_q.lap; event = in_q.event };
      kept = keeps s (record p { round = p.round + rounds }) h (subst (IsPlace s) (sym place) (go s.rounds (stands.kept 0).within left some));
    }
  where
    go : (o : Option ℕ) → MatchOption o (progress_place s p < round_len s) (λ n. progress_place s p ≤ n * round_len s) → (0 < rounds → IfSome o (λ n. progress_place s p + rounds * round_len s ≤ n * round_len s)) → IsSome o → MatchOption o (progress_place s p + rounds * round_len s < round_len s) (λ n. progress_place s p + rounds * round_len s ≤ n * round_len s)
    go None within left some = absurd (false≢true some)
    go (Some n) within left some = elim (cases_lt 0 rounds) [
      | inl any ↦ left any
      | inr none ↦
          let same : rounds * round_len s ≡ 0 * round_len s = ap (λ k. k * round_len s) (omega (arith, none)) in
          omega (arith, same, within)
    ]
