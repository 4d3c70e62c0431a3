-- The events of a finite script, some rounds further on.
use Rattle.std.proofs.Common.{◌≡◌, ℕ, zero, suc, ◌+◌, ◌-◌, ◌*◌, ◌%◌, ◌<◌, ◌≤◌, List, [], ◌∷◌, ◌++◌, length, Option, Some, None, refl, sym, ap, subst, ◌∙◌, arith, inl, inr, length-append, sum_by}
use Rattle.std.specs.Prelude.{slice_get, IsSome, is_some, IfSome}
use Rattle.std.specs.List.{repeat}
use Rattle.std.proofs.Math.Nat.{mod-eq_of_lt, add-mod_left, suc-mul, add-mul-mod_self_right}
use Rattle.std.proofs.lemmas.Bool.{cases_lt}
use Rattle.std.proofs.lemmas.Option.{slice_get_past}
use Rattle.std.proofs.lemmas.List.Sums.{sum_by-cons}
use Rattle.task_script.specs.declared.phase.Event.{Event}
use Rattle.task_script.specs.script.ScriptView.{PhaseView, ScriptView, script_of, phase_len, round_len}
use Rattle.task_script.specs.script.Unrolled.{round_of, event_at}
use Rattle.task_script.specs.script.Later.{place_on}

-- ---- a list that is repeated

get_left : (xs ys : List Event) (i : ℕ) → i < length xs → slice_get (xs ++ ys) i ≡ slice_get xs i
get_left [] ys i h = absurd (omega (arith, h))
get_left (x ∷ xs) ys zero h = refl
get_left (x ∷ xs) ys (suc i) h = get_left xs ys i (omega (arith, h))

get_right : (xs ys : List Event) (i : ℕ) → length xs ≤ i → slice_get (xs ++ ys) i ≡ slice_get ys (i - length xs)
get_right [] ys i h = ap (slice_get ys) (omega arith)
get_right (x ∷ xs) ys zero h = absurd (omega (arith, h))
get_right (x ∷ xs) ys (suc i) h = get_right xs ys i (omega (arith, h)) ∙ ap (slice_get ys) (omega arith)

length_repeat : (n : ℕ) (xs : List Event) → length (repeat n xs) ≡ n * length xs
length_repeat zero xs = omega arith
length_repeat (suc n) xs =
    let both = length-append xs (repeat n xs) in
    let rest = length_repeat n xs in
    let times = suc-mul n (length xs) in
    omega arith

get_repeat : (n : ℕ) (xs : List Event) (i : ℕ) → i < n * length xs → slice_get (repeat n xs) i ≡ slice_get xs (i % length xs)
get_repeat zero xs i h = absurd (omega (arith, h))
get_repeat (suc n) xs i h = elim (cases_lt i (length xs)) [
  | inl first ↦ get_left xs (repeat n xs) i first ∙ ap (slice_get xs) (sym (mod-eq_of_lt first))
  | inr after ↦
      let rest : i - length xs < n * length xs = omega (arith, suc-mul n (length xs), h) in
      let back : length xs + (i - length xs) ≡ i = omega arith in
      get_right xs (repeat n xs) i after ∙ get_repeat n xs (i - length xs) rest ∙ ap (slice_get xs) (sym (add-mod_left (length xs) (i - length xs)) ∙ ap (λ k. k % length xs) back)
]

length_round : (phases : List PhaseView) → length (round_of phases) ≡ sum_by phase_len phases
length_round [] = refl
length_round (p ∷ ps) =
    let all = length-append (repeat p.count p.events) (round_of ps) in
    let one = length_repeat p.count p.events in
    let rest = length_round ps in
    let sum = sum_by-cons phase_len p ps in
    all ∙ ap (λ n. n + length (round_of ps)) one ∙ ap (λ n. p.count * length p.events + n) rest ∙ sym sum

-- ---- some rounds further on comes the same event, or none both times

repeat_on : (n : ℕ) (xs : List Event) (r i : ℕ) → i + r * length xs < n * length xs → slice_get (repeat n xs) (i + r * length xs) ≡ slice_get (repeat n xs) i
repeat_on n xs r i h =
    let within : i < n * length xs = omega (arith, h) in
    get_repeat n xs (i + r * length xs) h
    ∙ ap (slice_get xs) (add-mul-mod_self_right i r (length xs))
    ∙ sym (get_repeat n xs i within)

none_both : (n : ℕ) (xs : List Event) (r i : ℕ) → n * length xs ≤ i + r * length xs → (o : Option Event) → slice_get (repeat n xs) i ≡ o → (IsSome (slice_get (repeat n xs) i) → i + 1 + r * length xs ≤ n * length xs) → slice_get (repeat n xs) i ≡ None
none_both n xs r i past None e fits = e
none_both n xs r i past (Some x) e fits = let more = fits (ap (λ o. is_some o) e) in absurd (omega (arith, past, more))

finite_on : (n : ℕ) (xs : List Event) (r i : ℕ) → (IsSome (slice_get (repeat n xs) i) → 0 < r → i + 1 + r * length xs ≤ n * length xs) → slice_get (repeat n xs) (i + r * length xs) ≡ slice_get (repeat n xs) i
finite_on n xs zero i fits = let e : i + 0 * length xs ≡ i = omega arith in ap (slice_get (repeat n xs)) e
finite_on n xs (suc r) i fits = elim (cases_lt (i + suc r * length xs) (n * length xs)) [
  | inl within ↦ repeat_on n xs (suc r) i within
  | inr past ↦
      let long = length_repeat n xs in
      let some : 0 < suc r = omega arith in
      slice_get_past (repeat n xs) (i + suc r * length xs) (omega (arith, long, past))
      ∙ sym (none_both n xs (suc r) i past (slice_get (repeat n xs) i) refl (λ is. fits is some))
]

pub event_on : (s : ScriptView) (r place : ℕ) → (IsSome (event_at s place) → 0 < r → IfSome s.rounds (λ n. place + 1 + r * round_len s ≤ n * round_len s)) → event_at s (place_on s.rounds (r * round_len s) place) ≡ event_at s place
event_on s r place fits = go s.rounds s.phases fits where
  go : (rounds : Option ℕ) (phases : List PhaseView) → (IsSome (event_at (script_of rounds phases) place) → 0 < r → IfSome rounds (λ n. place + 1 + r * sum_by phase_len phases ≤ n * sum_by phase_len phases)) → event_at (script_of rounds phases) (place_on rounds (r * sum_by phase_len phases) place) ≡ event_at (script_of rounds phases) place
  go None phases fits = refl
  go (Some n) phases fits =
      let round = round_of phases in
      subst (λ l. (IsSome (slice_get (repeat n round) place) → 0 < r → place + 1 + r * l ≤ n * l) → slice_get (repeat n round) (place + r * l) ≡ slice_get (repeat n round) place) (length_round phases) (finite_on n round r place) fits

-- after a place comes the next, some rounds further on too
pub next_on : (rounds : Option ℕ) (places place : ℕ) → place_on rounds places place + 1 ≡ place_on rounds places (place + 1)
next_on None places place = refl
next_on (Some n) places place = omega arith
