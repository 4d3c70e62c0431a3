-- Many periods of a run that repeats.
use Rattle.std.proofs.Common.{◌≡◌, ℕ, zero, suc, ◌+◌, ◌-◌, ◌*◌, ◌≤◌, Bool, true, false, Option, Some, None, List, [], ◌∷◌, ◌++◌, map, refl, ap, sym, subst, ◌∙◌, arith}
use Rattle.std.proofs.Math.Nat.{suc-mul, add-mul}
use Rattle.std.proofs.lemmas.List.{append-nil, append_assoc}
use Rattle.task_script.specs.script.ScriptView.{round_len}
use Rattle.domain_run.specs.declared.task.Task.{Task}
use Rattle.domain_run.specs.declared.task.Condition.{Condition}
use Rattle.domain_run.specs.declared.task.Condition.TheVariants.{Ready, Throttled, Blocked, Waiting, Leaving}
use Rattle.domain_run.specs.Switch.{Switch}
use Rattle.domain_run.specs.Domain.{Domain}
use Rattle.domain_run.specs.Passing.{without_switches, with_past}
use Rattle.domain_run.specs.Tick.{ticked, ticks}
use Rattle.domain_run.specs.Happened.{logged_by_tick, logged_by_ticks}
use Rattle.domain_run.proofs.CallerLemmas.{ticks_after, logged_by_ticks_after}
use Rattle.task_script.specs.script.Later.{has_timer, place_on, later_reference}
use Rattle.domain_run.specs.Later.{later, later_condition, later_task, later_switch, later_happened}
use Rattle.domain_run.specs.declared.pace.Pace.{Pace}
use Rattle.domain_run.specs.declared.pace.Pace.TheVariants.{Rests, Plays, Works}
use Rattle.domain_run.specs.Shift.{Shift, paced_task, shifted_task, shifted, MayShift}
use Rattle.repeat_law.specs.Shift.{MayShiftFor}
use Rattle.repeat_law.specs.Repeats.{Repeats, many_paces, many, LastsFor, switches_of, switches_again, happened_again}
use Rattle.repeat_law.proofs.Paces.{number_paced}
use Rattle.repeat_law.proofs.Dating.{IsShiftable}
use Rattle.repeat_law.proofs.Ticking.{ticks_over}
use Rattle.repeat_law.proofs.Logging.{ticks_log}
use Rattle.repeat_law.proofs.Lasting.{lasts_through}

-- ---- two shifts are one

option_twice : (a b : ℕ) (o : Option ℕ) → later b (later a o) ≡ later (a + b) o
option_twice a b None = refl
option_twice a b (Some x) = let e : x + a + b ≡ x + (a + b) = omega arith in λ i. Some (e i)

condition_twice : (a b : ℕ) (c : Condition) → later_condition b (later_condition a c) ≡ later_condition (a + b) c
condition_twice a b Ready = refl
condition_twice a b Throttled = refl
condition_twice a b (Blocked x) = let e : x + a + b ≡ x + (a + b) = omega arith in λ i. Blocked (e i)
condition_twice a b Waiting = refl
condition_twice a b Leaving = refl

reference_twice : (a b : ℕ) (timed : Bool) (r : ℕ) → later_reference timed b (later_reference timed a r) ≡ later_reference timed (a + b) r
reference_twice a b true r = omega arith
reference_twice a b false r = refl

place_twice : (rounds : Option ℕ) (r x round place : ℕ) → place_on rounds (x * round) (place_on rounds (r * round) place) ≡ place_on rounds ((r + x) * round) place
place_twice None r x round place = refl
place_twice (Some n) r x round place = let both = add-mul r x round in omega (arith, both)

task_twice : (a b r x w u : ℕ) (t : Task) → later_task b x u (later_task a r w t) ≡ later_task (a + b) (r + x) (w + u) t
task_twice a b r x w u t =
    let c = condition_twice a b t.condition in
    let z = option_twice a b t.zero_lag in
    let s = option_twice a b t.server.deadline in
    let f = reference_twice a b (has_timer t.cursor.script) t.cursor.reference in
    let p = place_twice t.cursor.script.rounds r x (round_len t.cursor.script) t.cursor.place in
    let k : t.work - w - u ≡ t.work - (w + u) = omega arith in
    λ i. record t { condition = c i; work = k i; zero_lag = z i; server = record t.server { deadline = s i }; cursor = record t.cursor { place = p i; reference = f i } }

paced_twice : (k m : ℕ) (p : Pace) (t : Task) → paced_task (m * k) (many_paces m p) (paced_task k p t) ≡ paced_task (suc m * k) (many_paces (suc m) p) t
paced_twice k m Rests t = refl
paced_twice k m (Plays r) t =
    let a : k + m * k ≡ suc m * k = omega (arith, suc-mul m k) in
    let b : r + m * r ≡ suc m * r = omega (arith, suc-mul m r) in
    task_twice k (m * k) r (m * r) 0 0 t ∙ (λ i. later_task (a i) (b i) 0 t)
paced_twice k m (Works w) t =
    let a : k + m * k ≡ suc m * k = omega (arith, suc-mul m k) in
    let b : w + m * w ≡ suc m * w = omega (arith, suc-mul m w) in
    task_twice k (m * k) 0 0 w (m * w) t ∙ (λ i. later_task (a i) 0 (b i) t)

switch_twice : (a b : ℕ) (s : Switch) → later_switch b (later_switch a s) ≡ later_switch (a + b) s
switch_twice a b s = let x : s.time + a + b ≡ s.time + (a + b) = omega arith in λ i. record s { time = x i }

module _ (s : Shift) (m : ℕ) where
  one_twice : (t : Task) → shifted_task (many m s) (shifted_task s t) ≡ shifted_task (many (suc m) s) t
  one_twice t =
      let u = shifted_task s t in
      let n = number_paced s.micros (s.pace t.number) t in
      (λ i. paced_task (m * s.micros) (many_paces m (s.pace (n i))) u)
      ∙ paced_twice s.micros m (s.pace t.number) t

  all_twice : (ts : List Task) → map (shifted_task (many m s)) (map (shifted_task s) ts) ≡ map (shifted_task (many (suc m) s)) ts
  all_twice [] = refl
  all_twice (t ∷ ts) = let x = one_twice t in let y = all_twice ts in λ i. x i ∷ y i

  bare_twice : (d : Domain) → without_switches (shifted (many m s) (shifted s d)) ≡ without_switches (shifted (many (suc m) s) d)
  bare_twice d =
      let e = suc-mul m s.micros in
      let time : d.time + s.micros + m * s.micros ≡ d.time + suc m * s.micros = omega (arith, e) in
      let tasks = all_twice d.tasks in
      λ i. record d { time = time i; tasks = tasks i; switches = [] }

-- ---- no shift

option_zero : (o : Option ℕ) → later 0 o ≡ o
option_zero None = refl
option_zero (Some x) = let e : x + 0 ≡ x = omega arith in λ i. Some (e i)

condition_zero : (c : Condition) → later_condition 0 c ≡ c
condition_zero Ready = refl
condition_zero Throttled = refl
condition_zero (Blocked x) = let e : x + 0 ≡ x = omega arith in λ i. Blocked (e i)
condition_zero Waiting = refl
condition_zero Leaving = refl

reference_zero : (timed : Bool) (r : ℕ) → later_reference timed 0 r ≡ r
reference_zero true r = omega arith
reference_zero false r = refl

place_zero : (rounds : Option ℕ) (round place : ℕ) → place_on rounds (0 * round) place ≡ place
place_zero None round place = refl
place_zero (Some n) round place = omega arith

task_zero : (t : Task) → later_task 0 0 0 t ≡ t
task_zero t =
    let c = condition_zero t.condition in
    let z = option_zero t.zero_lag in
    let s = option_zero t.server.deadline in
    let f = reference_zero (has_timer t.cursor.script) t.cursor.reference in
    let p = place_zero t.cursor.script.rounds (round_len t.cursor.script) t.cursor.place in
    let k : t.work - 0 ≡ t.work = omega arith in
    λ i. record t { condition = c i; work = k i; zero_lag = z i; server = record t.server { deadline = s i }; cursor = record t.cursor { place = p i; reference = f i } }

paced_zero : (k : ℕ) (p : Pace) (t : Task) → paced_task (0 * k) (many_paces 0 p) t ≡ t
paced_zero k Rests t = refl
paced_zero k (Plays r) t =
    let a : 0 * k ≡ 0 = omega arith in
    let b : 0 * r ≡ 0 = omega arith in
    (λ i. later_task (a i) (b i) 0 t) ∙ task_zero t
paced_zero k (Works w) t =
    let a : 0 * k ≡ 0 = omega arith in
    let b : 0 * w ≡ 0 = omega arith in
    (λ i. later_task (a i) 0 (b i) t) ∙ task_zero t

module _ (s : Shift) where
  all_zero : (ts : List Task) → map (shifted_task (many 0 s)) ts ≡ ts
  all_zero [] = refl
  all_zero (t ∷ ts) = let a = paced_zero s.micros (s.pace t.number) t in let b = all_zero ts in λ i. a i ∷ b i

  bare_zero : (d : Domain) → without_switches d ≡ without_switches (shifted (many 0 s) d)
  bare_zero d =
      let time : d.time + 0 * s.micros ≡ d.time = omega arith in
      let tasks = all_zero d.tasks in
      sym (λ i. record d { time = time i; tasks = tasks i; switches = [] })

-- ---- the switches so far are not read

whole : (d : Domain) → with_past d.switches (without_switches d) ≡ d
whole d = ap (λ s. record d { switches = s }) (append-nil d.switches)

-- ticks go on from what is there without the switches
ticks_bare : (n : ℕ) (d : Domain) → ticks n d ≡ with_past d.switches (ticks n (without_switches d))
ticks_bare n d = sym (ap (λ e. ticks n e) (whole d)) ∙ ticks_after n d.switches (without_switches d)

bare_ticks : (n : ℕ) (d : Domain) → without_switches (ticks n d) ≡ without_switches (ticks n (without_switches d))
bare_ticks n d = ap (λ (e : Domain). without_switches e) (ticks_bare n d)

ticks_add : (a b : ℕ) (d : Domain) → ticks b (ticks a d) ≡ ticks (a + b) d
ticks_add a zero d = let e : a ≡ a + 0 = omega arith in ap (λ n. ticks n d) e
ticks_add a (suc b) d = let e : suc (a + b) ≡ a + suc b = omega arith in ap (λ x. ticked x) (ticks_add a b d) ∙ ap (λ n. ticks n d) e

shiftable_bare : (d : Domain) → IsShiftable d → IsShiftable (without_switches d)
shiftable_bare d is = record { dated = is.dated; numbered = is.numbered; wide = is.wide; apart = is.apart }

may_bare : (s : Shift) (n : ℕ) (d : Domain) → MayShiftFor s n d → MayShiftFor s n (without_switches d)
may_bare s n d h = λ i within. subst (λ (e : Domain). MayShift s e.tasks) (ticks_bare i d) (h i within)

logged_bare : (n : ℕ) (d : Domain) → logged_by_ticks n d ≡ logged_by_ticks n (without_switches d)
logged_bare n d = sym (ap (λ e. logged_by_ticks n e) (whole d)) ∙ logged_by_ticks_after n d.switches (without_switches d)

logged_add : (a b : ℕ) (d : Domain) → logged_by_ticks a d ++ logged_by_ticks b (ticks a d) ≡ logged_by_ticks (a + b) d
logged_add a zero d = let e : a ≡ a + 0 = omega arith in append-nil (logged_by_ticks a d) ∙ ap (λ n. logged_by_ticks n d) e
logged_add a (suc b) d =
    let e : suc (a + b) ≡ a + suc b = omega arith in
    let more = logged_add a b d in
    let there = ticks_add a b d in
    sym (append_assoc (logged_by_ticks a d) (logged_by_ticks b (ticks a d)) (logged_by_tick (ticks b (ticks a d))))
    ∙ (λ i. more i ++ logged_by_tick (there i))
    ∙ ap (λ n. logged_by_ticks n d) e

-- ---- from a state that has come again, shifted

module _ (s : Shift) (n : ℕ) (d e : Domain) (is : IsShiftable d) (may : MayShiftFor s n d) (same : without_switches e ≡ without_switches (shifted s d)) where
  pub from_there : ticks n e ≡ with_past e.switches (shifted s (ticks n (without_switches d)))
  from_there =
      ticks_bare n e
      ∙ ap (λ x. with_past e.switches (ticks n x)) same
      ∙ ap (with_past e.switches) (ticks_over s n (without_switches d) (shiftable_bare d is) (may_bare s n d may))

  pub logged_there : logged_by_ticks n e ≡ map (later_happened s.micros) (logged_by_ticks n d)
  logged_there =
      logged_bare n e
      ∙ ap (λ x. logged_by_ticks n x) same
      ∙ ticks_log s n (without_switches d) (shiftable_bare d is) (may_bare s n d may)
      ∙ ap (map (later_happened s.micros)) (sym (logged_bare n d))

-- ---- period by period

module _ (s : Shift) (d : Domain) (is : IsShiftable d) (once : Repeats s d) where
  through : (m n : ℕ) → LastsFor (suc m) s d → n ≤ s.micros → MayShiftFor (many m s) n d
  through m n lasts within = lasts_through s m d is once lasts n within

  fewer : (m : ℕ) → LastsFor (suc m) s d → LastsFor m s d
  fewer m lasts = through m 0 lasts (omega arith) 0 (omega arith)

  pub repeats : (m : ℕ) → LastsFor m s d → without_switches (ticks (m * s.micros) d) ≡ without_switches (shifted (many m s) d)
  repeats zero lasts = let e : 0 ≡ zero * s.micros = omega arith in ap (λ n. without_switches (ticks n d)) (sym e) ∙ bare_zero s d
  repeats (suc m) lasts =
      let k = s.micros in
      let e : m * k + k ≡ suc m * k = omega (arith, suc-mul m k) in
      let next = from_there (many m s) k d (ticks (m * k) d) is (through m k lasts (omega arith)) (repeats m (fewer m lasts)) in
      ap (λ n. without_switches (ticks n d)) (sym e)
      ∙ ap (λ x. without_switches x) (sym (ticks_add (m * k) k d))
      ∙ ap (λ x. without_switches x) next
      ∙ ap (λ x. without_switches (shifted (many m s) x)) (sym (bare_ticks k d) ∙ once.again)
      ∙ bare_twice s m d

  pub after : (m n : ℕ) → LastsFor m s d → MayShiftFor (many m s) n d → ticks n (ticks (m * s.micros) d) ≡ with_past (ticks (m * s.micros) d).switches (shifted (many m s) (ticks n (without_switches d)))
  after m n lasts may = from_there (many m s) n d (ticks (m * s.micros) d) is may (repeats m lasts)

  pub after_logs : (m n : ℕ) → LastsFor m s d → MayShiftFor (many m s) n d → logged_by_ticks n (ticks (m * s.micros) d) ≡ map (later_happened (m * s.micros)) (logged_by_ticks n d)
  after_logs m n lasts may = logged_there (many m s) n d (ticks (m * s.micros) d) is may (repeats m lasts)

  pub gives_again : (m : ℕ) → LastsFor m s d → (ticks (m * s.micros) d).switches ≡ d.switches ++ switches_again s.micros m (switches_of s.micros d)
  gives_again zero lasts = let e : zero * s.micros ≡ 0 = omega arith in ap (λ n. (ticks n d).switches) e ∙ sym (append-nil d.switches)
  gives_again (suc m) lasts =
      let k = s.micros in
      let e : m * k + k ≡ suc m * k = omega (arith, suc-mul m k) in
      let new = map (later_switch (m * k)) (switches_of k d) in
      let before = fewer m lasts in
      ap (λ n. (ticks n d).switches) (sym e)
      ∙ ap (λ (x : Domain). x.switches) (sym (ticks_add (m * k) k d) ∙ after m k before (through m k lasts (omega arith)))
      ∙ ap (λ ss. ss ++ new) (gives_again m before)
      ∙ append_assoc d.switches (switches_again k m (switches_of k d)) new

  pub logs_again : (m : ℕ) → LastsFor m s d → logged_by_ticks (m * s.micros) d ≡ happened_again s.micros m (logged_by_ticks s.micros d)
  logs_again zero lasts = let e : zero * s.micros ≡ 0 = omega arith in ap (λ n. logged_by_ticks n d) e
  logs_again (suc m) lasts =
      let k = s.micros in
      let e : m * k + k ≡ suc m * k = omega (arith, suc-mul m k) in
      let so_far = fewer m lasts in
      let before = logs_again m so_far in
      let next = after_logs m k so_far (through m k lasts (omega arith)) in
      ap (λ n. logged_by_ticks n d) (sym e)
      ∙ sym (logged_add (m * k) k d)
      ∙ (λ i. before i ++ next i)
