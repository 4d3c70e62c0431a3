-- A period that is given again: its tasks are sound, and the domain keeps what every domain keeps.
use Rattle.std.proofs.Common.{◌≡◌, ℕ, zero, suc, ◌+◌, ◌-◌, ◌^◌, ◌<◌, ◌≤◌, Bool, true, false, ◌&&◌, eqb, Option, Some, None, List, [], ◌∷◌, ◌++◌, length, length-append, map, get_or, refl, sym, ap, ◌∙◌, subst, arith}
use Rattle.std.proofs.lemmas.List.{length-map, get_or-map, get_or-append_right}
use Rattle.std.specs.Prelude.{All, Any, IfSome, IsSome, IsTrue, max}
use Rattle.std.proofs.lemmas.Bool.{eqb-true}
use Rattle.std.proofs.lemmas.List.Elements.{All-nil, All-cons}
use Rattle.std.proofs.lemmas.List.Folds.{Any-from_list_any}
use Rattle.task_script.specs.script.Later.{has_timer, later_reference}
use Rattle.domain_run.specs.declared.pace.Pace.{Pace}
use Rattle.domain_run.specs.declared.pace.Pace.TheVariants.{Rests, Plays, Works}
use Rattle.domain_run.specs.declared.task.Task.{Task}
use Rattle.domain_run.specs.declared.task.Condition.{Condition}
use Rattle.domain_run.specs.declared.task.Condition.TheVariants.{Ready, Throttled, Blocked, Waiting, Leaving}
use Rattle.edf_pick.specs.Places.{Places, placed}
use Rattle.domain_run.specs.Bounds.{IsNear}
use Rattle.domain_run.specs.Conditions.{is_ready, is_throttled, is_contending}
use Rattle.domain_run.specs.Domain.{Domain}
use Rattle.domain_run.specs.Jump.{asks_at}
use Rattle.domain_run.specs.Later.{later, later_condition, later_task, later_switch}
use Rattle.domain_run.specs.Shift.{paced_task, paced_all, given_again, IsResting, MayGo, AllMayGo, IsSoonAfter}
use Rattle.domain_run.specs.Sound.{IsTimed, IsSound, IsDomain, IsAdmitted, HasNoTaskTwice, IsTraced}
use Rattle.domain_run.specs.Switch.{Switch}
use Rattle.domain_run.specs.Tick.{candidates, prepared, ran_if, with_tick_begun, ticked, ticks}
use Rattle.domain_run.specs.LowTimes.{IsLowTime, HasTime}
use Rattle.domain_run.proofs.Placing.{ready_in}
use Rattle.domain_run.proofs.OpenCharging.{IsCharging, placed_is}
use Rattle.domain_run.proofs.Ticking.{AreListed, listed_of, listed_map, listed_homed, list_prepared, same_ran_if}
use Rattle.domain_run.proofs.Tracing.{AreRunning, tick_traced}

-- ---- a task that goes on is sound

pub ready_later : (k : ℕ) (c : Condition) → is_ready (later_condition k c) ≡ is_ready c
ready_later k Ready = refl
ready_later k Throttled = refl
ready_later k (Blocked u) = refl
ready_later k Waiting = refl
ready_later k Leaving = refl

pub throttled_later : (k : ℕ) (c : Condition) → is_throttled (later_condition k c) ≡ is_throttled c
throttled_later k Ready = refl
throttled_later k Throttled = refl
throttled_later k (Blocked u) = refl
throttled_later k Waiting = refl
throttled_later k Leaving = refl

pub contending_later : (k : ℕ) (c : Condition) → is_contending (later_condition k c) ≡ is_contending c
contending_later k Ready = refl
contending_later k Throttled = refl
contending_later k (Blocked u) = refl
contending_later k Waiting = refl
contending_later k Leaving = refl

some_still : (k : ℕ) (o : Option ℕ) → IsSome o → IsSome (later k o)
some_still k None h = h
some_still k (Some d) h = refl

max_later : (a b k r : ℕ) → r ≤ max a b → r + k ≤ max (a + k) (b + k)
max_later a b k r h = omega (arith, h)

reference_later : (k time : ℕ) (timed : Bool) (r : ℕ) → r ≤ time → later_reference timed k r ≤ time + k
reference_later k time true r h = omega (arith, h)
reference_later k time false r h = omega (arith, h)

blocked_later : (k time u : ℕ) (timed : Bool) (r : ℕ) → r ≤ max time u → later_reference timed k r ≤ max (time + k) (u + k)
blocked_later k time u true r h = max_later time u k r h
blocked_later k time u false r h = let more = max_later time u k r h in omega (arith, more)

timed_later : (k time : ℕ) (timed : Bool) (c : Condition) (r : ℕ) → IsTimed time c r → IsSoonAfter k c → IsTimed (time + k) (later_condition k c) (later_reference timed k r)
timed_later k time timed Ready r h soon = reference_later k time timed r h
timed_later k time timed Throttled r h soon = reference_later k time timed r h
timed_later k time timed (Blocked u) r h soon = (blocked_later k time u timed r h.0, soon)
timed_later k time timed Waiting r h soon = reference_later k time timed r h
timed_later k time timed Leaving r h soon = tt

near_later : (k time : ℕ) (o : Option ℕ) → IfSome o (IsNear time) → IfSome (later k o) (IsNear (time + k))
near_later k time None h = h
near_later k time (Some d) h = omega (arith, h)

near_still : (k time : ℕ) (o : Option ℕ) → IfSome o (IsNear time) → IfSome o (IsNear (time + k))
near_still k time None h = h
near_still k time (Some d) h = omega (arith, h)

sound_later : (k r w time : ℕ) (t : Task) → IsSound time t → IsSoonAfter k t.condition → (IsTrue (is_contending t.condition) → 0 < t.work - w) → IsSound (time + k) (later_task k r w t)
sound_later k r w time t h soon busy = record {
  served = record { near = near_later k time t.server.deadline h.served.near; low = h.served.low; high = h.served.high };
  spent = λ e. h.spent (sym (throttled_later k t.condition) ∙ e);
  lifted = λ e. h.lifted (sym (ready_later k t.condition) ∙ e);
  dated = λ e. some_still k t.server.deadline (h.dated (sym (contending_later k t.condition) ∙ e));
  busy = λ e. busy (sym (contending_later k t.condition) ∙ e);
  timed = timed_later k time (has_timer t.cursor.script) t.condition t.cursor.reference h.timed soon;
}

sound_still : (k time : ℕ) (t : Task) → IsSound time t → IsResting t → IsSound (time + k) t
sound_still k time t h is = record {
  served = record { near = near_still k time t.server.deadline h.served.near; low = h.served.low; high = h.served.high };
  spent = h.spent;
  lifted = h.lifted;
  dated = h.dated;
  busy = h.busy;
  timed = let r : t.cursor.reference ≤ time = subst (λ c. IsTimed time c t.cursor.reference) is.waits h.timed in subst (λ c. IsTimed (time + k) c t.cursor.reference) (sym is.waits) (omega (arith, r));
}

pub sound_paced : (k time : ℕ) (p : Pace) (t : Task) → IsSound time t → MayGo p t → IsSoonAfter k t.condition → IsSound (time + k) (paced_task k p t)
sound_paced k time Rests t h may soon = sound_still k time t h may
sound_paced k time (Plays r) t h may soon = sound_later k r 0 time t h soon (λ e. let some = h.busy e in omega (arith, some))
sound_paced k time (Works w) t h may soon = sound_later k 0 w time t h soon (λ e. let more = may.1 in omega (arith, more))

soon_after : (k : ℕ) (c : Condition) → k ≤ 2 ^ 42 → IfSome (asks_at c) IsLowTime → IsSoonAfter k c
soon_after k Ready most h = tt
soon_after k Throttled most h = tt
soon_after k (Blocked u) most h = omega (arith, most, h)
soon_after k Waiting most h = tt
soon_after k Leaving most h = tt

all_sound : (k time : ℕ) (ps : List Pace) (ts : List Task) → k ≤ 2 ^ 42 → length ps ≡ length ts → AllMayGo ps ts → All HasTime ts → All (IsSound time) ts → All (IsSound (time + k)) (paced_all k ps ts)
all_sound k time [] [] most same may short sound = All-nil (IsSound (time + k))
all_sound k time [] (t ∷ ts) most same may short sound = absurd (omega (arith, same))
all_sound k time (p ∷ ps) [] most same may short sound = absurd (omega (arith, same))
all_sound k time (p ∷ ps) (t ∷ ts) most same may short sound =
    All-cons (IsSound (time + k)) (paced_task k p t) (paced_all k ps ts)
    (sound_paced k time p t (sound zero t (omega arith)) may.0 (soon_after k t.condition most (short zero t (omega arith)).asks))
    (all_sound k time ps ts most (omega (arith, same)) may.1 (λ i d h. short (suc i) d (omega (arith, h))) (λ i d h. sound (suc i) d (omega (arith, h))))

-- ---- ticks keep the list, the placement and the switches, whatever the tasks

pub record IsGoing (d : Domain) : Type 0 where
  pub listed : AreListed d d.tasks
  pub wide : length d.curr ≡ d.cpus
  pub apart : HasNoTaskTwice d.curr
  pub traced : IsTraced d

abbrev is_ready_number : ℕ → Task → Bool
is_ready_number n t = eqb t.number n && is_ready t.condition

and_first : (a b : Bool) → (a && b) ≡ true → a ≡ true
and_first true b e = refl
and_first false b e = e

running_listed : (d : Domain) (tasks : List Task) (places : Places) → AreListed d tasks → IsCharging (candidates tasks) d.cpus places → AreRunning d.used places
running_listed d tasks places l is cpu n h = known (Any-from_list_any (is_ready_number n) tasks (ready_in n tasks (is.candidates.each cpu n h)))
  where
    known : Any (λ t. is_ready_number n t ≡ true) tasks → IsAdmitted d.used n
    known (k, t, within, same, test) = subst (IsAdmitted d.used) (eqb-true t.number n (and_first (eqb t.number n) (is_ready t.condition) test)) (subst (λ (u : Task). IsAdmitted d.used u.number) same (l.known k t within))

tick_going : (d : Domain) → IsGoing d → IsGoing (ticked d)
tick_going d is =
    let list = prepared d.time d.tasks in
    let places = placed d.cpus (candidates list) d.curr in
    let open_charging = placed_is d.cpus (candidates list) d.curr is.wide is.apart in
    let ready = list_prepared d is.listed in
    let e = with_tick_begun d in
    let l = listed_map d (ran_if e) e.tasks (same_ran_if e) (listed_homed d places list open_charging.wide ready) in
    record {
      listed = record { within = l.within; listed = l.listed; homes = l.homes; numbered = l.numbered; known = l.known };
      wide = open_charging.wide;
      apart = open_charging.apart;
      traced = tick_traced d list (ticked d).tasks places is.wide is.traced (running_listed d list places ready open_charging);
    }

ticks_going : (k : ℕ) (d : Domain) → IsGoing d → IsGoing (ticks k d)
ticks_going zero d is = is
ticks_going (suc k) d is = tick_going (ticks k d) (ticks_going k d is)

pub going : (k : ℕ) (d : Domain) → IsDomain d → IsGoing (ticks k d)
going k d is = ticks_going k d (record { listed = listed_of d is.steady; wide = is.steady.wide; apart = is.steady.apart; traced = is.traced })

-- ---- the domain to which a period is given again

pub again_is : (k later_by : ℕ) (paces : List Pace) (period : List Switch) (d : Domain) → IsDomain d → d.time + k ≤ 2 ^ 42 → length paces ≡ length d.tasks → AllMayGo paces d.tasks → All HasTime d.tasks
    → ticks k d ≡ given_again k paces later_by period d → IsDomain (given_again k paces later_by period d)
again_is k later_by paces period d is early same may short again =
    let g : IsGoing (given_again k paces later_by period d) = subst IsGoing again (going k d is) in
    record {
      steady = record {
        early = early;
        cpus = is.steady.cpus;
        limit = is.steady.limit;
        within = g.listed.within;
        listed = g.listed.listed;
        sound = all_sound k d.time paces d.tasks (omega (arith, early)) same may short is.steady.sound;
        homes = g.listed.homes;
        numbered = g.listed.numbered;
        known = g.listed.known;
        wide = g.wide;
        apart = g.apart;
      };
      traced = g.traced;
    }

-- the times of its switches are small
pub early_again : (k later_by : ℕ) (paces : List Pace) (period : List Switch) (d : Domain) → IsDomain d → d.time + k ≤ 2 ^ 42 → ticks k d ≡ given_again k paces later_by period d → All (λ s. s.time + later_by < 2 ^ 48) period
early_again k later_by paces period d is early again i s within =
    let g : IsGoing (given_again k paces later_by period d) = subst IsGoing again (going k d is) in
    let n = length d.switches in
    let logged = map (later_switch later_by) period in
    let many : length (d.switches ++ logged) ≡ n + length logged = length-append d.switches logged in
    let each : length logged ≡ length period = simp length-map in
    let past = (g.traced.switches (n + i) s (omega (arith, many, each, within))).past in
    let back : n + i - n ≡ i = omega arith in
    let there = get_or-append_right d.switches logged n (n + i) s refl (omega arith) ∙ ap (λ j. get_or logged j s) back ∙ get_or-map (later_switch later_by) period i s s within in
    let at = ap (λ (x : Switch). x.time) there in
    omega (arith, past, at, early)
