-- No rule reads the switches: with more before them, each step does the same.
use Rattle.std.proofs.Common.{◌≡◌, ℕ, zero, suc, ◌+◌, ◌<◌, Bool, true, false, List, [], ◌∷◌, ◌++◌, length, drop, refl, ap, ◌∙◌, arith}
use Rattle.std.proofs.lemmas.List.{append_assoc, append-nil, get_or-drop, length-drop}
use Rattle.std.proofs.lemmas.List.Elements.{All-nil, All-drop}
use Rattle.std.specs.Prelude.{if◌then◌else◌, AllPairs, IsTrue}
use Rattle.domain_run.specs.Switch.{Switch}
use Rattle.domain_run.specs.declared.call.Call.{Call}
use Rattle.domain_run.specs.declared.call.Call.TheVariants.{Admit, Regrade, Wake, Leave, Advance, Limit, Depart, Arrive}
use Rattle.domain_run.specs.Domain.{Domain}
use Rattle.domain_run.specs.Passing.{with_past, without_front, without_switches}
use Rattle.domain_run.specs.Sound.{IsDomain, IsSwitch}
use Rattle.domain_run.specs.Switches.{switches_from, is_switch_before}
use Rattle.domain_run.specs.Tick.{candidates, prepared, with_tick_begun, finished, ticked, ticks}
use Rattle.domain_run.specs.Calls.{reply_to, is_refusal, after_granted, after_call}
use Rattle.domain_run.specs.Run.{after_calls}
use Rattle.domain_run.specs.Happened.{logged_by_tick, logged_by_ticks}
use Rattle.edf_pick.specs.Places.{placed}

-- those of the tick that begins
abbrev of_tick : Domain → List Switch
of_tick d = switches_from d.time (prepared d.time d.tasks) 0 d.curr (placed d.cpus (candidates (prepared d.time d.tasks)) d.curr)

pub begun_after : (past : List Switch) (d : Domain) → with_tick_begun (with_past past d) ≡ with_past past (with_tick_begun d)
begun_after past d = ap (λ s. record (with_tick_begun d) { switches = s }) (append_assoc past d.switches (of_tick d))

pub ticked_after : (past : List Switch) (d : Domain) → ticked (with_past past d) ≡ with_past past (ticked d)
ticked_after past d = ap finished (begun_after past d)

pub ticks_after : (n : ℕ) (past : List Switch) (d : Domain) → ticks n (with_past past d) ≡ with_past past (ticks n d)
ticks_after zero past d = refl
ticks_after (suc n) past d = ap ticked (ticks_after n past d) ∙ ticked_after past (ticks n d)

chosen : (b : Bool) (past : List Switch) (d e : Domain) → (if b then with_past past d else with_past past e) ≡ with_past past (if b then d else e)
chosen true past d e = refl
chosen false past d e = refl

-- a call
pub after_call_after : (past : List Switch) (d : Domain) (c : Call) → after_call (with_past past d) c ≡ with_past past (after_call d c)
after_call_after past d (Admit number name params delay script) =
    chosen (is_refusal (reply_to d (Admit number name params delay script))) past d (after_granted d (Admit number name params delay script))
after_call_after past d (Regrade number params word) =
    chosen (is_refusal (reply_to d (Regrade number params word))) past d (after_granted d (Regrade number params word))
after_call_after past d (Wake number) =
    chosen (is_refusal (reply_to d (Wake number))) past d (after_granted d (Wake number))
after_call_after past d (Leave number) =
    chosen (is_refusal (reply_to d (Leave number))) past d (after_granted d (Leave number))
after_call_after past d (Advance n) = ticks_after n past d
after_call_after past d (Limit limit word) =
    chosen (is_refusal (reply_to d (Limit limit word))) past d (after_granted d (Limit limit word))
after_call_after past d (Depart number) =
    chosen (is_refusal (reply_to d (Depart number))) past d (after_granted d (Depart number))
after_call_after past d (Arrive number name params script) =
    chosen (is_refusal (reply_to d (Arrive number name params script))) past d (after_granted d (Arrive number name params script))

-- a run
pub after_calls_after : (past : List Switch) (d : Domain) (cs : List Call) → after_calls (with_past past d) cs ≡ with_past past (after_calls d cs)
after_calls_after past d [] = refl
after_calls_after past d (c ∷ cs) = ap (λ (e : Domain). after_calls e cs) (after_call_after past d c) ∙ after_calls_after past (after_call d c) cs

-- and what is logged
pub logged_by_tick_after : (past : List Switch) (d : Domain) → logged_by_tick (with_past past d) ≡ logged_by_tick d
logged_by_tick_after past d = refl

pub logged_by_ticks_after : (n : ℕ) (past : List Switch) (d : Domain) → logged_by_ticks n (with_past past d) ≡ logged_by_ticks n d
logged_by_ticks_after zero past d = refl
logged_by_ticks_after (suc n) past d =
    ap (λ e. logged_by_ticks n (with_past past d) ++ logged_by_tick e) (ticks_after n past d)
    ∙ ap (λ logged. logged ++ logged_by_tick (ticks n d)) (logged_by_ticks_after n past d)

-- what every domain keeps, it keeps without its switches
pub forgets_keeps : (d : Domain) → IsDomain d → IsDomain (without_switches d)
forgets_keeps d is = record {
  steady = record {
    early = is.steady.early;
    cpus = is.steady.cpus;
    limit = is.steady.limit;
    within = is.steady.within;
    listed = is.steady.listed;
    sound = is.steady.sound;
    homes = is.steady.homes;
    numbered = is.steady.numbered;
    known = is.steady.known;
    wide = is.steady.wide;
    apart = is.steady.apart;
  };
  traced = record {
    switches = All-nil _;
    rising = λ i j d a b. absurd (omega arith);
    on_cpu = is.traced.on_cpu;
  };
}

-- after what was passed on, a domain without its switches is as it was
pub passed_after : (past : List Switch) (d : Domain) → with_past (past ++ d.switches) (without_switches d) ≡ with_past past d
passed_after past d = ap (λ s. record d { switches = s }) (append-nil (past ++ d.switches))

pairs_after : {X : Type 0} (R : X → X → Type 0) (n : ℕ) (xs : List X) → AllPairs R xs → AllPairs R (drop n xs)
pairs_after R n xs all i j d less within = rw (get_or-drop n xs i d, get_or-drop n xs j d) (all (n + i) (n + j) d (omega (arith, less)) (omega (arith, length-drop n xs, within)))

-- and without the first ones
pub front_keeps : (count : ℕ) (d : Domain) → IsDomain d → IsDomain (without_front count d)
front_keeps count d is = record {
  steady = record {
    early = is.steady.early;
    cpus = is.steady.cpus;
    limit = is.steady.limit;
    within = is.steady.within;
    listed = is.steady.listed;
    sound = is.steady.sound;
    homes = is.steady.homes;
    numbered = is.steady.numbered;
    known = is.steady.known;
    wide = is.steady.wide;
    apart = is.steady.apart;
  };
  traced = record {
    switches = All-drop (IsSwitch d.cpus d.time d.used) count d.switches is.traced.switches;
    rising = pairs_after (λ a b. IsTrue (is_switch_before a b)) count d.switches is.traced.rising;
    on_cpu = is.traced.on_cpu;
  };
}
