-- A RUN THAT REPEATS: after a period the domain is what it was, shifted. Then any number of periods
-- are the first one, given again (own).
use Rattle.std.specs.Prelude.{ℕ, zero, suc, ◌≡◌, ◌*◌, ◌≤◌, ◌<◌, Bool, List, [], ◌++◌, map, count_by, All}
use Rattle.domain_run.specs.declared.task.Task.{Task}
use Rattle.domain_run.specs.declared.happened.Happened.{Happened}
use Rattle.domain_run.specs.Switch.{Switch}
use Rattle.domain_run.specs.Domain.{Domain}
use Rattle.domain_run.specs.Passing.{without_switches, with_past}
use Rattle.domain_run.specs.Sound.{IsDomain}
use Rattle.domain_run.specs.Happened.{logged_by_ticks}
use Rattle.domain_run.specs.Tick.{ticks}
use Rattle.domain_run.specs.Later.{later_switch, later_happened}
use Rattle.domain_run.specs.declared.pace.Pace.{Pace}
use Rattle.domain_run.specs.declared.pace.Pace.TheVariants.{Rests, Plays, Works}
use Rattle.domain_run.specs.Shift.{Shift, shifted, MayShift}
use Rattle.repeat_law.specs.Shift.{MayShiftFor, NeedsNothing}

-- work that is to last through a period is longer than the period, so it does not end in it
abbrev pub Outlasts : ℕ → Pace → Task → Type 0
Outlasts k Rests t = Unit {0}
Outlasts k (Plays rounds) t = Unit {0}
Outlasts k (Works micros) t = k < t.work

-- A REPEAT, which two states of the domain decide: all but the switches so far is equal, field by
-- field, to what the shift makes of the first
pub record Repeats (s : Shift) (d : Domain) : Type 0 where
  pub again : without_switches (ticks s.micros d) ≡ without_switches (shifted s d)
  pub long : All (λ t. Outlasts s.micros (s.pace t.number) t) d.tasks

-- MANY PERIODS
abbrev pub many_paces : ℕ → Pace → Pace
many_paces m Rests = Rests
many_paces m (Plays rounds) = Plays (m * rounds)
many_paces m (Works micros) = Works (m * micros)

abbrev pub many : ℕ → Shift → Shift
many m s = record { micros = m * s.micros; pace = λ number. many_paces m (s.pace number) }

-- at the beginning there are rounds and work left for m periods
abbrev pub LastsFor : ℕ → Shift → Domain → Type 0
LastsFor m s d = MayShift (many m s) d.tasks

-- the switches of a number of ticks
abbrev pub switches_of : ℕ → Domain → List Switch
switches_of n d = (ticks n (without_switches d)).switches

-- the switches of a period, m times, each time a period later
abbrev pub switches_again : ℕ → ℕ → List Switch → List Switch
switches_again k zero logged = []
switches_again k (suc m) logged = switches_again k m logged ++ map (later_switch (m * k)) logged

-- and what happened in it
abbrev pub happened_again : ℕ → ℕ → List Happened → List Happened
happened_again k zero logged = []
happened_again k (suc m) logged = happened_again k m logged ++ map (later_happened (m * k)) logged

-- THE LAWS. After m periods the domain is what it was, shifted m times
abbrev pub RepeatsLaw : Type 0
RepeatsLaw = (s : Shift) (m : ℕ) (d : Domain) → IsDomain d → Repeats s d → LastsFor m s d
    → without_switches (ticks (m * s.micros) d) ≡ without_switches (shifted (many m s) d)

-- the switches of m periods are those of the first, m times
abbrev pub SwitchesLaw : Type 0
SwitchesLaw = (s : Shift) (m : ℕ) (d : Domain) → IsDomain d → Repeats s d → LastsFor m s d
    → (ticks (m * s.micros) d).switches
    ≡ d.switches ++ switches_again s.micros m (switches_of s.micros d)

-- and so is what happens
abbrev pub LogsLaw : Type 0
LogsLaw = (s : Shift) (m : ℕ) (d : Domain) → IsDomain d → Repeats s d → LastsFor m s d
    → logged_by_ticks (m * s.micros) d ≡ happened_again s.micros m (logged_by_ticks s.micros d)

-- n more ticks do what the first n ticks did, as long as rounds and work last
abbrev pub AfterLaw : Type 0
AfterLaw = (s : Shift) (m n : ℕ) (d : Domain) → IsDomain d → Repeats s d → LastsFor m s d
    → MayShiftFor (many m s) n d
    → ticks n (ticks (m * s.micros) d)
    ≡ with_past (ticks (m * s.micros) d).switches
    (shifted (many m s) (ticks n (without_switches d)))

abbrev pub AfterLogsLaw : Type 0
AfterLogsLaw = (s : Shift) (m n : ℕ) (d : Domain) → IsDomain d → Repeats s d → LastsFor m s d
    → MayShiftFor (many m s) n d
    → logged_by_ticks n (ticks (m * s.micros) d)
    ≡ map (later_happened (m * s.micros)) (logged_by_ticks n d)

-- they do last through a part of the next period, if they last for all of it
abbrev pub LastsLaw : Type 0
LastsLaw = (s : Shift) (m n : ℕ) (d : Domain) → IsDomain d → Repeats s d → LastsFor (suc m) s d
    → n ≤ s.micros → MayShiftFor (many m s) n d

-- and for ever, if no task needs rounds or work
abbrev pub AlwaysLaw : Type 0
AlwaysLaw = (s : Shift) (m n : ℕ) (d : Domain) → IsDomain d
    → ((number : ℕ) → NeedsNothing (s.pace number)) → LastsFor m s d → MayShiftFor (many m s) n d

-- FIGURES. What is counted of a period, whenever it is, is m times as much of m periods
abbrev pub CountLaw : Type 0
CountLaw = (counts : Happened → Bool) (k m : ℕ) (logged : List Happened)
    → ((later_by : ℕ) (h : Happened) → counts (later_happened later_by h) ≡ counts h)
    → count_by counts (happened_again k m logged) ≡ m * count_by counts logged

abbrev pub CountSwitchesLaw : Type 0
CountSwitchesLaw = (counts : Switch → Bool) (k m : ℕ) (logged : List Switch)
    → ((later_by : ℕ) (s : Switch) → counts (later_switch later_by s) ≡ counts s)
    → count_by counts (switches_again k m logged) ≡ m * count_by counts logged
