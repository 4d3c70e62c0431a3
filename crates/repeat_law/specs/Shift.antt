-- A SHIFTED DOMAIN does what the domain does, later (own).
use Rattle.std.specs.Prelude.{ℕ, ◌≡◌, ◌+◌, ◌≤◌, map, All}
use Rattle.domain_run.specs.declared.pace.Pace.{Pace}
use Rattle.domain_run.specs.declared.pace.Pace.TheVariants.{Rests, Plays, Works}
use Rattle.domain_run.specs.Bounds.{IsEarly}
use Rattle.domain_run.specs.Domain.{Domain}
use Rattle.domain_run.specs.Happened.{logged_by_ticks}
use Rattle.domain_run.specs.Later.{later_happened}
use Rattle.domain_run.specs.Shift.{Shift, shifted, just_later, MayShift, IsSoonAfter}
use Rattle.domain_run.specs.Sound.{IsDomain}
use Rattle.domain_run.specs.Tick.{ticks}

-- THE PREMISE. The tasks may go at their pace at the beginning of each of n ticks, and at the end
abbrev pub MayShiftFor : Shift → ℕ → Domain → Type 0
MayShiftFor s n d = (i : ℕ) → i ≤ n → MayShift s (ticks i d).tasks

-- THE LAWS. A later domain does the same, later
abbrev pub DelayLaw : Type 0
DelayLaw = (k n : ℕ) (d : Domain) → IsDomain d
    → ticks n (shifted (just_later k) d) ≡ shifted (just_later k) (ticks n d)

-- so does a shifted one, while its tasks may go at their pace
abbrev pub ShiftLaw : Type 0
ShiftLaw = (s : Shift) (n : ℕ) (d : Domain) → IsDomain d → MayShiftFor s n d
    → ticks n (shifted s d) ≡ shifted s (ticks n d)

-- and the same happens to its tasks
abbrev pub ShiftLogsLaw : Type 0
ShiftLogsLaw = (s : Shift) (n : ℕ) (d : Domain) → IsDomain d → MayShiftFor s n d
    → logged_by_ticks n (shifted s d) ≡ map (later_happened s.micros) (logged_by_ticks n d)

-- a pace that needs no rounds and no work
abbrev pub NeedsNothing : Pace → Type 0
NeedsNothing Rests = Unit {0}
NeedsNothing (Plays rounds) = rounds ≡ 0
NeedsNothing (Works micros) = ⊥

-- if that is the pace of all tasks, they may go on for ever
abbrev pub ForeverLaw : Type 0
ForeverLaw = (s : Shift) (n : ℕ) (d : Domain) → IsDomain d
    → ((number : ℕ) → NeedsNothing (s.pace number)) → MayShift s d.tasks → MayShiftFor s n d

-- the shifted domain keeps what every domain keeps
abbrev pub ShiftKeepsLaw : Type 0
ShiftKeepsLaw = (s : Shift) (d : Domain) → IsDomain d → MayShift s d.tasks
    → IsEarly (d.time + s.micros) → All (λ t. IsSoonAfter s.micros t.condition) d.tasks
    → IsDomain (shifted s d)
