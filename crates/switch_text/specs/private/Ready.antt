-- What lines say of tasks, idle CPUs and states, put together once and kept.
use Rattle.std.specs.Prelude.{ℕ, zero, suc, ◌≡◌, ◌<◌, ◌≤◌, List, [], ◌∷◌, ◌++◌, length, slice_index_or, All, Option, Some, None}
use Rattle.domain_run.specs.declared.switch.PrevState.{PrevState}
use Rattle.domain_run.specs.declared.switch.PrevState.TheVariants.{Running, Preempted, Sleeping, Dead}
use Rattle.switch_text.specs.declared.run.Run.{Run}
use Rattle.switch_text.specs.declared.ready.Who.{Who}
use Rattle.switch_text.specs.declared.ready.Who.TheVariants.{Nobody, Idle, Task}
use Rattle.switch_text.specs.declared.ready.Slot.{Slot}
use Rattle.switch_text.specs.declared.ready.Middles.{Middles}
use Rattle.switch_text.specs.declared.ready.Lane.{Lane}
use Rattle.switch_text.specs.declared.piece.ShortPiece.{ShortPiece}
use Rattle.switch_text.specs.declared.ready.Texts.{Texts}
use Rattle.switch_text.specs.Names.{name_of_task, SameNames}
use Rattle.switch_text.specs.Line.{task_part, cpu_part}
use Rattle.switch_text.specs.private.Parts.{second_part, leaving_part, state_part, coming_part}
use Rattle.switch_text.specs.private.Pieces.{piece_text, short_text_of}

-- the texts of a task, or of an idle CPU
pub record IsSlotReady (names : ℕ → List ℕ) (cpu : ℕ) (task : Option ℕ) (s : Slot) : Type 0 where
  pub head : short_text_of s.head ≡ task_part names task
  pub leaving : piece_text s.leaving ≡ leaving_part names cpu task
  pub coming : piece_text s.coming ≡ coming_part names cpu task

-- how the tasks of a run, by its place among the runs, are named
abbrev pub names_at : List Run → ℕ → ℕ → List ℕ
names_at [] i = λ number. []
names_at (r ∷ runs) zero = name_of_task r.names.now
names_at (r ∷ runs) (suc i) = names_at runs i

-- on this CPU of the machine, a task of this run, or the idle task
abbrev pub who_of : ℕ → ℕ → Option ℕ → Who
who_of run cpu None = Idle cpu
who_of run cpu (Some number) = Task run number

-- by the place of their run and their number, the tasks that leave and come there are named so
abbrev pub RunsHaveNames : (ℕ → ℕ → List ℕ) → List Run → Type 0
RunsHaveNames names runs = (i : ℕ) (r : Run) → i < length runs → r ≡ slice_index_or runs i r
    → All (SameNames (name_of_task r.names.now) (names i)) r.switches.now

-- the texts are those of whom they name: an idle task has no name of a run, and a task's name is
-- the same on each CPU
abbrev pub IsFor : (ℕ → ℕ → List ℕ) → Who → Slot → Type 0
IsFor names Nobody s = Unit {0}
IsFor names (Idle cpu) s = (others : ℕ → List ℕ) → IsSlotReady others cpu None s
IsFor names (Task run number) s = (cpu : ℕ) → IsSlotReady (names run) cpu (Some number) s

-- so many places are there at least
abbrev pub fewest : ℕ
fewest = 640

abbrev pub AreEnough : List Slot → Type 0
AreEnough slots = fewest ≤ length slots

-- none names anybody
abbrev pub AreNobodys : List Slot → Type 0
AreNobodys slots = All (λ s. s.who ≡ Nobody) slots

abbrev pub IsSlot : (ℕ → ℕ → List ℕ) → Slot → Type 0
IsSlot names s = IsFor names s.who s

-- the text is that of the CPU of the machine and of the second
abbrev pub IsLane : Lane → Type 0
IsLane l = short_text_of l.text ≡ cpu_part l.cpu ++ second_part l.second

-- the place of a state's text
abbrev pub nth_state : PrevState → ℕ
nth_state Running = 0
nth_state Preempted = 1
nth_state Sleeping = 2
nth_state Dead = 3

abbrev pub IsMiddles : Middles → Type 0
IsMiddles m = (state : PrevState) (d : ShortPiece)
    → short_text_of (slice_index_or m.texts (nth_state state) d) ≡ state_part state

-- what is kept beside them is right
pub record IsTexts (t : Texts) : Type 0 where
  pub lanes : All IsLane t.lanes
  pub middles : IsMiddles t.middles
