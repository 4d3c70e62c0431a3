-- The calls of a section that are read whole before they are made, and what is known of them then.
use Rattle.std.specs.Prelude.{ℕ, ◌≡◌, ◌≤◌, ◌<◌, ◌*◌, List, ◌∷◌, [], ◌++◌, length, sum_by, All, Contains}
use Rattle.domain_run.specs.declared.call.Call.{Call}
use Rattle.domain_run.specs.declared.call.Call.TheVariants.{Admit, Regrade, Wake, Leave, Advance, Limit, Depart, Arrive}
use Rattle.calls_text.specs.SectionView.{SectionView}
use Rattle.calls_text.specs.Limits.{IsCall, IsSection}
use Rattle.calls_text.specs.Reader.{ReaderView, IsAfter, IsWithin}
use Rattle.calls_trace.specs.declared.foreseen.Foreseen.{Foreseen}
use Rattle.calls_trace.specs.Replay.{calls_in_section}
use Rattle.calls_trace.specs.private.Calls.{ticks_given}
use Rattle.limits.specs.Limits.{max_advance, task_number_end}

-- the number of a task that a call asks to admit is among these
abbrev pub IsForelogged : List ℕ → Call → Type 0
IsForelogged numbers (Admit number name params delay script) = Contains numbers number
IsForelogged numbers (Regrade number params word) = Unit {0}
IsForelogged numbers (Wake number) = Unit {0}
IsForelogged numbers (Leave number) = Unit {0}
IsForelogged numbers (Advance n) = Unit {0}
IsForelogged numbers (Limit limit word) = Unit {0}
IsForelogged numbers (Depart number) = Unit {0}
IsForelogged numbers (Arrive number name params script) = Contains numbers number

-- how many ticks calls make
abbrev pub all_ticks : List Call → ℕ
all_ticks calls = sum_by ticks_given calls

-- the ticks of the calls that are kept, and the numbers of all tasks that they ask to admit
pub record IsForeseen (f : Foreseen) : Type 0 where
  pub are : All IsCall f.calls
  pub ticks : f.ticks ≡ all_ticks f.calls
  pub short : f.ticks ≤ length f.calls * max_advance
  pub forelogged : All (IsForelogged f.numbers.keys) f.calls
  pub small : All (λ n. n < task_number_end) f.numbers.keys

-- these calls are those of the section
pub record AreCallsOf (s : SectionView) (cpus limit : ℕ) (calls : List Call) : Type 0 where
  pub same_cpus : s.cpus ≡ cpus
  pub same_limit : s.limit ≡ limit
  pub same_calls : calls ≡ calls_in_section s

-- those that were read so far of a section
pub record IsForeseenSoFar (text : List ℕ) (before : List SectionView) (cpus limit : ℕ)
    (reader : ReaderView) (calls : List Call) : Type 0 where
  pub section : SectionView
  pub within : IsWithin text before section reader
  pub same : AreCallsOf section cpus limit calls

-- a section is read to its end, and its calls are kept
pub record IsForeseenSection (text : List ℕ) (before : List SectionView) (cpus limit : ℕ)
    (reader : ReaderView) (calls : List Call) : Type 0 where
  pub section : SectionView
  pub is : IsSection section
  pub following : IsAfter text (before ++ section ∷ []) reader
  pub same : AreCallsOf section cpus limit calls
