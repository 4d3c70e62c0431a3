-- Calls that are kept until they are made.
use Rattle.std.specs.Prelude.{ℕ, ◌≡◌, ◌≤◌, ◌+◌, false, List, [], ◌∷◌, ◌++◌, length, All}
use Rattle.domain_run.specs.declared.call.Call.{Call}
use Rattle.domain_run.specs.declared.call.Call.TheVariants.{Admit, Regrade, Wake, Leave, Advance, Limit, Depart, Arrive}
use Rattle.domain_run.specs.Domain.{Domain}
use Rattle.domain_run.specs.Run.{after_calls, run_of}
use Rattle.calls_text.specs.SectionView.{SectionView}
use Rattle.calls_text.specs.Limits.{IsCall, IsSection}
use Rattle.calls_text.specs.Reader.{ReaderView, IsAfter, IsWithin}
use Rattle.switch_text.specs.Names.{name_of_task}
use Rattle.calls_trace.specs.Replay.{calls_in_section, names_of}
use Rattle.calls_trace.specs.DomainEvents.{domain_of, names_in, no_params}
use Rattle.calls_trace.specs.private.Calls.{ticks_given}
use Rattle.calls_trace.specs.private.Replaying.{AdmittedHaveNames, GivesParams}
use Rattle.calls_trace.specs.declared.kept_section.KeptSection.{KeptSection}
use Rattle.calls_trace.specs.declared.named_run.RunWithNames.{RunWithNames}

-- for how many names it needs room
abbrev pub room_of : Call → ℕ
room_of (Admit number name params delay script) = 1
room_of (Regrade number params word) = 1
room_of (Wake number) = 0
room_of (Leave number) = 0
room_of (Advance ticks) = 0
room_of (Limit limit word) = 1
room_of (Depart number) = 0
room_of (Arrive number name params script) = 1

-- a run of which no tick is made: it has made no switch, and it keeps no log
pub record IsAtStart (r : RunWithNames) : Type 0 where
  pub all_named : AdmittedHaveNames r.state r.names
  pub silent : r.log.wanted ≡ false
  pub unknown : GivesParams r.given no_params
  pub time : r.state.time ≡ 0
  pub bare : r.state.switches ≡ []

-- after it calls of sections are kept
pub record KeepsCalls (k : KeptSection) : Type 0 where
  pub start : IsAtStart k.run
  pub are : All IsCall k.calls

-- of the calls that were kept and one more a front is made, of which no call makes a tick: none, or
-- that one
pub record IsMadeOrKept (was : KeptSection) (call : Call) (is : KeptSection) : Type 0 where
  pub made : List Call
  pub order : was.calls ++ call ∷ [] ≡ made ++ is.calls
  pub still : All (λ c. ticks_given c ≡ 0) made
  pub domain : is.run.state ≡ after_calls was.run.state made

-- one call more is made, or kept
pub record IsOneMore (was : KeptSection) (call : Call) (is : KeptSection) : Type 0 where
  pub same_cpus : is.cpus ≡ was.cpus
  pub kept : KeepsCalls is
  pub few : length is.calls ≤ length was.calls + 1
  pub domain : after_calls is.run.state is.calls
      ≡ after_calls was.run.state (was.calls ++ call ∷ [])
  pub called : (n : ℕ) → names_of is.run.state is.calls (name_of_task is.run.names) n
      ≡ names_of was.run.state (was.calls ++ call ∷ []) (name_of_task was.run.names) n

-- of a section some calls are made, and these are left
pub record IsMadeUpTo (s : SectionView) (left : List Call) (r : RunWithNames) : Type 0 where
  pub domain : after_calls r.state left ≡ domain_of s
  pub called : (n : ℕ) → names_of r.state left (name_of_task r.names) n ≡ names_in s n

-- of the calls of a section a front is made, of which no call makes a tick; it led to this domain
pub record IsBegunBy (s : SectionView) (left : List Call) (d : Domain) : Type 0 where
  pub made : List Call
  pub calls : calls_in_section s ≡ made ++ left
  pub still : All (λ c. ticks_given c ≡ 0) made
  pub domain : d ≡ run_of s.cpus s.limit made

-- the calls of a section up to the first advance are made, and the others are kept
pub record IsKeptSection (s : SectionView) (k : KeptSection) : Type 0 where
  pub same_cpus : k.cpus ≡ s.cpus
  pub made : IsMadeUpTo s k.calls k.run
  pub begun : IsBegunBy s k.calls k.run.state
  pub kept : KeepsCalls k
  pub few : length k.calls ≤ length s.entries

-- those of some section
pub record KeepsSection (k : KeptSection) : Type 0 where
  pub section : SectionView
  pub is : IsSection section
  pub same : IsKeptSection section k

-- the calls that were read so far of a section are kept
pub record IsKeptSoFar (text : List ℕ) (before : List SectionView) (reader : ReaderView)
    (k : KeptSection) : Type 0 where
  pub section : SectionView
  pub within : IsWithin text before section reader
  pub same : IsKeptSection section k

-- a section is read to its end, and its calls are kept
pub record IsReadSection (text : List ℕ) (before : List SectionView) (reader : ReaderView)
    (k : KeptSection) : Type 0 where
  pub section : SectionView
  pub is : IsSection section
  pub following : IsAfter text (before ++ section ∷ []) reader
  pub same : IsKeptSection section k
