-- Calls in little room, as a reader gives them (own).
use Rattle.std.specs.Prelude.{◌≡◌, ℕ, List, [], ◌∷◌, ◌++◌, Option, Some, None, Result, Ok, Err}
use Rattle.domain_run.specs.declared.call.Call.{Call}
use Rattle.domain_run.specs.declared.call.Call.TheVariants as calls
use Rattle.calls_text.specs.declared.fault.CallsFault.{CallsFault}
use Rattle.calls_text.specs.declared.kept_call.Kept.{Kept}
use Rattle.calls_text.specs.declared.kept_call.Kept.TheVariants.{Wake, Leave, Depart, Advance, Long}
use Rattle.calls_text.specs.declared.section.Entry.{Entry}
use Rattle.calls_text.specs.SectionView.{SectionView}
use Rattle.calls_text.specs.Reader.{ReaderView, IsAfter, IsWithin, section_with_entries}

-- the call that is kept
abbrev pub call_kept : Kept → Call
call_kept (Wake number) = calls.Wake number
call_kept (Leave number) = calls.Leave number
call_kept (Depart number) = calls.Depart number
call_kept (Advance ticks) = calls.Advance ticks
call_kept (Long call) = call.value

-- the entry that is read next has this call
pub record IsNextCall (text : List ℕ) (before : List SectionView) (s : SectionView) (r : ReaderView)
    (kept : Kept) : Type 0 where
  pub entry : Entry
  pub same : entry.call ≡ call_kept kept
  pub within : IsWithin text before (section_with_entries s (entry ∷ [])) r

-- within a section: the call of its next entry, or it is read to its end; where memory ran out, all
-- is as before
abbrev pub IsNextKept : List ℕ → List SectionView → SectionView → ReaderView
    → Result (Option Kept) CallsFault → Type 0
IsNextKept text before s r (Ok (Some kept)) = IsNextCall text before s r kept
IsNextKept text before s r (Ok None) = IsAfter text (before ++ s ∷ []) r
IsNextKept text before s r (Err e) = IsWithin text before s r
