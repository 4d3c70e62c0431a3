-- Calls text: the one spelling of a list of sections (own).
use Rattle.std.specs.Prelude.{ℕ, Bool, true, false, List, [], ◌∷◌, ◌++◌, map, Option, Some, None, if◌then◌else◌, codes, decimal}
use Rattle.std.specs.List.{flat_map, join_with_byte, list_any}
use Rattle.attr_check.specs.ParamsView.{ParamsView}
use Rattle.task_script.specs.declared.phase.Event.{Event}
use Rattle.task_script.specs.declared.phase.Event.TheVariants.{Run, Sleep, Timer, Wait}
use Rattle.task_script.specs.script.ScriptView.{PhaseView, ScriptView}
use Rattle.domain_run.specs.declared.call.Call.{Call}
use Rattle.domain_run.specs.declared.call.Call.TheVariants.{Admit, Regrade, Wake, Leave, Advance, Limit, Depart, Arrive}
use Rattle.calls_text.specs.declared.section.Entry.{Entry}
use Rattle.calls_text.specs.SectionView.{SectionView}

-- ---- scripts

-- a letter and microseconds, in decimal with no leading zeros; a wait is a letter alone
abbrev pub event_text : Event → List ℕ
event_text (Run n) = codes "r" ++ decimal n
event_text (Sleep n) = codes "s" ++ decimal n
event_text (Timer n) = codes "t" ++ decimal n
event_text Wait = codes "w"

-- with a comma between each two
abbrev pub events_text : List Event → List ℕ
events_text events = join_with_byte 44 (map event_text events)

-- count{event,..,event}
abbrev pub phase_text : PhaseView → List ℕ
phase_text p = decimal p.count ++ (codes "{" ++ (events_text p.events ++ codes "}"))

-- the number of rounds, -1 for no end
abbrev pub loops_text : Option ℕ → List ℕ
loops_text None = codes "-1"
loops_text (Some n) = decimal n

-- loop:phase..phase
abbrev pub script_text : ScriptView → List ℕ
script_text s = loops_text s.rounds ++ (codes ":" ++ flat_map phase_text s.phases)

-- ---- lines

-- the fields of a line, with one space between each two
abbrev pub line_of : List (List ℕ) → List ℕ
line_of fields = join_with_byte 32 fields

-- R for a task that reclaims
abbrev pub flag_text : ParamsView → List ℕ
flag_text p = if p.reclaim then codes "R" else codes "-"

-- the number with which the bandwidth word refused, where it did
abbrev pub busy_fields : Option ℕ → List (List ℕ)
busy_fields None = []
busy_fields (Some seen) = codes "busy" ∷ decimal seen ∷ []

-- a call of a client; times are in microseconds
abbrev pub call_fields : ℕ → Call → List (List ℕ)
call_fields client (Admit number name params delay script) =
    codes "admit" ∷ decimal client ∷ decimal number ∷ name ∷ decimal params.runtime
    ∷ decimal params.deadline ∷ decimal params.period ∷ flag_text params ∷ decimal delay
    ∷ script_text script ∷ []
call_fields client (Regrade number params word) =
    codes "regrade" ∷ decimal client ∷ decimal number ∷ decimal params.runtime
    ∷ decimal params.deadline ∷ decimal params.period ∷ flag_text params ∷ busy_fields word
call_fields client (Wake number) = codes "wake" ∷ decimal client ∷ decimal number ∷ []
call_fields client (Leave number) = codes "leave" ∷ decimal client ∷ decimal number ∷ []
call_fields client (Advance ticks) = codes "advance" ∷ decimal client ∷ decimal ticks ∷ []
call_fields client (Limit limit word) =
    codes "limit" ∷ decimal client ∷ decimal limit ∷ busy_fields word
call_fields client (Depart number) = codes "depart" ∷ decimal client ∷ decimal number ∷ []
call_fields client (Arrive number name params script) =
    codes "arrive" ∷ decimal client ∷ decimal number ∷ name ∷ decimal params.runtime
    ∷ decimal params.deadline ∷ decimal params.period ∷ flag_text params
    ∷ script_text script ∷ []

-- neither the sequence number nor the reply is written
abbrev pub entry_line : Entry → List ℕ
entry_line e = line_of (call_fields e.client e.call)

abbrev pub domain_line : SectionView → List ℕ
domain_line s = line_of (codes "domain" ∷ decimal s.cpus ∷ decimal s.limit ∷ [])

abbrev pub section_lines : SectionView → List (List ℕ)
section_lines s = domain_line s ∷ map entry_line s.entries

-- ---- the header

-- a call that the first form of the text has not: it changes the limit of its domain, or a task
-- goes to another domain or comes from one
abbrev pub is_later : Call → Bool
is_later (Admit number name params delay script) = false
is_later (Regrade number params word) = false
is_later (Wake number) = false
is_later (Leave number) = false
is_later (Advance ticks) = false
is_later (Limit limit word) = true
is_later (Depart number) = true
is_later (Arrive number name params script) = true

abbrev pub some_later : List Entry → Bool
some_later entries = list_any (λ e. is_later e.call) entries

-- whether some section has such a call
abbrev pub has_later : List SectionView → Bool
has_later sections = list_any (λ s. some_later s.entries) sections

-- the first line: 2 where some section has such a call, and 1 where none has
abbrev pub header_line : Bool → List ℕ
header_line later = if later then codes "dlcalls 2" else codes "dlcalls 1"

abbrev pub lines_of : List SectionView → List (List ℕ)
lines_of sections = header_line (has_later sections) ∷ flat_map section_lines sections

-- ---- texts

-- every line ends with LF, the last one too
abbrev pub text_of : List (List ℕ) → List ℕ
text_of lines = flat_map (λ line. line ++ codes "\n") lines

abbrev pub spelling : List SectionView → List ℕ
spelling sections = text_of (lines_of sections)
