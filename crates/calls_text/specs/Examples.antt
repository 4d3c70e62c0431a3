-- Worked rows: the texts of sections, and what is within the limits.
use Rattle.std.specs.Prelude.{◌≡◌, ℕ, List, [], ◌∷◌, map, None, Some, true, false, Err, Ok, codes, refl}
use Rattle.std.specs.Fmt.{digits}
use Rattle.attr_check.specs.ParamsView.{ParamsView}
use Rattle.attr_check.specs.Accepted.{accepted}
use Rattle.attr_check.specs.declared.refusal.AttrRefusal.TheVariants.{Small}
use Rattle.task_script.specs.declared.phase.Event.{Event}
use Rattle.task_script.specs.declared.phase.Event.TheVariants.{Run, Sleep, Timer, Wait}
use Rattle.task_script.specs.script.ScriptView.{PhaseView, script_of}
use Rattle.domain_run.specs.declared.call.Call.{Call}
use Rattle.domain_run.specs.declared.call.Call.TheVariants.{Admit, Regrade, Wake, Leave, Advance, Limit, Depart, Arrive}
use Rattle.calls_text.specs.declared.section.Entry.{Entry}
use Rattle.calls_text.specs.SectionView.{SectionView}
use Rattle.calls_text.specs.Spelling.{entry_line, has_later, spelling}
use Rattle.calls_text.specs.OwnCalls.{IsNumbered}
use Rattle.calls_text.specs.Limits.{IsChecked, attr_of}

-- a call of client 1, with its sequence number
abbrev call : ℕ → Call → Entry
call seq c = record { client = 1; seq = seq; call = c; reply = None }

abbrev params : ℕ → ℕ → ℕ → ℕ → ParamsView
params runtime deadline period bw =
    record { runtime = runtime; deadline = deadline; period = period; reclaim = false; bw = bw }

abbrev phase : ℕ → List Event → PhaseView
phase count events = record { count = count; events = events }

abbrev one_section : ℕ → ℕ → List Entry → List SectionView
one_section cpus limit entries = record { cpus = cpus; limit = limit; entries = entries } ∷ []

-- a whole text: throttled inside a job
pub throttled_inside_a_job : spelling
    (one_section 1 1048576
    (call 0 (Admit 1 (codes "a") (params 2 5 5 419430) 0
    (script_of (Some 1) (phase 1 (Run 4 ∷ []) ∷ []))) ∷ call 1 (Advance 11) ∷ []))
    ≡ codes "dlcalls 1\ndomain 1 1048576\nadmit 1 1 a 2 5 5 - 0 1:1{r4}\nadvance 1 11\n"
unfolding digits
throttled_inside_a_job = refl

-- a section of no calls, and two sections
pub bare_section : spelling (one_section 1 1048576 []) ≡ codes "dlcalls 1\ndomain 1 1048576\n"
unfolding digits
bare_section = refl

pub two_sections : spelling
    (record { cpus = 1; limit = 996147; entries = call 0 (Advance 1) ∷ [] }
    ∷ one_section 2 1048576
    (call 0 (Advance 2)
    ∷ [])) ≡ codes "dlcalls 1\ndomain 1 996147\nadvance 1 1\ndomain 2 1048576\nadvance 1 2\n"
unfolding digits
two_sections = refl

-- a whole text: the limit changes the rate of a task that reclaims
pub limit_changes_the_rate : spelling
    (one_section 1 1048576
    (call 0 (Admit 1 (codes "a")
    (record { runtime = 4; deadline = 8; period = 8; reclaim = true; bw = 524288 }) 0
    (script_of (Some 1) (phase 1 (Run 1000 ∷ []) ∷ []))) ∷ call 1 (Advance 4)
    ∷ call 2 (Limit 786432 None) ∷ call 3 (Advance 5) ∷ [])) ≡ codes
    "dlcalls 2\ndomain 1 1048576\nadmit 1 1 a 4 8 8 R 0 1:1{r1000}\nadvance 1 4\nlimit 1 786432\nadvance 1 5\n"
unfolding digits
limit_changes_the_rate = refl

-- a change of a limit in any section makes the header 2, one that the word refused too; a section
-- of a low limit does not, nor does a regrade that the word refused
pub refused_by_the_word : spelling
    (record { cpus = 1; limit = 524288; entries = call 0 (Limit 131072 (Some 262144)) ∷ [] } ∷ [])
    ≡ codes "dlcalls 2\ndomain 1 524288\nlimit 1 131072 busy 262144\n"
unfolding digits
refused_by_the_word = refl

pub changed_in_the_second : spelling
    (record { cpus = 1; limit = 10485; entries = call 0 (Advance 1) ∷ [] }
    ∷ one_section 2 1048576 (call 0 (Limit 10485 None) ∷ []))
    ≡ codes "dlcalls 2\ndomain 1 10485\nadvance 1 1\ndomain 2 1048576\nlimit 1 10485\n"
unfolding digits
changed_in_the_second = refl

-- so does a task that goes from one section and comes in the other, without its delay
pub moved_to_the_second : spelling
    (record { cpus = 1; limit = 1048576; entries = call 0 (Depart 1) ∷ [] }
    ∷ one_section 2 1048576
    (call 0 (Arrive 1 (codes "a") (params 4 8 8 524288)
    (script_of None (phase 1 (Run 2 ∷ Sleep 6 ∷ []) ∷ []))) ∷ [])) ≡ codes
    "dlcalls 2\ndomain 1 1048576\ndepart 1 1\ndomain 2 1048576\narrive 1 1 a 4 8 8 - -1:1{r2,s6}\n"
unfolding digits
moved_to_the_second = refl

pub never_changed : has_later
    (one_section 1 10485 (call 0 (Regrade 1 (params 4 8 8 524288) (Some 0)) ∷ call 1 (Wake 1)
    ∷ call 2 (Leave 1) ∷ call 3 (Advance 1) ∷ [])) ≡ false
never_changed = refl

-- the lines of each kind of call: a task that reclaims, phases in order, a timer, a wait; a regrade
-- that the word refused
pub reclaiming_line : entry_line
    (call 0 (Admit 1 (codes "T1")
    (record { runtime = 4; deadline = 8; period = 8; reclaim = true; bw = 524288 }) 0
    (script_of None
    (phase 1 (Run 2 ∷ Sleep 6 ∷ []) ∷ [])))) ≡ codes "admit 1 1 T1 4 8 8 R 0 -1:1{r2,s6}"
unfolding digits
reclaiming_line = refl

pub phases_line : entry_line
    (call 0 (Admit 1 (codes "p") (params 5 10 10 524288) 0
    (script_of None
    (phase 2 (Run 3 ∷ Sleep 7 ∷ []) ∷ phase 1 (Run 4 ∷ Sleep 2 ∷ Run 1 ∷ [])
    ∷ [])))) ≡ codes "admit 1 1 p 5 10 10 - 0 -1:2{r3,s7}1{r4,s2,r1}"
unfolding digits
phases_line = refl

pub timer_and_wait_line : entry_line
    (call 0 (Admit 2 (codes "w") (params 2 10 10 209715) 1000
    (script_of (Some 3)
    (phase 1 (Wait ∷ Run 1 ∷ Timer 8 ∷ [])
    ∷ [])))) ≡ codes "admit 1 2 w 2 10 10 - 1000 3:1{w,r1,t8}"
unfolding digits
timer_and_wait_line = refl

pub regrade_line : entry_line (call 0 (Regrade 1 (params 4 8 8 524288) None))
    ≡ codes "regrade 1 1 4 8 8 -"
unfolding digits
regrade_line = refl

pub refused_by_the_word_line : entry_line (call 0 (Regrade 1 (params 4 8 8 524288) (Some 393216)))
    ≡ codes "regrade 1 1 4 8 8 - busy 393216"
unfolding digits
refused_by_the_word_line = refl

pub limit_lines : map entry_line (call 0 (Limit 786432 None) ∷ call 1 (Limit 10485 (Some 0)) ∷ [])
    ≡ codes "limit 1 786432" ∷ codes "limit 1 10485 busy 0" ∷ []
unfolding digits
limit_lines = refl

pub wake_and_leave_lines : map entry_line (call 0 (Wake 7) ∷ call 1 (Leave 7) ∷ [])
    ≡ codes "wake 1 7" ∷ codes "leave 1 7" ∷ []
unfolding digits
wake_and_leave_lines = refl

-- 2 us in each 8 us are accepted, 1 us is too small, and a period is not left out
pub accepted_times : IsChecked (params 2 8 8 262144)
accepted_times = refl

pub small_runtime : accepted (attr_of (params 1 8 8 131072)) ≡ Err Small
small_runtime = refl

pub no_period : accepted (attr_of (params 2 8 0 262144)) ≡ Ok (params 2 8 8 262144)
no_period = refl

-- each client counts its own calls
pub two_clients : IsNumbered
    (record { client = 1; seq = 0; call = Advance 1; reply = None }
    ∷ record { client = 2; seq = 0; call = Advance 1; reply = None }
    ∷ record { client = 1; seq = 1; call = Advance 1; reply = None } ∷ [])
two_clients = (refl, (refl, (refl, tt)))
