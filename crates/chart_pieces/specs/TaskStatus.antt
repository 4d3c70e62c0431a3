-- How a task stands: whether a job of it is under way, whether it is throttled, and on which CPU it
-- is (own; ready and throttled as in sched-deadline.rst, "2. Task scheduling").
use Rattle.std.specs.Prelude.{ℕ, Bool, true, false, ◌&&◌, ◌||◌, is_none, if◌then◌else◌, Some, None}
use Rattle.domain_run.specs.declared.happened.What.{What}
use Rattle.domain_run.specs.declared.happened.What.TheVariants.{JobEnds, NextReleased, Spent, Cut, Replenished, Released, WokenSpent}
use Rattle.edf_pick.specs.Places.{is_task}
use Rattle.run_figures.specs.Throttling.{throttled_then}
use Rattle.chart_pieces.specs.declared.status.Turn.{Turn}
use Rattle.chart_pieces.specs.declared.status.Turn.TheVariants.{Happens, Leaves, Comes}
use Rattle.chart_pieces.specs.declared.status.TaskStatus.{TaskStatus}

abbrev pub at_rest : TaskStatus
at_rest = record { works = false; throttled = false; cut = false; cpu = None }

-- whether a job is under way then
abbrev pub works_then : Bool → What → Bool
works_then before JobEnds = false
works_then before (NextReleased deadline) = true
works_then before (Spent deadline) = before
works_then before Cut = false
works_then before (Replenished deadline) = before
works_then before (Released deadline) = true
works_then before (WokenSpent deadline) = before

abbrev pub is_cut_then : Bool → What → Bool
is_cut_then before JobEnds = before
is_cut_then before (NextReleased deadline) = before
is_cut_then before (Spent deadline) = before
is_cut_then before Cut = true
is_cut_then before (Replenished deadline) = before
is_cut_then before (Released deadline) = before
is_cut_then before (WokenSpent deadline) = before

abbrev pub after_logged : What → TaskStatus → TaskStatus
after_logged what s = record s {
  works = works_then s.works what;
  throttled = throttled_then s.throttled what;
  cut = is_cut_then s.cut what;
}

-- a task that has come to another CPU at that time stays on that one
abbrev pub after_leaving : ℕ → TaskStatus → TaskStatus
after_leaving cpu s = record s { cpu = if is_task cpu s.cpu then None else s.cpu }

abbrev pub after_turn : Turn → TaskStatus → TaskStatus
after_turn (Happens what) s = after_logged what s
after_turn (Leaves cpu state) s = after_leaving cpu s
after_turn (Comes cpu) s = record s { cpu = Some cpu }

-- between its bars it is shown where it is throttled, and where it is ready: a job is under way,
-- and it runs on no CPU
abbrev pub is_shown : TaskStatus → Bool
is_shown s = is_none s.cpu && (s.throttled || s.works)
