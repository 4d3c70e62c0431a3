-- All that is drawn has a part in the window.
use Rattle.std.proofs.Common.{◌≡◌, ℕ, ◌≤◌, Bool, true, false, cond, not, ◌&&◌, List, [], ◌∷◌, refl, All, ltb-true}
use Rattle.std.specs.Prelude.{nat_lt, nat_le}
use Rattle.std.proofs.lemmas.Bool.{and_parts, leb-true}
use Rattle.std.proofs.lemmas.List.Elements.{All-nil, All-cons, All-append, filter_passes}
use Rattle.domain_run.specs.declared.happened.What.{What}
use Rattle.domain_run.specs.declared.happened.What.TheVariants.{JobEnds, NextReleased, Spent, Cut, Replenished, Released, WokenSpent}
use Rattle.domain_run.specs.declared.switch.PrevState.{PrevState}
use Rattle.run_figures.specs.Runs.{RunView}
use Rattle.chart_pieces.specs.declared.status.Turn.{Turn}
use Rattle.chart_pieces.specs.declared.status.Turn.TheVariants.{Happens, Leaves, Comes}
use Rattle.chart_pieces.specs.declared.status.Moment.{Moment}
use Rattle.chart_pieces.specs.declared.status.TaskStatus.{TaskStatus}
use Rattle.chart_pieces.specs.declared.row.Bar.{Bar}
use Rattle.chart_pieces.specs.declared.row.Gap.{Gap}
use Rattle.chart_pieces.specs.declared.row.Mark.{Mark}
use Rattle.chart_pieces.specs.declared.row.Sign.{Sign}
use Rattle.chart_pieces.specs.declared.row.Sign.TheVariants.{Released as ReleasedAt, Due as DueAt, Ended as EndedAt}
use Rattle.chart_pieces.specs.declared.window.Window.{Window}
use Rattle.chart_pieces.specs.Window.{touches, holds}
use Rattle.chart_pieces.specs.Bars.{bars_of}
use Rattle.chart_pieces.specs.Moments.{moments_of}
use Rattle.chart_pieces.specs.TaskStatus.{at_rest, after_turn, is_shown}
use Rattle.chart_pieces.specs.Rows.{gap_by, gaps_from, mark_in, job_marks, marks_by_logged, is_dead, end_marks, marks_by, marks_from, row_of}
use Rattle.chart_pieces.specs.Laws.{IsSeen, AreSeen}

pub touches_seen : (w : Window) (a b : ℕ) → touches w a b ≡ true → IsSeen w a b
touches_seen w a b h =
    let p = and_parts (nat_lt a b) (nat_lt a w.to && nat_lt w.from b) h in
    let q = and_parts (nat_lt a w.to) (nat_lt w.from b) p.1 in
    (ltb-true a b p.0, ltb-true a w.to q.0, ltb-true w.from b q.1)

-- GAPS
abbrev GapSeen : Window → Gap → Type 0
GapSeen w g = IsSeen w g.start g.stop

one_gap : (w : Window) (s : TaskStatus) (a b : ℕ) → All (GapSeen w) (gap_by w s a b)
one_gap w s a b =
    let g : Gap = record { throttled = s.throttled; start = a; stop = b } in
    elim (is_shown s && touches w a b) as (λ t. (is_shown s && touches w a b) ≡ t → All (GapSeen w) (cond t (g ∷ []) [])) [
      | true ↦ λ yes. All-cons (GapSeen w) g [] (touches_seen w a b (and_parts (is_shown s) (touches w a b) yes).1) (All-nil (GapSeen w))
      | false ↦ λ no. All-nil (GapSeen w)
    ] refl

all_gaps : (w : Window) (time : ℕ) (s : TaskStatus) (since : ℕ) (ms : List Moment) → All (GapSeen w) (gaps_from w time s since ms)
all_gaps w time s since [] = one_gap w s since time
all_gaps w time s since (m ∷ ms) =
    All-append (GapSeen w) (gap_by w s since m.time) (gaps_from w time (after_turn m.turn s) m.time ms) (one_gap w s since m.time) (all_gaps w time (after_turn m.turn s) m.time ms)

-- MARKS
abbrev MarkSeen : Window → Mark → Type 0
MarkSeen w m = (w.from ≤ m.time) × (m.time ≤ w.to)

no_mark : (w : Window) → All (MarkSeen w) []
no_mark w = All-nil (MarkSeen w)

one_mark : (w : Window) (sign : Sign) (time : ℕ) → All (MarkSeen w) (mark_in w sign time)
one_mark w sign time =
    let m : Mark = record { sign = sign; time = time } in
    elim (holds w time) as (λ t. holds w time ≡ t → All (MarkSeen w) (cond t (m ∷ []) [])) [
      | true ↦ λ yes.
          let p = and_parts (nat_le w.from time) (nat_le time w.to) yes in
          All-cons (MarkSeen w) m [] (leb-true w.from time p.0, leb-true time w.to p.1) (no_mark w)
      | false ↦ λ no. no_mark w
    ] refl

both_marks : (w : Window) (release deadline : ℕ) → All (MarkSeen w) (job_marks w release deadline)
both_marks w release deadline =
    All-append (MarkSeen w) (mark_in w ReleasedAt release) (mark_in w DueAt deadline) (one_mark w ReleasedAt release) (one_mark w DueAt deadline)

logged_marks : (w : Window) (time : ℕ) (what : What) → All (MarkSeen w) (marks_by_logged w time what)
logged_marks w time JobEnds = no_mark w
logged_marks w time (NextReleased d) = both_marks w time d
logged_marks w time (Spent d) = no_mark w
logged_marks w time Cut = one_mark w EndedAt time
logged_marks w time (Replenished d) = no_mark w
logged_marks w time (Released d) = both_marks w time d
logged_marks w time (WokenSpent d) = no_mark w

last_mark : (w : Window) (s : TaskStatus) (time : ℕ) (state : PrevState) → All (MarkSeen w) (end_marks w s time state)
last_mark w s time state = elim (is_dead state && not s.cut) as (λ t. All (MarkSeen w) (cond t (mark_in w EndedAt time) [])) [
  | true ↦ one_mark w EndedAt time
  | false ↦ no_mark w
]

turn_marks : (w : Window) (s : TaskStatus) (time : ℕ) (turn : Turn) → All (MarkSeen w) (marks_by w s time turn)
turn_marks w s time (Happens what) = logged_marks w time what
turn_marks w s time (Leaves cpu state) = last_mark w s time state
turn_marks w s time (Comes cpu) = no_mark w

all_marks : (w : Window) (s : TaskStatus) (ms : List Moment) → All (MarkSeen w) (marks_from w s ms)
all_marks w s [] = no_mark w
all_marks w s (m ∷ ms) =
    All-append (MarkSeen w) (marks_by w s m.time m.turn) (marks_from w (after_turn m.turn s) ms) (turn_marks w s m.time m.turn) (all_marks w (after_turn m.turn s) ms)

-- A ROW
pub row_seen : (w : Window) (run : RunView) (n : ℕ) → AreSeen w (row_of w run n)
row_seen w run n =
    let own = moments_of run.happened run.switches n in
    let p : Bar → Bool = λ b. touches w b.start b.stop in
    let all = bars_of run.time run.switches n in
    record {
      bars = λ k d l. touches_seen w _ _ (filter_passes p all k d l);
      gaps = all_gaps w run.time at_rest 0 own;
      marks = all_marks w at_rest own;
    }
