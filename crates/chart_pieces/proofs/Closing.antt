-- A line with all moments of its task is the row of the task.
use Rattle.std.proofs.Common.{◌≡◌, ℕ, ◌≤◌, true, false, cond, eqb, List, [], ◌∷◌, ◌++◌, get_or, map, subst, All, Option, refl, sym, ap, ◌∙◌, append-nil, append_assoc, eq-eqb}
use Rattle.std.specs.Prelude.{filter, fold}
use Rattle.std.proofs.lemmas.Bool.{ne_eqb, eqb-true, eqb-false}
use Rattle.std.proofs.lemmas.List.Elements.{All-map}
use Rattle.run_figures.specs.declared.run.Admitted.{Admitted}
use Rattle.run_figures.specs.Accounting.{streamed_run}
use Rattle.run_figures.specs.Runs.{RunView}
use Rattle.chart_pieces.specs.declared.status.Moment.{Moment}
use Rattle.chart_pieces.specs.declared.row.Mark.{Mark}
use Rattle.chart_pieces.specs.declared.window.Window.{Window}
use Rattle.chart_pieces.specs.RowView.{RowView}
use Rattle.chart_pieces.specs.Window.{IsWhole}
use Rattle.chart_pieces.specs.Bars.{bars_in}
use Rattle.chart_pieces.specs.Moments.{moments, moments_of}
use Rattle.chart_pieces.specs.TaskStatus.{after_turn}
use Rattle.chart_pieces.specs.Drawing.{DrawingView}
use Rattle.chart_pieces.specs.Laws.{AreSeen, BarsAreAllCpuTime}
use Rattle.chart_pieces.specs.Rows.{gap_by, gaps_from, marks_by, marks_from, row_of, rows_of}
use Rattle.chart_pieces.specs.private.LineView.{ChartLineView}
use Rattle.chart_pieces.specs.private.Lines.{line_without_bars, bars_after, bars_all, row_by, drawn_line}
use Rattle.chart_pieces.specs.private.Keeping.{IsDrawingKept}
use Rattle.chart_pieces.proofs.Moments.{map-map, map_same}
use Rattle.chart_pieces.proofs.Seen.{row_seen}
use Rattle.chart_pieces.proofs.Full.{full}

abbrev own_of : ℕ → List Moment → List Moment
own_of n ms = filter (λ m. eqb m.number n) ms

abbrev line_own : Window → List Moment → ChartLineView → ChartLineView
line_own w own l = fold (λ (x : ChartLineView) (m : Moment). bars_after w m x) l own

own_line : (w : Window) (ms : List Moment) (l : ChartLineView) (n : ℕ) → l.number ≡ n → bars_all w ms l ≡ line_own w (own_of n ms) l
own_line w [] l n e = refl
own_line w (m ∷ ms) l n e =
    elim (eqb m.number n) as (λ b. eqb m.number n ≡ b → bars_all w ms (cond (eqb l.number m.number) (bars_after w m l) l) ≡ line_own w (cond b (m ∷ own_of n ms) (own_of n ms)) l) [
      | true ↦ λ yes.
          let own : eqb l.number m.number ≡ true = eq-eqb l.number m.number (e ∙ sym (eqb-true m.number n yes)) in
          ap (λ b. bars_all w ms (cond b (bars_after w m l) l)) own ∙ own_line w ms (bars_after w m l) n e
      | false ↦ λ no.
          let other : eqb l.number m.number ≡ false = ne_eqb l.number m.number (λ (is : l.number ≡ m.number). eqb-false m.number n no (sym is ∙ e)) in
          ap (λ b. bars_all w ms (cond b (bars_after w m l) l)) other ∙ own_line w ms l n e
    ] refl

-- a line, and the rest of its moments
abbrev row_from : Window → ℕ → ChartLineView → List Moment → RowView
row_from w time l own = record {
  number = l.number;
  bars = l.bars;
  gaps = l.gaps ++ gaps_from w time l.status l.since own;
  marks = l.marks ++ marks_from w l.status own;
}

own_closed : (w : Window) (time : ℕ) (own : List Moment) (l : ChartLineView) → row_by w time (line_own w own l) ≡ row_from w time l own
own_closed w time [] l = ap (λ (ms : List Mark). record {
  number = l.number;
  bars = l.bars;
  gaps = l.gaps ++ gap_by w l.status l.since time;
  marks = ms;
}) (sym (append-nil l.marks))
own_closed w time (m ∷ ms) l =
    own_closed w time ms (bars_after w m l)
    ∙ (λ i. record {
      number = l.number;
      bars = l.bars;
      gaps = append_assoc l.gaps (gap_by w l.status l.since m.time) (gaps_from w time (after_turn m.turn l.status) m.time ms) i;
      marks = append_assoc l.marks (marks_by w l.status m.time m.turn) (marks_from w (after_turn m.turn l.status) ms) i;
    })

pub row_is : (w : Window) (run : RunView) (n : ℕ) → row_by w run.time (drawn_line w run.time (moments run.happened run.switches) run.switches n) ≡ row_of w run n
row_is w run n =
    let own = moments_of run.happened run.switches n in
    let l = line_without_bars n in
    let bs = bars_in w run.time run.switches n in
    ap (λ (x : ChartLineView). record (row_by w run.time x) { bars = bs }) (own_line w (moments run.happened run.switches) l n refl)
    ∙ ap (λ (r : RowView). record r { bars = bs }) (own_closed w run.time own l)

-- OF ALL TASKS
pub rows_by_number : (w : Window) (run : RunView) (numbers : List ℕ) (ls : List ChartLineView) (rows : List RowView) → ls ≡ map (drawn_line w run.time (moments run.happened run.switches) run.switches) numbers
    → rows ≡ map (row_by w run.time) ls → rows ≡ map (row_of w run) numbers
rows_by_number w run numbers ls rows lines closed =
    let line = drawn_line w run.time (moments run.happened run.switches) run.switches in
    closed ∙ ap (map (row_by w run.time)) lines ∙ map-map (row_by w run.time) line numbers
    ∙ map_same (λ n. row_by w run.time (line n)) (row_of w run) numbers (row_is w run)

pub rows_seen : (w : Window) (run : RunView) (numbers : List ℕ) (rows : List RowView) → rows ≡ map (row_of w run) numbers → All (AreSeen w) rows
rows_seen w run numbers rows are =
    subst (All (AreSeen w)) (sym are) (All-map (AreSeen w) (row_of w run) numbers (λ k d l. row_seen w run (get_or numbers k d)))

pub rows_full : (w : Window) (run : RunView) (numbers : List ℕ) (rows : List RowView) → All (λ s. s.time ≤ run.time) run.switches → IsWhole w run.time → rows ≡ map (row_of w run) numbers → All (BarsAreAllCpuTime run) rows
rows_full w run numbers rows past whole are =
    subst (All (BarsAreAllCpuTime run)) (sym are) (All-map (BarsAreAllCpuTime run) (row_of w run) numbers (λ k d l. full w run.time run.switches (get_or numbers k d) whole past))

pub rows_of_tasks : (w : Window) (run : RunView) (numbers : List ℕ) (rows : List RowView) → map (λ t. t.number) run.tasks ≡ numbers → rows ≡ map (row_of w run) numbers → rows ≡ rows_of w run
rows_of_tasks w run numbers rows same are =
    are ∙ ap (map (row_of w run)) (sym same) ∙ map-map (row_of w run) (λ (t : Admitted). t.number) run.tasks

-- of a run that was streamed
pub drawn_rows : (v d : DrawingView) (ls : List ChartLineView) (os : List (Option ℕ)) (rows : List RowView) → v ≡ d → IsDrawingKept v ls os → rows ≡ map (row_by v.window v.streamed.time) ls
    → rows ≡ map (row_of d.window (streamed_run d.streamed [])) d.streamed.tasks
drawn_rows v d ls os rows same drawn closed =
    subst (λ (x : DrawingView). rows ≡ map (row_of x.window (streamed_run x.streamed [])) x.streamed.tasks) same (rows_by_number v.window (streamed_run v.streamed []) v.streamed.tasks ls rows drawn.lines_are closed)

pub drawn_past : (v d : DrawingView) (ls : List ChartLineView) (os : List (Option ℕ)) → v ≡ d → IsDrawingKept v ls os → All (λ s. s.time ≤ d.streamed.time) d.streamed.switches
drawn_past v d ls os same drawn = subst (λ (x : DrawingView). All (λ s. s.time ≤ x.streamed.time) x.streamed.switches) same drawn.past
