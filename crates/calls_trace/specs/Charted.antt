-- The chart of the runs of the sections that a calls text spells (own).
use Rattle.std.specs.Prelude.{ℕ, ◌+◌, List, [], ◌∷◌, ◌++◌, map, fold, max, sum_by}
use Rattle.calls_text.specs.SectionView.{SectionView}
use Rattle.chart_pieces.specs.declared.window.Span.{Span}
use Rattle.chart_pieces.specs.declared.window.Window.{Window}
use Rattle.chart_pieces.specs.RowView.{RowView}
use Rattle.chart_pieces.specs.Window.{window_of}
use Rattle.chart_pieces.specs.Rows.{rows_of}
use Rattle.chart.specs.Rows.{ChartRowView}
use Rattle.chart.specs.Chart.{chart_text}
use Rattle.calls_trace.specs.DomainEvents.{domain_of, names_in, figures_view}

-- the runs end where the last of them does
abbrev pub last_time : List SectionView → ℕ
last_time sections = fold (λ end s. max end (domain_of s).time) 0 sections

-- the CPUs of the machine are those of all domains
abbrev pub cpus_of_sections : List SectionView → ℕ
cpus_of_sections sections = sum_by (λ s. s.cpus) sections

-- a row of the chart: the name of its task, and the CPU of the machine that is CPU 0 of its domain
abbrev pub chart_row_of : (ℕ → List ℕ) → ℕ → RowView → ChartRowView
chart_row_of names base row = record { name = names row.number; base = base; row = row }

-- the rows of a section, by task
abbrev pub rows_at : Window → ℕ → SectionView → List ChartRowView
rows_at window base s = map (chart_row_of (names_in s) base) (rows_of window (figures_view s))

-- the first domain has the first CPUs of the machine, the second the next ones
abbrev pub rows_from : Window → ℕ → List SectionView → List ChartRowView
rows_from window base [] = []
rows_from window base (s ∷ ss) =
    rows_at window base s ++ rows_from window (base + s.cpus) ss

-- CHART of the window that shows what is asked for
abbrev pub chart_in : Window → List SectionView → List ℕ
chart_in window sections =
    chart_text window (cpus_of_sections sections) (rows_from window 0 sections)

abbrev pub chart_of_sections : Span → List SectionView → List ℕ
chart_of_sections span sections = chart_in (window_of span (last_time sections)) sections
