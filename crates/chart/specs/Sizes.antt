-- The sizes of the chart, in pixels (own): it is 1200 wide, of which 150 are for names and 1020 for
-- time.
use Rattle.std.specs.Prelude.{ℕ, ◌+◌, ◌-◌, ◌*◌, ◌/◌, Bool, nat_le, if◌then◌else◌}
use Rattle.chart_pieces.specs.declared.window.Window.{Window}
use Rattle.chart.specs.declared.sheet.RowSize.{RowSize}
use Rattle.chart.specs.declared.sheet.Sheet.{Sheet}

-- the more rows, the lower they are
abbrev pub size_of : ℕ → RowSize
size_of rows =
    if nat_le rows 24
    then record { height = 34; bar_top = 10; bar_height = 14; middle = 17; foot = 21 } else
    (if nat_le rows 96
    then record { height = 12; bar_top = 2; bar_height = 8; middle = 6; foot = 9 }
    else record { height = 8; bar_top = 1; bar_height = 6; middle = 4; foot = 8 })

abbrev pub sheet_of : Window → ℕ → ℕ → Sheet
sheet_of window cpus rows =
    record { window = window; cpus = cpus; rows = rows; size = size_of rows }

-- only tall rows have marks, and the numbers of CPUs in their bars
abbrev pub is_tall : Sheet → Bool
is_tall s = nat_le s.rows 24

abbrev pub plot_height : Sheet → ℕ
plot_height s = s.rows * s.size.height

-- where the plot begins, below the times of the axis, and the foot of those
abbrev pub plot_top : ℕ
plot_top = 15

abbrev pub label_foot : ℕ
label_foot = 11

-- where a row begins inside the plot, and where the plot ends
abbrev pub row_top : Sheet → ℕ → ℕ
row_top s place = place * s.size.height

abbrev pub plot_end : Sheet → ℕ
plot_end s = plot_top + plot_height s

-- a length of time, and the place of a time, in whole pixels, rounded down
abbrev pub pixels : Sheet → ℕ → ℕ
pixels s us = us * 1020 / (s.window.to - s.window.from)

abbrev pub pixel_of : Sheet → ℕ → ℕ
pixel_of s time = 150 + pixels s (time - s.window.from)
