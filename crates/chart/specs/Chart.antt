-- The chart: one SVG file without script (own; elements and attributes as in SVG 1.1). In the plot,
-- an inner svg, x is the time itself in microseconds, so no time is rounded there.
use Rattle.std.specs.Prelude.{ℕ, ◌+◌, ◌-◌, List, ◌++◌, length, flat_map, codes}
use Rattle.run_figures.specs.Lines.{numbered_lines}
use Rattle.chart_pieces.specs.declared.window.Window.{Window}
use Rattle.chart.specs.declared.sheet.Sheet.{Sheet}
use Rattle.chart.specs.Sizes.{sheet_of, label_foot, plot_height, plot_end, pixel_of}
use Rattle.chart.specs.Axis.{ticks_of, axis_time, unit_name}
use Rattle.chart.specs.Rows.{ChartRowView}
use Rattle.chart.specs.Pieces.{text_with_number, text_at, times, name_lines, row_lines, over_lines}
use Rattle.chart.specs.Legend.{legend}

-- ---- THE HEAD

abbrev pub chart_height : Sheet → ℕ
chart_height s = plot_end s + 62

abbrev pub opening : Sheet → List ℕ
opening s =
    text_with_number (codes "<svg xmlns=\"http://www.w3.org/2000/svg\" viewBox=\"0 0 1200 ")
    (chart_height s)
    ++ codes
    "\" width=\"100%\" role=\"img\" font-family=\"DejaVu Sans, Verdana, sans-serif\" font-size=\"12\">\n"

abbrev pub counts : Sheet → List ℕ
counts s =
    text_with_number (codes "<title>Which task ran where: ") s.rows
    ++ text_with_number (codes " tasks on ") s.cpus

abbrev pub span : Sheet → List ℕ
span s = codes " CPUs, " ++ (times s.window.from s.window.to ++ codes "</title>\n")

abbrev pub chart_title : Sheet → List ℕ
chart_title s = counts s ++ span s

-- small pictures have larger texts, and a page is best printed in landscape
abbrev pub style : List ℕ
style = codes
    "<style>.b{stroke:#333;stroke-width:.75}.b,.g,.w,.t,.x,.r,.d{vector-effect:non-scaling-stroke}.g{stroke:#bbb}.w{stroke:#555;stroke-width:1.5}.t{stroke:#b00000;stroke-width:2.5;stroke-dasharray:3 3}.x{stroke:#000;stroke-width:2}.r{stroke:#000;fill:none}.d{stroke:#b00000;fill:none}rect.b:hover{stroke:#000;stroke-width:2.5}@media(max-width:700px){text{font-size:18px}text[text-anchor=end]{font-size:15px}}@media print{.g{stroke:#888}}@page{size:landscape;margin:10mm}</style>\n"

abbrev pub background : Sheet → List ℕ
background s =
    text_with_number (codes "<rect width=\"1200\" height=\"") (chart_height s)
    ++ codes "\" fill=\"#fff\"/>\n"

abbrev pub head : Sheet → List ℕ
head s = opening s ++ (chart_title s ++ (style ++ background s))

-- ---- THE PLOT

abbrev pub plot_size : Sheet → List ℕ
plot_size s =
    text_with_number (codes "<svg x=\"150\" y=\"15\" width=\"1020\" height=\"") (plot_height s)

abbrev pub plot_view : Sheet → List ℕ
plot_view s =
    text_with_number (codes "\" viewBox=\"") s.window.from
    ++ (text_with_number (codes " 0 ") (s.window.to - s.window.from)
    ++ (text_with_number (codes " ") (plot_height s) ++ codes "\" preserveAspectRatio=\"none\">\n"))

abbrev pub plot_opening : Sheet → List ℕ
plot_opening s = plot_size s ++ plot_view s

abbrev pub grid_line : Sheet → ℕ → List ℕ
grid_line s time =
    text_with_number (codes "<path class=\"g\" d=\"M") time
    ++ (text_with_number (codes " 0V") (plot_height s) ++ codes "\"/>\n")

abbrev pub plot : Sheet → List ℕ → List ChartRowView → List ℕ
plot s ticks rows =
    plot_opening s ++ (flat_map (grid_line s) ticks
    ++ (numbered_lines (row_lines s) 0 rows ++ codes "</svg>\n"))

-- ---- THE AXIS

abbrev pub label : Sheet → ℕ → ℕ → List ℕ
label s top time =
    text_at (pixel_of s time) top
    ++ (codes "\" text-anchor=\"middle\" font-size=\"11\" fill=\"#333\">"
    ++ (axis_time s.window time ++ codes "</text>\n"))

-- above the plot and below it
abbrev pub labels : Sheet → ℕ → List ℕ
labels s time = label s label_foot time ++ label s (plot_end s + 16) time

-- it names its unit
abbrev pub axis_name : Sheet → List ℕ
axis_name s =
    text_at 142 label_foot
    ++ (codes "\" text-anchor=\"end\" font-size=\"11\" fill=\"#333\">time in "
    ++ (unit_name s.window ++ codes "</text>\n"))

abbrev pub axis : Sheet → List ℕ → List ℕ
axis s ticks =
    flat_map (labels s) ticks ++ axis_name s

-- ---- ALL

abbrev pub upper : Sheet → List ℕ → List ChartRowView → List ℕ
upper s ticks rows = head s ++ (numbered_lines (name_lines s) 0 rows ++ plot s ticks rows)

abbrev pub lower : Sheet → List ℕ → List ChartRowView → List ℕ
lower s ticks rows =
    numbered_lines (over_lines s) 0 rows ++ (axis s ticks ++ (legend s ++ codes "</svg>\n"))

abbrev pub chart_of : Sheet → List ℕ → List ChartRowView → List ℕ
chart_of s ticks rows = upper s ticks rows ++ lower s ticks rows

-- of a window, on a machine of so many CPUs
abbrev pub chart_text : Window → ℕ → List ChartRowView → List ℕ
chart_text window cpus rows =
    chart_of (sheet_of window cpus (length rows)) (ticks_of window) rows
