-- The legend, below the plot (own): the colours of CPUs, and what the lines and marks mean.
use Rattle.std.specs.Prelude.{ℕ, ◌+◌, ◌*◌, Bool, true, false, if◌then◌else◌, List, ◌++◌, length, codes}
use Rattle.run_figures.specs.Lines.{numbered_lines}
use Rattle.chart_pieces.specs.declared.row.Sign.{Sign}
use Rattle.chart_pieces.specs.declared.row.Sign.TheVariants.{Released, Due, Ended}
use Rattle.chart.specs.declared.sheet.Sheet.{Sheet}
use Rattle.chart.specs.Sizes.{plot_end}
use Rattle.chart.specs.Colours.{fill_of, legend_cpus}
use Rattle.chart.specs.Pieces.{text_with_number, text_at, path_at, line_class, mark_class, mark_path, number_ink}

-- ---- COLOURS

abbrev pub colour_left : ℕ → ℕ
colour_left place = 150 + place * 28

abbrev pub colour_place : Sheet → ℕ → List ℕ
colour_place s place =
    text_with_number (codes "<rect x=\"") (colour_left place)
    ++ text_with_number (codes "\" y=\"") (plot_end s + 32)

abbrev pub colour_fill : Sheet → ℕ → List ℕ
colour_fill s cpu =
    codes "\" width=\"22\" height=\"14\" fill=\"" ++ (fill_of s.cpus cpu ++ codes "\"/>")

abbrev pub colour_end : ℕ → List ℕ
colour_end cpu = text_with_number (codes "\">") cpu ++ codes "</text>\n"

abbrev pub colour_number : Sheet → ℕ → ℕ → List ℕ
colour_number s place cpu =
    text_at (colour_left place + 11) (plot_end s + 43) ++ (number_ink s cpu ++ colour_end cpu)

-- a box in the CPU's colour, and its number in it
abbrev pub colour_line : Sheet → ℕ → ℕ → List ℕ
colour_line s place cpu =
    colour_place s place ++ (colour_fill s cpu ++ colour_number s place cpu)

abbrev pub colour_title : Sheet → List ℕ
colour_title s =
    text_with_number (codes "<text x=\"142\" y=\"") (plot_end s + 43)
    ++ codes "\" text-anchor=\"end\" font-size=\"11\">CPU</text>\n"

abbrev pub colours : Sheet → List ℕ → List ℕ
colours s cpus = colour_title s ++ numbered_lines (colour_line s) 0 cpus

-- ---- SIGNS: as they are drawn in the plot

abbrev pub sign_at : List ℕ → ℕ → ℕ → List ℕ → List ℕ
sign_at class left top path = path_at class left top path ++ codes "\"/>"

-- what a sign means, beside it
abbrev pub meaning : Sheet → ℕ → List ℕ → List ℕ
meaning s left word =
    text_at left (plot_end s + 43)
    ++ (codes "\" font-size=\"11\">" ++ (word ++ codes "</text>\n"))

-- behind the colours of so many CPUs
abbrev pub signs_left : ℕ → ℕ
signs_left count = 170 + count * 28

abbrev pub line_meaning : Bool → List ℕ
line_meaning throttled = if throttled then codes "throttled" else codes "wants a CPU"

abbrev pub line_sign : Sheet → ℕ → Bool → List ℕ
line_sign s left throttled =
    sign_at (line_class throttled) left (plot_end s + 39) (codes "h30")
    ++ meaning s (left + 36) (line_meaning throttled)

abbrev pub line_signs : Sheet → ℕ → List ℕ
line_signs s left = line_sign s left false ++ line_sign s (left + 176) true

-- how far below the plot it begins, how far from there its meaning is, and its meaning
abbrev pub sign_top : Sign → ℕ
sign_top Released = 44
sign_top Due = 36
sign_top Ended = 32

abbrev pub sign_indent : Sign → ℕ
sign_indent Released = 10
sign_indent Due = 10
sign_indent Ended = 8

abbrev pub mark_meaning : Sign → List ℕ
mark_meaning Released = codes "released"
mark_meaning Due = codes "due"
mark_meaning Ended = codes "ended"

abbrev pub mark_sign : Sheet → ℕ → Sign → List ℕ
mark_sign s left sign =
    sign_at (mark_class sign) left (plot_end s + sign_top sign) (mark_path sign)
    ++ meaning s (left + sign_indent sign) (mark_meaning sign)

abbrev pub mark_signs : Sheet → ℕ → List ℕ
mark_signs s left =
    mark_sign s (left + 330) Released
    ++ (mark_sign s (left + 446) Due ++ mark_sign s (left + 506) Ended)

abbrev pub signs : Sheet → ℕ → List ℕ
signs s left = line_signs s left ++ mark_signs s left

abbrev pub legend_of : Sheet → List ℕ → List ℕ
legend_of s cpus = colours s cpus ++ signs s (signs_left (length cpus))

abbrev pub legend : Sheet → List ℕ
legend s = legend_of s (legend_cpus s.cpus)
