-- The elements of a row (own): its band and name, the lines between its bars, its bars, and its
-- marks.
use Rattle.std.specs.Prelude.{ℕ, ◌+◌, ◌-◌, ◌/◌, ◌%◌, ◌==◌, ◌&&◌, Bool, true, nat_le, nat_lt, min, max, if◌then◌else◌, List, [], ◌++◌, length, flat_map, codes, decimal}
use Rattle.chart_pieces.specs.declared.row.Bar.{Bar}
use Rattle.chart_pieces.specs.declared.row.Gap.{Gap}
use Rattle.chart_pieces.specs.declared.row.Mark.{Mark}
use Rattle.chart_pieces.specs.declared.row.Sign.{Sign}
use Rattle.chart_pieces.specs.declared.row.Sign.TheVariants.{Released, Due, Ended}
use Rattle.chart_pieces.specs.Bars.{us}
use Rattle.chart.specs.declared.sheet.Sheet.{Sheet}
use Rattle.chart.specs.Escape.{escaped}
use Rattle.chart.specs.Seconds.{seconds}
use Rattle.chart.specs.Sizes.{is_tall, plot_top, row_top, pixels, pixel_of}
use Rattle.chart.specs.Colours.{fill_of, ink_of}
use Rattle.chart.specs.Rows.{ChartRowView}

-- a text with a number behind it
abbrev pub text_with_number : List ℕ → ℕ → List ℕ
text_with_number text n = text ++ decimal n

-- the beginning of a text at a place
abbrev pub text_at : ℕ → ℕ → List ℕ
text_at x y = text_with_number (codes "<text x=\"") x ++ text_with_number (codes "\" y=\"") y

-- ---- LINES AND MARKS: the signs of the plot and of the legend

abbrev pub class_begins : List ℕ → List ℕ
class_begins class = codes "<path class=\"" ++ class

-- the path of a class, to where it begins
abbrev pub path_begins : List ℕ → ℕ → ℕ → List ℕ
path_begins class x y =
    class_begins class
    ++ (text_with_number (codes "\" d=\"M") x ++ text_with_number (codes " ") y)

-- and how it goes on
abbrev pub path_at : List ℕ → ℕ → ℕ → List ℕ → List ℕ
path_at class x y path = path_begins class x y ++ path

-- a line where the task is throttled, or wants a CPU
abbrev pub line_class : Bool → List ℕ
line_class throttled = if throttled then codes "t" else codes "w"

abbrev pub mark_class : Sign → List ℕ
mark_class Released = codes "r"
mark_class Due = codes "d"
mark_class Ended = codes "x"

-- an arrow up, an arrow down, a thick line
abbrev pub mark_path : Sign → List ℕ
mark_path Released = codes "v-8m-3 4l3 -4l3 4"
mark_path Due = codes "v8m-3 -4l3 4l3 -4"
mark_path Ended = codes "v14"

-- ---- WHAT A POINTER SHOWS: the end of a tag, and in it a title that begins with a name

abbrev pub title_begins : List ℕ → List ℕ
title_begins name = codes "\"><title>" ++ escaped name

abbrev pub times : ℕ → ℕ → List ℕ
times start stop = seconds start ++ (codes " to " ++ (seconds stop ++ codes " s"))

-- ---- NAMES

abbrev pub band_box : Sheet → ℕ → List ℕ
band_box s place =
    text_with_number (codes "<rect x=\"0\" y=\"") (plot_top + row_top s place)
    ++ (text_with_number (codes "\" width=\"1170\" height=\"") s.size.height
    ++ codes "\" fill=\"#f4f4f4\"/>\n")

-- every second row has a band
abbrev pub band : Sheet → ℕ → List ℕ
band s place = if place % 2 == 0 then band_box s place else []

abbrev pub name_size : Sheet → List ℕ
name_size s = if is_tall s then [] else codes " font-size=\"10\""

abbrev pub name_begins : Sheet → ℕ → List ℕ
name_begins s place =
    text_with_number (codes "<text x=\"142\" y=\"") (plot_top + (row_top s place + s.size.foot))
    ++ (codes "\" text-anchor=\"end\"" ++ name_size s)

abbrev pub name_in_text : List ℕ → List ℕ
name_in_text name = codes ">" ++ (escaped name ++ codes "</text>\n")

abbrev pub name_text : Sheet → ℕ → List ℕ → List ℕ
name_text s place name = name_begins s place ++ name_in_text name

-- in the lowest rows every fourth
abbrev pub is_named : Sheet → ℕ → Bool
is_named s place = if nat_le s.rows 96 then true else place % 4 == 0

abbrev pub name_lines : Sheet → ℕ → ChartRowView → List ℕ
name_lines s place r =
    band s place ++ (if is_named s place then name_text s place r.name else [])

-- ---- BETWEEN BARS

abbrev pub gap_word : Gap → List ℕ
gap_word g = if g.throttled then codes " is throttled: " else codes " wants a CPU: "

abbrev pub gap_said : Gap → List ℕ
gap_said g = gap_word g ++ times g.start g.stop

abbrev pub gap_shape : Sheet → ℕ → Gap → List ℕ
gap_shape s place g =
    path_begins (line_class g.throttled) g.start (row_top s place + s.size.middle)
    ++ text_with_number (codes "H") g.stop

abbrev pub gap_title : List ℕ → Gap → List ℕ
gap_title name g = title_begins name ++ (gap_said g ++ codes "</title></path>\n")

abbrev pub gap_line : Sheet → ℕ → List ℕ → Gap → List ℕ
gap_line s place name g = gap_shape s place g ++ gap_title name g

-- ---- BARS

abbrev pub bar_box : Sheet → ℕ → Bar → List ℕ
bar_box s place b =
    text_with_number (codes "<rect class=\"b\" x=\"") b.start
    ++ (text_with_number (codes "\" y=\"") (row_top s place + s.size.bar_top)
    ++ (text_with_number (codes "\" width=\"") (us b)
    ++ text_with_number (codes "\" height=\"") s.size.bar_height))

abbrev pub bar_fill : Sheet → ℕ → Bar → List ℕ
bar_fill s base b = codes "\" fill=\"" ++ fill_of s.cpus (base + b.cpu)

abbrev pub bar_said : ℕ → Bar → List ℕ
bar_said base b =
    text_with_number (codes " on CPU ") (base + b.cpu)
    ++ (codes ": " ++ (times b.start b.stop
    ++ (text_with_number (codes ", ") (us b) ++ codes " us")))

abbrev pub bar_shape : Sheet → ℕ → ℕ → Bar → List ℕ
bar_shape s place base b = bar_box s place b ++ bar_fill s base b

abbrev pub bar_title : ChartRowView → Bar → List ℕ
bar_title r b = title_begins r.name ++ (bar_said r.base b ++ codes "</title></rect>\n")

abbrev pub bar_line : Sheet → ℕ → ChartRowView → Bar → List ℕ
bar_line s place r b = bar_shape s place r.base b ++ bar_title r b

-- what stands inside the plot: the lines, and over them the bars
abbrev pub row_lines : Sheet → ℕ → ChartRowView → List ℕ
row_lines s place r =
    flat_map (gap_line s place r.name) r.row.gaps ++ flat_map (bar_line s place r) r.row.bars

-- ---- NUMBERS OF CPUS, in the middle of what is seen of a bar, where there are several CPUs, the
-- row is tall and the bar wide enough

abbrev pub seen_from : Sheet → Bar → ℕ
seen_from s b = max b.start s.window.from

abbrev pub seen_to : Sheet → Bar → ℕ
seen_to s b = min b.stop s.window.to

-- the more digits, the wider
abbrev pub number_width : ℕ → ℕ
number_width cpu = if nat_lt cpu 10 then 16 else (if nat_lt cpu 100 then 22 else 28)

abbrev pub seen_width : Sheet → Bar → ℕ
seen_width s b = pixels s (seen_to s b - seen_from s b)

abbrev pub has_number : Sheet → ℕ → Bar → Bool
has_number s base b =
    is_tall s && (nat_lt 1 s.cpus && nat_le (number_width (base + b.cpu)) (seen_width s b))

abbrev pub number_place : Sheet → ℕ → Bar → List ℕ
number_place s place b =
    text_at (pixel_of s ((seen_from s b + seen_to s b) / 2))
    (plot_top + (row_top s place + s.size.foot))

abbrev pub number_ink : Sheet → ℕ → List ℕ
number_ink s cpu =
    codes "\" text-anchor=\"middle\" font-size=\"11\" fill=\"" ++ ink_of s.cpus cpu

abbrev pub number_end : ℕ → List ℕ
number_end cpu = text_with_number (codes "\" pointer-events=\"none\">") cpu ++ codes "</text>\n"

abbrev pub number_text : Sheet → ℕ → ℕ → Bar → List ℕ
number_text s place base b =
    number_place s place b ++ (number_ink s (base + b.cpu) ++ number_end (base + b.cpu))

abbrev pub number_line : Sheet → ℕ → ℕ → Bar → List ℕ
number_line s place base b = if has_number s base b then number_text s place base b else []

-- ---- MARKS

-- how far below the top of the row its path begins
abbrev pub mark_top : Sign → ℕ
mark_top Released = 10
mark_top Due = 24
mark_top Ended = 10

abbrev pub mark_word : Sign → List ℕ
mark_word Released = codes " is released at "
mark_word Due = codes " is due at "
mark_word Ended = codes " ended at "

abbrev pub mark_said : Mark → List ℕ
mark_said m = mark_word m.sign ++ (seconds m.time ++ codes " s")

abbrev pub mark_shape : Sheet → ℕ → Mark → List ℕ
mark_shape s place m =
    path_at (mark_class m.sign) (pixel_of s m.time) (plot_top + (row_top s place + mark_top m.sign))
    (mark_path m.sign)

abbrev pub mark_title : List ℕ → Mark → List ℕ
mark_title name m = title_begins name ++ (mark_said m ++ codes "</title></path>\n")

abbrev pub mark_line : Sheet → ℕ → List ℕ → Mark → List ℕ
mark_line s place name m = mark_shape s place m ++ mark_title name m

-- tall rows have marks, where there are not too many: two for each of 85 jobs
abbrev pub has_marks : Sheet → ChartRowView → Bool
has_marks s r = is_tall s && nat_le (length r.row.marks) 170

abbrev pub mark_lines : Sheet → ℕ → ChartRowView → List ℕ
mark_lines s place r =
    if has_marks s r then flat_map (mark_line s place r.name) r.row.marks else []

-- what stands over the plot
abbrev pub over_lines : Sheet → ℕ → ChartRowView → List ℕ
over_lines s place r =
    flat_map (number_line s place r.base) r.row.bars ++ mark_lines s place r
