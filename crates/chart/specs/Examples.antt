-- Worked rows: the text of a chart.
use Rattle.std.specs.Prelude.{ℕ, ◌≡◌, true, false, [], ◌∷◌, codes, refl}
use Rattle.std.specs.Fmt.{digits}
use Rattle.chart_pieces.specs.declared.row.Bar.{Bar}
use Rattle.chart_pieces.specs.declared.row.Gap.{Gap}
use Rattle.chart_pieces.specs.declared.row.Mark.{Mark}
use Rattle.chart_pieces.specs.declared.row.Sign.{Sign}
use Rattle.chart_pieces.specs.declared.row.Sign.TheVariants.{Released, Due, Ended}
use Rattle.chart_pieces.specs.declared.window.Window.{Window}
use Rattle.chart.specs.Escape.{escaped}
use Rattle.chart.specs.Seconds.{seconds, millis}
use Rattle.chart.specs.Axis.{ticks_of, step_of, unit_name}
use Rattle.chart.specs.Colours.{fill_of, ink_of, legend_cpus}
use Rattle.chart.specs.Rows.{ChartRowView}
use Rattle.chart.specs.Chart.{chart_text}

abbrev window : ℕ → ℕ → Window
window from to = record { from = from; to = to }

abbrev bar : ℕ → ℕ → ℕ → Bar
bar cpu start stop = record { cpu = cpu; start = start; stop = stop }

abbrev throttle : ℕ → ℕ → Gap
throttle start stop = record { throttled = true; start = start; stop = stop }

abbrev wait : ℕ → ℕ → Gap
wait start stop = record { throttled = false; start = start; stop = stop }

abbrev mark : Sign → ℕ → Mark
mark sign time = record { sign = sign; time = time }

-- a name of hostile bytes opens and closes nothing
hostile : escaped (codes "a<b>&\"c'") ≡ codes "a&lt;b&gt;&amp;&quot;c'"
hostile = refl

-- seconds, without trailing zeros
time0 : seconds 0 ≡ codes "0"
unfolding digits
time0 = refl

time1 : seconds 250000 ≡ codes "0.25"
unfolding digits
time1 = refl

time2 : seconds 1000000 ≡ codes "1"
unfolding digits
time2 = refl

time3 : seconds 59000500 ≡ codes "59.0005"
unfolding digits
time3 = refl

time4 : seconds 1 ≡ codes "0.000001"
unfolding digits
time4 = refl

time5 : seconds 12345678 ≡ codes "12.345678"
unfolding digits
time5 = refl

-- milliseconds, without trailing zeros
time6 : millis 12345 ≡ codes "12.345"
unfolding digits
time6 = refl

time7 : millis 1000500 ≡ codes "1000.5"
unfolding digits
time7 = refl

-- an axis of less than a second is in milliseconds
unit0 : unit_name (window 5 1000004) ≡ codes "ms"
unit0 = refl

unit1 : unit_name (window 5 1000005) ≡ codes "s"
unit1 = refl

-- steps of 1, 2 or 5 times a power of ten: at most eleven ticks, at whole steps
step0 : step_of 1 ≡ 1
step0 = refl

step1 : step_of 10 ≡ 1
step1 = refl

step2 : step_of 11 ≡ 2
step2 = refl

step3 : step_of 50 ≡ 5
step3 = refl

step4 : step_of 51 ≡ 10
step4 = refl

step5 : step_of 50000 ≡ 5000
step5 = refl

step6 : step_of 1000000 ≡ 100000
step6 = refl

step7 : step_of 60000000 ≡ 10000000
step7 = refl

step8 : step_of 4398046511104 ≡ 500000000000
step8 = refl

inside : ticks_of (window 1500 3900) ≡ 1500 ∷ 2000 ∷ 2500 ∷ 3000 ∷ 3500 ∷ []
inside = refl

-- to eight CPUs each has a colour, and of more each fifth of them; a light number on a dark one
eighth : fill_of 8 7 ≡ codes "#0C603C"
eighth = refl

ramps : fill_of 12 4 ≡ codes "#414d6b"
ramps = refl

on_dark : ink_of 12 4 ≡ codes "#fff"
on_dark = refl

on_light : ink_of 12 5 ≡ codes "#000"
on_light = refl

fifths : legend_cpus 12 ≡ 0 ∷ 3 ∷ 5 ∷ 8 ∷ 10 ∷ []
fifths = refl

-- TWO TASKS in domains of one CPU each. The first is throttled; the second waits, runs and ends
abbrev first : ChartRowView
first = record {
  name = codes "a<b";
  base = 0;
  row = record {
    number = 1;
    bars = bar 0 0 4 ∷ bar 0 6 9 ∷ [];
    gaps = throttle 4 6 ∷ [];
    marks = mark Released 0 ∷ mark Due 6 ∷ [];
  };
}

abbrev second : ChartRowView
second = record {
  name = codes "&\"t>";
  base = 1;
  row = record {
    number = 1;
    bars = bar 0 4 6 ∷ [];
    gaps = wait 0 4 ∷ [];
    marks = mark Released 0 ∷ mark Due 9 ∷ mark Ended 6 ∷ [];
  };
}

whole : chart_text (window 0 10) 2 (first ∷ second ∷ []) ≡ codes
    "<svg xmlns=\"http://www.w3.org/2000/svg\" viewBox=\"0 0 1200 145\" width=\"100%\" role=\"img\" font-family=\"DejaVu Sans, Verdana, sans-serif\" font-size=\"12\">\n<title>Which task ran where: 2 tasks on 2 CPUs, 0 to 0.00001 s</title>\n<style>.b{stroke:#333;stroke-width:.75}.b,.g,.w,.t,.x,.r,.d{vector-effect:non-scaling-stroke}.g{stroke:#bbb}.w{stroke:#555;stroke-width:1.5}.t{stroke:#b00000;stroke-width:2.5;stroke-dasharray:3 3}.x{stroke:#000;stroke-width:2}.r{stroke:#000;fill:none}.d{stroke:#b00000;fill:none}rect.b:hover{stroke:#000;stroke-width:2.5}@media(max-width:700px){text{font-size:18px}text[text-anchor=end]{font-size:15px}}@media print{.g{stroke:#888}}@page{size:landscape;margin:10mm}</style>\n<rect width=\"1200\" height=\"145\" fill=\"#fff\"/>\n<rect x=\"0\" y=\"15\" width=\"1170\" height=\"34\" fill=\"#f4f4f4\"/>\n<text x=\"142\" y=\"36\" text-anchor=\"end\">a&lt;b</text>\n<text x=\"142\" y=\"70\" text-anchor=\"end\">&amp;&quot;t&gt;</text>\n<svg x=\"150\" y=\"15\" width=\"1020\" height=\"68\" viewBox=\"0 0 10 68\" preserveAspectRatio=\"none\">\n<path class=\"g\" d=\"M0 0V68\"/>\n<path class=\"g\" d=\"M1 0V68\"/>\n<path class=\"g\" d=\"M2 0V68\"/>\n<path class=\"g\" d=\"M3 0V68\"/>\n<path class=\"g\" d=\"M4 0V68\"/>\n<path class=\"g\" d=\"M5 0V68\"/>\n<path class=\"g\" d=\"M6 0V68\"/>\n<path class=\"g\" d=\"M7 0V68\"/>\n<path class=\"g\" d=\"M8 0V68\"/>\n<path class=\"g\" d=\"M9 0V68\"/>\n<path class=\"g\" d=\"M10 0V68\"/>\n<path class=\"t\" d=\"M4 17H6\"><title>a&lt;b is throttled: 0.000004 to 0.000006 s</title></path>\n<rect class=\"b\" x=\"0\" y=\"10\" width=\"4\" height=\"14\" fill=\"#0072B2\"><title>a&lt;b on CPU 0: 0 to 0.000004 s, 4 us</title></rect>\n<rect class=\"b\" x=\"6\" y=\"10\" width=\"3\" height=\"14\" fill=\"#0072B2\"><title>a&lt;b on CPU 0: 0.000006 to 0.000009 s, 3 us</title></rect>\n<path class=\"w\" d=\"M0 51H4\"><title>&amp;&quot;t&gt; wants a CPU: 0 to 0.000004 s</title></path>\n<rect class=\"b\" x=\"4\" y=\"44\" width=\"2\" height=\"14\" fill=\"#E4CC3C\"><title>&amp;&quot;t&gt; on CPU 1: 0.000004 to 0.000006 s, 2 us</title></rect>\n</svg>\n<text x=\"354\" y=\"36\" text-anchor=\"middle\" font-size=\"11\" fill=\"#fff\" pointer-events=\"none\">0</text>\n<text x=\"864\" y=\"36\" text-anchor=\"middle\" font-size=\"11\" fill=\"#fff\" pointer-events=\"none\">0</text>\n<path class=\"r\" d=\"M150 25v-8m-3 4l3 -4l3 4\"><title>a&lt;b is released at 0 s</title></path>\n<path class=\"d\" d=\"M762 39v8m-3 -4l3 4l3 -4\"><title>a&lt;b is due at 0.000006 s</title></path>\n<text x=\"660\" y=\"70\" text-anchor=\"middle\" font-size=\"11\" fill=\"#000\" pointer-events=\"none\">1</text>\n<path class=\"r\" d=\"M150 59v-8m-3 4l3 -4l3 4\"><title>&amp;&quot;t&gt; is released at 0 s</title></path>\n<path class=\"d\" d=\"M1068 73v8m-3 -4l3 4l3 -4\"><title>&amp;&quot;t&gt; is due at 0.000009 s</title></path>\n<path class=\"x\" d=\"M762 59v14\"><title>&amp;&quot;t&gt; ended at 0.000006 s</title></path>\n<text x=\"150\" y=\"11\" text-anchor=\"middle\" font-size=\"11\" fill=\"#333\">0</text>\n<text x=\"150\" y=\"99\" text-anchor=\"middle\" font-size=\"11\" fill=\"#333\">0</text>\n<text x=\"252\" y=\"11\" text-anchor=\"middle\" font-size=\"11\" fill=\"#333\">0.001</text>\n<text x=\"252\" y=\"99\" text-anchor=\"middle\" font-size=\"11\" fill=\"#333\">0.001</text>\n<text x=\"354\" y=\"11\" text-anchor=\"middle\" font-size=\"11\" fill=\"#333\">0.002</text>\n<text x=\"354\" y=\"99\" text-anchor=\"middle\" font-size=\"11\" fill=\"#333\">0.002</text>\n<text x=\"456\" y=\"11\" text-anchor=\"middle\" font-size=\"11\" fill=\"#333\">0.003</text>\n<text x=\"456\" y=\"99\" text-anchor=\"middle\" font-size=\"11\" fill=\"#333\">0.003</text>\n<text x=\"558\" y=\"11\" text-anchor=\"middle\" font-size=\"11\" fill=\"#333\">0.004</text>\n<text x=\"558\" y=\"99\" text-anchor=\"middle\" font-size=\"11\" fill=\"#333\">0.004</text>\n<text x=\"660\" y=\"11\" text-anchor=\"middle\" font-size=\"11\" fill=\"#333\">0.005</text>\n<text x=\"660\" y=\"99\" text-anchor=\"middle\" font-size=\"11\" fill=\"#333\">0.005</text>\n<text x=\"762\" y=\"11\" text-anchor=\"middle\" font-size=\"11\" fill=\"#333\">0.006</text>\n<text x=\"762\" y=\"99\" text-anchor=\"middle\" font-size=\"11\" fill=\"#333\">0.006</text>\n<text x=\"864\" y=\"11\" text-anchor=\"middle\" font-size=\"11\" fill=\"#333\">0.007</text>\n<text x=\"864\" y=\"99\" text-anchor=\"middle\" font-size=\"11\" fill=\"#333\">0.007</text>\n<text x=\"966\" y=\"11\" text-anchor=\"middle\" font-size=\"11\" fill=\"#333\">0.008</text>\n<text x=\"966\" y=\"99\" text-anchor=\"middle\" font-size=\"11\" fill=\"#333\">0.008</text>\n<text x=\"1068\" y=\"11\" text-anchor=\"middle\" font-size=\"11\" fill=\"#333\">0.009</text>\n<text x=\"1068\" y=\"99\" text-anchor=\"middle\" font-size=\"11\" fill=\"#333\">0.009</text>\n<text x=\"1170\" y=\"11\" text-anchor=\"middle\" font-size=\"11\" fill=\"#333\">0.01</text>\n<text x=\"1170\" y=\"99\" text-anchor=\"middle\" font-size=\"11\" fill=\"#333\">0.01</text>\n<text x=\"142\" y=\"11\" text-anchor=\"end\" font-size=\"11\" fill=\"#333\">time in ms</text>\n<text x=\"142\" y=\"126\" text-anchor=\"end\" font-size=\"11\">CPU</text>\n<rect x=\"150\" y=\"115\" width=\"22\" height=\"14\" fill=\"#0072B2\"/><text x=\"161\" y=\"126\" text-anchor=\"middle\" font-size=\"11\" fill=\"#fff\">0</text>\n<rect x=\"178\" y=\"115\" width=\"22\" height=\"14\" fill=\"#E4CC3C\"/><text x=\"189\" y=\"126\" text-anchor=\"middle\" font-size=\"11\" fill=\"#000\">1</text>\n<path class=\"w\" d=\"M226 122h30\"/><text x=\"262\" y=\"126\" font-size=\"11\">wants a CPU</text>\n<path class=\"t\" d=\"M402 122h30\"/><text x=\"438\" y=\"126\" font-size=\"11\">throttled</text>\n<path class=\"r\" d=\"M556 127v-8m-3 4l3 -4l3 4\"/><text x=\"566\" y=\"126\" font-size=\"11\">released</text>\n<path class=\"d\" d=\"M672 119v8m-3 -4l3 4l3 -4\"/><text x=\"682\" y=\"126\" font-size=\"11\">due</text>\n<path class=\"x\" d=\"M732 115v14\"/><text x=\"740\" y=\"126\" font-size=\"11\">ended</text>\n</svg>\n"
unfolding digits
whole = refl

-- A PART of it: bars keep their own times, and the number of a CPU stands in what is seen
part : chart_text (window 5 8) 2
    (record first { row = record first.row { marks = mark Due 6 ∷ [] } }
    ∷ record second { row = record second.row { marks = mark Ended 6 ∷ [] } } ∷ []) ≡ codes
    "<svg xmlns=\"http://www.w3.org/2000/svg\" viewBox=\"0 0 1200 145\" width=\"100%\" role=\"img\" font-family=\"DejaVu Sans, Verdana, sans-serif\" font-size=\"12\">\n<title>Which task ran where: 2 tasks on 2 CPUs, 0.000005 to 0.000008 s</title>\n<style>.b{stroke:#333;stroke-width:.75}.b,.g,.w,.t,.x,.r,.d{vector-effect:non-scaling-stroke}.g{stroke:#bbb}.w{stroke:#555;stroke-width:1.5}.t{stroke:#b00000;stroke-width:2.5;stroke-dasharray:3 3}.x{stroke:#000;stroke-width:2}.r{stroke:#000;fill:none}.d{stroke:#b00000;fill:none}rect.b:hover{stroke:#000;stroke-width:2.5}@media(max-width:700px){text{font-size:18px}text[text-anchor=end]{font-size:15px}}@media print{.g{stroke:#888}}@page{size:landscape;margin:10mm}</style>\n<rect width=\"1200\" height=\"145\" fill=\"#fff\"/>\n<rect x=\"0\" y=\"15\" width=\"1170\" height=\"34\" fill=\"#f4f4f4\"/>\n<text x=\"142\" y=\"36\" text-anchor=\"end\">a&lt;b</text>\n<text x=\"142\" y=\"70\" text-anchor=\"end\">&amp;&quot;t&gt;</text>\n<svg x=\"150\" y=\"15\" width=\"1020\" height=\"68\" viewBox=\"5 0 3 68\" preserveAspectRatio=\"none\">\n<path class=\"g\" d=\"M5 0V68\"/>\n<path class=\"g\" d=\"M6 0V68\"/>\n<path class=\"g\" d=\"M7 0V68\"/>\n<path class=\"g\" d=\"M8 0V68\"/>\n<path class=\"t\" d=\"M4 17H6\"><title>a&lt;b is throttled: 0.000004 to 0.000006 s</title></path>\n<rect class=\"b\" x=\"0\" y=\"10\" width=\"4\" height=\"14\" fill=\"#0072B2\"><title>a&lt;b on CPU 0: 0 to 0.000004 s, 4 us</title></rect>\n<rect class=\"b\" x=\"6\" y=\"10\" width=\"3\" height=\"14\" fill=\"#0072B2\"><title>a&lt;b on CPU 0: 0.000006 to 0.000009 s, 3 us</title></rect>\n<path class=\"w\" d=\"M0 51H4\"><title>&amp;&quot;t&gt; wants a CPU: 0 to 0.000004 s</title></path>\n<rect class=\"b\" x=\"4\" y=\"44\" width=\"2\" height=\"14\" fill=\"#E4CC3C\"><title>&amp;&quot;t&gt; on CPU 1: 0.000004 to 0.000006 s, 2 us</title></rect>\n</svg>\n<text x=\"830\" y=\"36\" text-anchor=\"middle\" font-size=\"11\" fill=\"#fff\" pointer-events=\"none\">0</text>\n<path class=\"d\" d=\"M490 39v8m-3 -4l3 4l3 -4\"><title>a&lt;b is due at 0.000006 s</title></path>\n<text x=\"150\" y=\"70\" text-anchor=\"middle\" font-size=\"11\" fill=\"#000\" pointer-events=\"none\">1</text>\n<path class=\"x\" d=\"M490 59v14\"><title>&amp;&quot;t&gt; ended at 0.000006 s</title></path>\n<text x=\"150\" y=\"11\" text-anchor=\"middle\" font-size=\"11\" fill=\"#333\">0.005</text>\n<text x=\"150\" y=\"99\" text-anchor=\"middle\" font-size=\"11\" fill=\"#333\">0.005</text>\n<text x=\"490\" y=\"11\" text-anchor=\"middle\" font-size=\"11\" fill=\"#333\">0.006</text>\n<text x=\"490\" y=\"99\" text-anchor=\"middle\" font-size=\"11\" fill=\"#333\">0.006</text>\n<text x=\"830\" y=\"11\" text-anchor=\"middle\" font-size=\"11\" fill=\"#333\">0.007</text>\n<text x=\"830\" y=\"99\" text-anchor=\"middle\" font-size=\"11\" fill=\"#333\">0.007</text>\n<text x=\"1170\" y=\"11\" text-anchor=\"middle\" font-size=\"11\" fill=\"#333\">0.008</text>\n<text x=\"1170\" y=\"99\" text-anchor=\"middle\" font-size=\"11\" fill=\"#333\">0.008</text>\n<text x=\"142\" y=\"11\" text-anchor=\"end\" font-size=\"11\" fill=\"#333\">time in ms</text>\n<text x=\"142\" y=\"126\" text-anchor=\"end\" font-size=\"11\">CPU</text>\n<rect x=\"150\" y=\"115\" width=\"22\" height=\"14\" fill=\"#0072B2\"/><text x=\"161\" y=\"126\" text-anchor=\"middle\" font-size=\"11\" fill=\"#fff\">0</text>\n<rect x=\"178\" y=\"115\" width=\"22\" height=\"14\" fill=\"#E4CC3C\"/><text x=\"189\" y=\"126\" text-anchor=\"middle\" font-size=\"11\" fill=\"#000\">1</text>\n<path class=\"w\" d=\"M226 122h30\"/><text x=\"262\" y=\"126\" font-size=\"11\">wants a CPU</text>\n<path class=\"t\" d=\"M402 122h30\"/><text x=\"438\" y=\"126\" font-size=\"11\">throttled</text>\n<path class=\"r\" d=\"M556 127v-8m-3 4l3 -4l3 4\"/><text x=\"566\" y=\"126\" font-size=\"11\">released</text>\n<path class=\"d\" d=\"M672 119v8m-3 -4l3 4l3 -4\"/><text x=\"682\" y=\"126\" font-size=\"11\">due</text>\n<path class=\"x\" d=\"M732 115v14\"/><text x=\"740\" y=\"126\" font-size=\"11\">ended</text>\n</svg>\n"
unfolding digits
part = refl
