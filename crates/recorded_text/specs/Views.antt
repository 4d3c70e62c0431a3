-- What of a line stands in memory, as the definitions see it.
use Rattle.std.specs.Prelude.{◌<◌, ◌^◌}
use Rattle.std.specs.Option.{option_map}
use Rattle.recorded_text.specs.declared.line.Switch.{Switch}
use Rattle.recorded_text.specs.declared.line.Line.{Line}
use Rattle.recorded_text.specs.declared.line.Line.TheVariants as lines
use Rattle.recorded_text.specs.Line.{SwitchView, LineView, Other, Bad, Seen}

abbrev pub switch_view : Switch → SwitchView
switch_view s = record { time = s.time; cpu = s.cpu; next = option_map (λ r. r.now) s.next }

abbrev pub line_view : Line → LineView
line_view lines.Other = Other
line_view lines.Bad = Bad
line_view (lines.Seen s) = Seen (switch_view s)

-- a switch's time is below 2^61, since seconds are below 2^40
abbrev pub HasSmallTime : Line → Type 0
HasSmallTime lines.Other = Unit {0}
HasSmallTime lines.Bad = Unit {0}
HasSmallTime (lines.Seen s) = s.time < 2 ^ 61
