use Rattle.std.proofs.Common.{take}
use Rattle.std.specs.Prelude.{flat_map}
use Rattle.chart.specs.Escape.{reference}
use Rattle.draft.specs.Draft.{Adds}
use Rattle.chart.proofs.texts.put_escaped.Given as goal

abbrev pub invariant-loop-byte : goal.invariant-loop-byte
invariant-loop-byte l = Adds l.initial.out l.out (flat_map reference (take l.byte-index l.text))
