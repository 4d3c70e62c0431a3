use Rattle.std.proofs.Common.{◌≡◌, ◌<◌, ◌^◌, drop}
use Rattle.recorded_text.specs.Line.{digits_on}
use Rattle.recorded_text.proofs.number.number.Given as goal

abbrev pub invariant-loop-b : goal.invariant-loop-b
invariant-loop-b l = record { so_far : digits_on l.n (drop l.b-index l.text) ≡ digits_on 0 l.text; below : l.n < 10 ^ l.b-index }
