use Rattle.std.proofs.Common.{◌≡◌, ◌++◌, drop}
use Rattle.rtapp_dialect.specs.Repeats.{repeats_from, repeats_in}
use Rattle.rtapp_dialect.proofs.repeats.repeated_keys.Given as goal

-- what was found, and what the rest of the text will give
abbrev pub invariant-loop-i : goal.invariant-loop-i
invariant-loop-i l = l.repeats.items ++ repeats_from l.text l.spot.quote l.spot.last l.spot.inside.items l.keys.start l.keys.marks.items l.keys.keys.items l.i (drop l.i l.text) ≡ repeats_in l.text
