use Rattle.std.proofs.Common.{◌≡◌, ◌++◌, drop}
use Rattle.rtapp_dialect.specs.Filling.{filled_from, inserted_from, values_filled, values_inserted}
use Rattle.rtapp_dialect.proofs.filling.fill.Given as goal

-- what was written, and what the rest of the text will give
abbrev pub invariant-loop-i : goal.invariant-loop-i
invariant-loop-i l = record { text : l.filled.items ++ filled_from l.spot.quote l.spot.last l.spot.inside.items (drop l.i l.text) ≡ values_filled l.text; insertions : l.insertions.items ++ inserted_from l.spot.quote l.spot.last l.spot.inside.items l.i (drop l.i l.text) ≡ values_inserted l.text }
