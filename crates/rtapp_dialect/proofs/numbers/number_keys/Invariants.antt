use Rattle.std.proofs.Common.{◌≡◌, ◌++◌, drop}
use Rattle.std.specs.Prelude.{map}
use Rattle.rtapp_dialect.specs.Numbers.{keys_from, keys_numbered, number_inserted, numbers_inserted}
use Rattle.rtapp_dialect.proofs.numbers.number_keys.Given as goal

-- what was written, and what the rest of the text will give
abbrev pub invariant-loop-repeat : goal.invariant-loop-repeat
invariant-loop-repeat l = record { text : l.numbered.items ++ keys_from l.text l.start (drop l.repeat-index l.repeat-items) ≡ keys_numbered l.text; insertions : l.insertions.items ++ map number_inserted (drop l.repeat-index l.repeat-items) ≡ numbers_inserted l.text }
