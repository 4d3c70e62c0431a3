use Rattle.std.proofs.Common.{◌≡◌, drop}
use Rattle.rtapp_dialect.specs.Places.{origin_at}
use Rattle.rtapp_dialect.proofs.strict.origin_of.Given as goal

-- what the rest of the insertions make of the offset that is left
abbrev pub invariant-loop-insertion : goal.invariant-loop-insertion
invariant-loop-insertion l = origin_at (drop l.insertion-index l.insertions) l.offset ≡ origin_at l.insertions l.initial.offset
