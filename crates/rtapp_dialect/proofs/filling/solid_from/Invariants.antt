use Rattle.std.proofs.Common.{◌≡◌, drop}
use Rattle.rtapp_dialect.specs.Filling.{first_solid}
use Rattle.rtapp_dialect.proofs.filling.solid_from.Given as goal

-- the bytes so far are white space
abbrev pub invariant-loop-byte : goal.invariant-loop-byte
invariant-loop-byte l = first_solid (drop l.byte-index l.byte-items) ≡ first_solid l.byte-items
