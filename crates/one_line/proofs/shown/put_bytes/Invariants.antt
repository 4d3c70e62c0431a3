use Rattle.std.proofs.Common.{take}
use Rattle.std.specs.Prelude.{flat_map}
use Rattle.draft.specs.Draft.{Adds}
use Rattle.one_line.specs.Shown.{shown_byte}
use Rattle.one_line.proofs.shown.put_bytes.Given as goal

-- the bytes so far were put
abbrev pub invariant-loop-byte : goal.invariant-loop-byte
invariant-loop-byte l = Adds l.initial.out l.out (flat_map shown_byte (take l.byte-index l.bytes))
