use Rattle.std.proofs.Common.{◌≡◌, ◌≤◌, ◌+◌, take}
use Rattle.std.specs.Prelude.{fold}
use Rattle.rtapp_dialect.specs.Places.{place_after, start_place}
use Rattle.rtapp_dialect.proofs.place.place_of.Given as goal

-- the place after the bytes so far
abbrev pub invariant-loop-byte : goal.invariant-loop-byte
invariant-loop-byte l = record { so_far : l.place ≡ fold place_after start_place (take l.byte-index l.byte-items); lines : l.place.line ≤ l.byte-index + 1; columns : l.place.column ≤ l.byte-index + 1 }
