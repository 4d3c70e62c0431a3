use Rattle.std.proofs.Common.{◌≡◌, ◌<◌, ◌≤◌, ℕ, length}
use Rattle.std.specs.Prelude.{slice_index}
use Rattle.std.specs.Mem.Slots.{slots_items}
use Rattle.bw_gate.specs.Word.{cap_of}
use Rattle.bw_gate.proofs.dealing.caps_of.Given as goal

abbrev pub invariant-loop-i : goal.invariant-loop-i
invariant-loop-i l =
    (length l.cap ≡ 8) × ((d : ℕ) → d < l.i → slice_index l.cap d ≡ cap_of (slice_index (slots_items l.closed.words) d))
    × ((d : ℕ) → l.i ≤ d → slice_index l.cap d ≡ 0)
