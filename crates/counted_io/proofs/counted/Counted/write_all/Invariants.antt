use Rattle.std.proofs.Common.{length, take, ◌-◌, ◌≡◌, ◌≤◌}
use Rattle.std.specs.Io.KnownBytes.{Appends}
use Rattle.counted_io.specs.Sides.{port_calls}
use Rattle.counted_io.proofs.Asked.{AreWrites}
use Rattle.counted_io.proofs.counted.Counted.write_all.Given as goal

abbrev pub invariant-loop-at : goal.invariant-loop-at
invariant-loop-at g l = record {
  taken : Appends (g.W.Write.contents l.initial.self.port.inner) (g.W.Write.contents l.self.port.inner) (take l.at l.bytes);
  within : l.at ≤ length l.bytes;
  faults : l.self.faults ≡ l.initial.self.faults;
  empty : length l.bytes ≡ 0 → l.self ≡ l.initial.self;
  asked : AreWrites (port_calls l.initial.self) (port_calls l.self) (length l.bytes) l.at;
}

abbrev pub decreases-loop-at : goal.decreases-loop-at
decreases-loop-at g l = length l.bytes - l.at
