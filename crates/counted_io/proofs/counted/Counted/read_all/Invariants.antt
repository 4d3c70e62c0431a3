use Rattle.std.proofs.Common.{◌≡◌, ◌≤◌, ◌^◌}
use Rattle.std.specs.Io.KnownBytes.{Consumes}
use Rattle.counted_io.specs.Sides.{port_calls}
use Rattle.counted_io.proofs.Asked.{AreReads}
use Rattle.counted_io.proofs.counted.Counted.read_all.Given as goal

abbrev pub invariant-loop : goal.invariant-loop
invariant-loop g l = record {
  gone : Consumes (g.R.Read.remaining l.initial.self.port.inner) (g.R.Read.remaining l.self.port.inner) l.bytes.items;
  faults : l.self.faults ≡ l.initial.self.faults;
  asked : AreReads (port_calls l.initial.self) (port_calls l.self) l.counter;
  few : l.counter ≤ 2 ^ 32;
}
