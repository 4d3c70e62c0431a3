use Rattle.std.proofs.Common.{◌≡◌, ◌*◌, ◌≤◌, ◌^◌, map, length}
use Rattle.recorded_text.specs.Names.{Grows}
use Rattle.recorded_text.specs.Steps.{step_view, AreNamed}
use Rattle.recorded_text.specs.private.SoFar.{Lacks, AreDone, BringsOn}
use Rattle.counted_io.specs.Sides.{inner_of, port_calls}
use Rattle.counted_io.proofs.CallerLemmas.{AreReads}
use Rattle.recorded_text.proofs.reading.read_switches.Given as goal

abbrev pub invariant-loop : goal.invariant-loop
invariant-loop g l = record {
  done : AreDone (g.R.Read.remaining (inner_of l.initial.reader)) (g.R.Read.remaining (inner_of l.reader)) l.rest.items l.lines (map (step_view l.names) l.steps.items);
  called : BringsOn l.initial.names l.names (map (step_view l.names) l.steps.items);
  lacks : Lacks 10 l.rest.items;
  named : AreNamed l.names l.steps.items;
  few : l.lines ≤ l.counter * 65536;
  room : length l.piece ≡ 65536;
  faults : l.reader.faults ≡ l.initial.reader.faults;
  grows : Grows l.initial.names l.names;
  asked : AreReads (port_calls l.initial.reader) (port_calls l.reader) l.counter;
  turns : l.counter ≤ 2 ^ 32;
}
