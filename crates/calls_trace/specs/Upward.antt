-- How a replay tells a fault of the trace, and one of the calls text (own).
use Rattle.calls_text.specs.declared.fault.CallsFault.{CallsFault}
use Rattle.calls_text.specs.declared.fault.CallsFault.TheVariants as calls
use Rattle.calls_trace.specs.declared.fault.TraceFault.{TraceFault}
use Rattle.calls_trace.specs.declared.fault.TraceFault.TheVariants as traces
use Rattle.calls_trace.specs.declared.fault.ReplayFault.{ReplayFault}
use Rattle.calls_trace.specs.declared.fault.ReplayFault.TheVariants as replays

abbrev pub of_trace : TraceFault → ReplayFault
of_trace (traces.Write written) = replays.Write written
of_trace traces.Memory = replays.Memory

abbrev pub of_calls : CallsFault → ReplayFault
of_calls (calls.BadLine n) = replays.Calls n
of_calls calls.Memory = replays.Memory
