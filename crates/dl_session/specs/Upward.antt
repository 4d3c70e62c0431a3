-- How the program tells the faults of the crates below it (own).
use Rattle.session.specs.declared.fault.AdmitFault.{AdmitFault}
use Rattle.session.specs.declared.fault.AdmitFault.TheVariants as admissions
use Rattle.session.specs.declared.fault.EndFault.{EndFault}
use Rattle.session.specs.declared.fault.EndFault.TheVariants as ends
use Rattle.calls_trace.specs.declared.fault.ReplayFault.{ReplayFault}
use Rattle.calls_trace.specs.declared.fault.ReplayFault.TheVariants as replays
use Rattle.calls_trace.specs.declared.fault.TraceFault.{TraceFault}
use Rattle.calls_trace.specs.declared.fault.TraceFault.TheVariants as traces
use Rattle.dl_session.specs.declared.fault.SessionFault.{SessionFault}
use Rattle.dl_session.specs.declared.fault.SessionFault.TheVariants as faults

-- why a session's clients could not admit
abbrev pub of_admission : AdmitFault → SessionFault
of_admission admissions.Start = faults.Start
of_admission admissions.Memory = faults.Memory

-- why a run did not come to its end
abbrev pub of_end : EndFault → SessionFault
of_end ends.Full = faults.Full
of_end ends.Memory = faults.Memory

-- why a replay ended
abbrev pub of_replay : ReplayFault → SessionFault
of_replay (replays.Calls n) = faults.Calls n
of_replay replays.Read = faults.Read
of_replay (replays.Write written) = faults.Write written
of_replay replays.Memory = faults.Memory

-- why a trace was not written
abbrev pub from_trace : TraceFault → SessionFault
from_trace (traces.Write written) = faults.Write written
from_trace traces.Memory = faults.Memory

-- why nobody, or not everybody, could ask: a growth was refused, or a thread was not started
abbrev pub IsUnasked : SessionFault → Type 0
IsUnasked faults.Start = Unit {0}
IsUnasked faults.Memory = Unit {0}
IsUnasked _ = ⊥
