-- How the program tells a fault by its exit status (own).
use Rattle.std.specs.Prelude.{ℕ}
use Rattle.dl_session.specs.declared.fault.SessionFault.{SessionFault}
use Rattle.dl_session.specs.declared.fault.SessionFault.TheVariants.{Json, Scenario, Calls, Read, Write, Start, Full, Memory}

-- 1 for bad input; 3 where reading or writing failed, a thread was not started or a history was
-- full; 4 for want of memory
abbrev pub exit_status : SessionFault → ℕ
exit_status (Json fault) = 1
exit_status (Scenario fault) = 1
exit_status (Calls n) = 1
exit_status Read = 3
exit_status (Write written) = 3
exit_status Start = 3
exit_status Full = 3
exit_status Memory = 4
