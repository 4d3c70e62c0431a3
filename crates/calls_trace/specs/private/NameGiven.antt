-- The name that a call gives.
use Rattle.std.specs.Prelude.{ℕ, List, []}
use Rattle.domain_run.specs.declared.call.Call.{Call}
use Rattle.domain_run.specs.declared.call.Call.TheVariants.{Admit, Regrade, Wake, Leave, Advance, Limit, Depart, Arrive}

-- that of the task that comes; empty where none does
abbrev pub name_given : Call → List ℕ
name_given (Admit number name params delay script) = name
name_given (Regrade number params word) = []
name_given (Wake number) = []
name_given (Leave number) = []
name_given (Advance ticks) = []
name_given (Limit limit word) = []
name_given (Depart number) = []
name_given (Arrive number name params script) = name
