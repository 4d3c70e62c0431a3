-- What the program prints on standard error (own).
use Rattle.std.specs.Prelude.{ℕ, List, [], ◌++◌, codes, decimal, string_bytes}
use Rattle.one_line.specs.Shown.{shown}
use Rattle.json_order.specs.Fault.{kind_number}
use Rattle.json_order.specs.declared.fault.JsonFault.{JsonFault}
use Rattle.rtapp_scenario.specs.FaultText.{fault_number}
use Rattle.rtapp_scenario.specs.declared.fault.ScenarioFault.{ScenarioFault}
use Rattle.rtapp_scenario.specs.declared.fault.ScenarioFault.TheVariants.{NoTasks, Duration, Unsupported, Value, Name, Policy, TooMany, Idle, Memory}
use Rattle.dl_session.specs.declared.fault.SessionFault.{SessionFault}
use Rattle.dl_session.specs.declared.fault.SessionFault.TheVariants as faults
use Rattle.dl_session.specs.declared.fault.RefusedLine.{RefusedLine}
use Rattle.session.specs.RefusalText.{refusal_text}

-- after the number of a scenario's fault: the key to mend, on one line
abbrev pub key_shown : ScenarioFault → List ℕ
key_shown NoTasks = []
key_shown Duration = []
key_shown (Unsupported key) = codes " key " ++ shown (string_bytes key)
key_shown (Value key) = codes " key " ++ shown (string_bytes key)
key_shown Name = []
key_shown Policy = []
key_shown TooMany = []
key_shown Idle = []
key_shown Memory = []

-- the text of a scenario's fault
abbrev pub scenario_text : ScenarioFault → List ℕ
scenario_text fault = codes "scenario " ++ (decimal (fault_number fault) ++ key_shown fault)

-- the text of a fault of a JSON text
abbrev pub json_text : JsonFault → List ℕ
json_text fault =
    codes "json " ++ (decimal (kind_number fault.kind) ++ (codes " at " ++ decimal fault.at))

-- the text of a fault: one line, without the program's name and the LF
abbrev pub fault_text : SessionFault → List ℕ
fault_text (faults.Json fault) = json_text fault
fault_text (faults.Scenario fault) = scenario_text fault
fault_text (faults.Calls n) = codes "calls 30 line " ++ decimal n
fault_text faults.Read = codes "read failed"
fault_text (faults.Write written) = codes "write failed after " ++ decimal written
fault_text faults.Start = codes "no thread"
fault_text faults.Full = codes "book full"
fault_text faults.Memory = codes "out of memory"

-- the line of a refused task
abbrev pub refused_line : RefusedLine → List ℕ
refused_line line =
    codes "dlsim: task " ++ (decimal line.number ++ (codes " " ++ refusal_text line.refusal))
