-- What the code's own faults stand for.
use Rattle.std.specs.Prelude.{ℕ, ◌≡◌, List, [], Option, Some, None, Result, Ok, Err, ◌++◌, codes, decimal, string_bytes}
use Rattle.rtapp_scenario.specs.ScenarioView.{ScenarioView}
use denote.Ref.{Bor}
use Rattle.json_order.specs.Json.{Json}
use Rattle.json_order.specs.Lent.{lent_json}
use Rattle.json_order.specs.declared.lent.LentTree.{LentTree}
use Rattle.rtapp_scenario.specs.Faults.{Fault, no_tasks, duration, unsupported, value, name, policy, too_many, idle}
use Rattle.rtapp_scenario.specs.declared.flaw.Flaw.{Flaw}
use Rattle.rtapp_scenario.specs.declared.flaw.Flaw.TheVariants as flaws
use Rattle.rtapp_scenario.specs.declared.fault.ScenarioFault.{ScenarioFault}
use Rattle.rtapp_scenario.specs.declared.fault.ScenarioFault.TheVariants.{NoTasks, Duration, Unsupported, Value, Name, Policy, TooMany, Idle, Memory}

-- a fault whose key lies in the tree
abbrev pub flaw_seen : Flaw → Fault
flaw_seen (flaws.Unsupported key) = unsupported key.now
flaw_seen (flaws.Value key) = value key.now
flaw_seen flaws.Name = name
flaw_seen flaws.Policy = policy
flaw_seen flaws.TooMany = too_many
flaw_seen flaws.Idle = idle

-- the fault that a test answered, none where it passed
abbrev pub flaw_of : {X : Type 0} → Result X Flaw → Option Fault
flaw_of (Ok x) = None
flaw_of (Err flaw) = Some (flaw_seen flaw)

-- the first fault is this one; want of memory may come before any
abbrev pub IsFaultTold : Option Fault → ScenarioFault → Type 0
IsFaultTold found NoTasks = found ≡ Some no_tasks
IsFaultTold found Duration = found ≡ Some duration
IsFaultTold found (Unsupported key) = found ≡ Some (unsupported (string_bytes key))
IsFaultTold found (Value key) = found ≡ Some (value (string_bytes key))
IsFaultTold found Name = found ≡ Some name
IsFaultTold found Policy = found ≡ Some policy
IsFaultTold found TooMany = found ≡ Some too_many
IsFaultTold found Idle = found ≡ Some idle
IsFaultTold found Memory = Unit {0}

-- what stands in a scenario's place is this fault; want of memory may come before any
abbrev pub IsScenarioFault : Result ScenarioView Fault → ScenarioFault → Type 0
IsScenarioFault found NoTasks = found ≡ Err no_tasks
IsScenarioFault found Duration = found ≡ Err duration
IsScenarioFault found (Unsupported key) = found ≡ Err (unsupported (string_bytes key))
IsScenarioFault found (Value key) = found ≡ Err (value (string_bytes key))
IsScenarioFault found Name = found ≡ Err name
IsScenarioFault found Policy = found ≡ Err policy
IsScenarioFault found TooMany = found ≡ Err too_many
IsScenarioFault found Idle = found ≡ Err idle
IsScenarioFault found Memory = Unit {0}

-- the number of a fault (own)
abbrev pub fault_number : ScenarioFault → ℕ
fault_number NoTasks = 20
fault_number Duration = 21
fault_number (Unsupported key) = 22
fault_number (Value key) = 23
fault_number Name = 24
fault_number Policy = 25
fault_number TooMany = 26
fault_number Idle = 27
fault_number Memory = 28

-- behind the number, the key to mend
abbrev pub key_text : ScenarioFault → List ℕ
key_text NoTasks = []
key_text Duration = []
key_text (Unsupported key) = codes " key " ++ string_bytes key
key_text (Value key) = codes " key " ++ string_bytes key
key_text Name = []
key_text Policy = []
key_text TooMany = []
key_text Idle = []
key_text Memory = []

-- how a fault prints (own)
abbrev pub scenario_fault_text : ScenarioFault → List ℕ
scenario_fault_text fault = codes "scenario " ++ (decimal (fault_number fault) ++ key_text fault)

-- a reference that lies in the tree
abbrev pub ref_seen : Option (Bor (List ℕ)) → Option (List ℕ)
ref_seen None = None
ref_seen (Some text) = Some text.now

-- a value that lies in the tree
abbrev pub tree_seen : Option (Bor LentTree) → Option Json
tree_seen None = None
tree_seen (Some tree) = Some (lent_json tree.now)
