-- A fault of one of the texts. No public clause names it.
use Rattle.std.specs.Prelude.{◌≡◌}
use Rattle.recorded_text.specs.declared.fault.RecordedFault.{RecordedFault}
use Rattle.recorded_text.specs.declared.fault.RecordedFault.TheVariants as recorded
use Rattle.counted_io.specs.Sides.{Side, HasNoFault, HasOneFault}
use Rattle.compare_report.specs.declared.fault.CompareFault.{CompareFault}
use Rattle.compare_report.specs.declared.fault.CompareFault.TheVariants.{BadLine, NoSwitch, Read, Endless, Write, Memory}
use Rattle.compare_report.specs.declared.fault.Input.{Input}
use Rattle.compare_report.specs.Answer.{HasBadLine, HasNoSwitch}

-- as a fault of the text
abbrev pub fault_of_input : Input → RecordedFault → CompareFault
fault_of_input input (recorded.BadLine n) = BadLine input n
fault_of_input input recorded.Read = Read input
fault_of_input input recorded.Endless = Endless input
fault_of_input input recorded.Memory = Memory

-- what it says of the text and its reader
abbrev pub IsTextFault : Input → Side → CompareFault → Type 0
IsTextFault input s (BadLine i n) = (i ≡ input) × HasBadLine n s
IsTextFault input s (NoSwitch i) = (i ≡ input) × HasNoSwitch s
IsTextFault input s (Read i) = (i ≡ input) × HasOneFault s
IsTextFault input s (Endless i) = (i ≡ input) × HasNoFault s
IsTextFault input s (Write n) = ⊥
IsTextFault input s Memory = HasNoFault s
