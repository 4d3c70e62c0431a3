-- How a fault of a calls text prints.
use Rattle.std.specs.Prelude.{ℕ, List, ◌++◌, codes, decimal}
use Rattle.calls_text.specs.declared.fault.CallsFault.{CallsFault}
use Rattle.calls_text.specs.declared.fault.CallsFault.TheVariants.{BadLine, Memory}

-- own
abbrev pub calls_fault_text : CallsFault → List ℕ
calls_fault_text (BadLine n) = codes "bad line " ++ decimal n
calls_fault_text Memory = codes "out of memory"
