-- The runs that are written.
use Rattle.std.specs.Prelude.{IsTrue, List, map, All, AllPairs}
use Rattle.domain_run.specs.Switches.{is_switch_before}
use Rattle.switch_text.specs.declared.run.Run.{Run}
use Rattle.switch_text.specs.Names.{name_of_task, HasLine}
use Rattle.switch_text.specs.Trace.{SwitchesView}

abbrev pub switches_view_of : Run → SwitchesView
switches_view_of r =
    record { base = r.base; names = name_of_task r.names.now; switches = r.switches.now }

abbrev pub views : List Run → List SwitchesView
views runs = map switches_view_of runs

-- each switch has a line, and the switches rise strictly by time and CPU
pub record IsPrintable (r : Run) : Type 0 where
  pub lines : All (HasLine r.names.now r.base) r.switches.now
  pub rising : AllPairs (λ a b. IsTrue (is_switch_before a b)) r.switches.now
