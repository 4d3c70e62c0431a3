-- The switches that are still to be made.
use Rattle.std.specs.Prelude.{ℕ, List}
use Rattle.domain_run.specs.Switch.{Switch}
use Rattle.domain_run.specs.Domain.{Domain}
use Rattle.domain_run.specs.Passing.{without_switches}
use Rattle.domain_run.specs.Tick.{ticks}

-- those that `n` ticks will make
abbrev pub switches_to_come : ℕ → Domain → List Switch
switches_to_come n d = (ticks n (without_switches d)).switches
