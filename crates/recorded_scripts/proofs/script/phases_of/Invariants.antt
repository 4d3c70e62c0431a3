use Rattle.std.proofs.Common.{◌≡◌, ◌++◌, ◌-◌}
use Rattle.recorded_scripts.specs.Scripts.{phases_of}
use Rattle.recorded_scripts.proofs.script.phases_of.Given as goal

abbrev pub invariant-loop : goal.invariant-loop
invariant-loop l = l.phases.items ++ phases_of (64 - l.counter) l.rest ≡ phases_of 64 l.events
