-- The run of a section while it is made.
use Rattle.std.specs.Prelude.{ℕ, List, ◌∷◌}
use Rattle.domain_run.specs.declared.call.Call.{Call}
use Rattle.domain_run.specs.declared.call.Call.TheVariants.{Advance}
use Rattle.domain_run.specs.Switch.{Switch}
use Rattle.domain_run.specs.Passing.{without_switches}
use Rattle.domain_run.specs.Run.{after_calls}
use Rattle.switch_text.specs.Names.{name_of_task}
use Rattle.switch_text.specs.SlicedTrace.{SlicedView}
use Rattle.calls_trace.specs.Replay.{names_of}
use Rattle.calls_trace.specs.declared.playing.Playing.{Playing}

-- the calls that are left: what is left of the advance under way, and those after it
abbrev pub calls_left : Playing → List Call
calls_left p = Advance p.left ∷ p.calls

-- the switches that they make
abbrev pub rest_of : Playing → List Switch
rest_of p = (after_calls (without_switches p.run.domain) (calls_left p)).switches

-- the names of the whole run
abbrev pub all_names : Playing → (ℕ → List ℕ)
all_names p = names_of p.run.domain (calls_left p) (name_of_task p.run.names)

-- as it is written
abbrev pub sliced_of : Playing → SlicedView
sliced_of p = record {
  base = p.base;
  names = all_names p;
  at_hand = p.run.domain.switches;
  to_come = rest_of p;
}
