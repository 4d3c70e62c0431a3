use Rattle.std.proofs.Common.{◌≡◌, ◌++◌, map, take}
use Rattle.std.specs.Prelude.{vec_capacity}
use Rattle.domain_run.specs.Later.{later_switch}
use Rattle.domain_run.proofs.state.repeating.append.Given as goal

abbrev pub invariant-loop-switch : goal.invariant-loop-switch
invariant-loop-switch l = record {
  switches : l.switches.items ≡ l.fn.switches.items ++ map (later_switch l.later_by) (take l.switch-index l.period);
  room : vec_capacity l.switches ≡ vec_capacity l.fn.switches;
}
