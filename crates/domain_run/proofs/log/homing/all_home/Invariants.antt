use Rattle.std.proofs.Common.{◌≡◌, map, take, drop, ◌++◌}
use Rattle.domain_run.specs.Happened.{with_its_cpu}
use Rattle.domain_run.proofs.log.homing.all_home.Given as goal

-- those before the index are at home, the others are as they were
abbrev pub invariant-loop-one : goal.invariant-loop-one
invariant-loop-one l = l.logged ≡ map (with_its_cpu l.places) (take l.one-index l.initial.logged) ++ drop l.one-index l.initial.logged
