use Rattle.std.proofs.Common.{◌≡◌, ◌*◌, ◌≤◌, ◌++◌, map, drop, length}
use Rattle.std.specs.Prelude.{vec_capacity}
use Rattle.session.specs.SessionId.{cpu_sets_from}
use Rattle.session.proofs.parts.cpu_sets_of.Given as goal

abbrev pub invariant-loop-cpus : goal.invariant-loop-cpus
invariant-loop-cpus l = record {
  made : map (λ s. s.items) l.sets.items ++ cpu_sets_from l.base (drop l.cpus-index l.domains.items) ≡ cpu_sets_from 0 l.domains.items;
  base : l.base ≤ 64 * l.cpus-index;
  count : length l.sets.items ≡ l.cpus-index;
  room : length l.domains.items ≤ vec_capacity l.sets;
}
