use Rattle.std.proofs.Common.{◌≡◌, length, map, take, vec_len}
use Rattle.std.specs.Prelude.{vec_capacity}
use Rattle.bw_world.specs.DomainStep.{unused_domain}
use Rattle.bw_world.proofs.world.World.open.Given as goal

-- a domain for each cap so far, and room for all
abbrev pub invariant-loop-cap : goal.invariant-loop-cap
invariant-loop-cap l = record {
  domains : l.domains.items ≡ map unused_domain (take l.cap-index l.caps);
  count : vec_len l.domains ≡ l.cap-index;
  room : vec_capacity l.domains ≡ length l.caps;
}
