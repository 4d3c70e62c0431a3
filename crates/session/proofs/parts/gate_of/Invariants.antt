use Rattle.std.proofs.Common.{◌≡◌, map, take, length}
use Rattle.session.proofs.Opening.{room_of}
use Rattle.session.proofs.parts.gate_of.Given as goal

abbrev pub invariant-loop-d : goal.invariant-loop-d
invariant-loop-d l = record {
  eight : length l.rooms ≡ 8;
  made : take l.d l.rooms ≡ map (room_of l.options.limit) (take l.d l.options.domains.items);
}
