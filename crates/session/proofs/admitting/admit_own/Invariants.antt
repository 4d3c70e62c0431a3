use Rattle.std.proofs.Common.{◌≡◌, take, deque_capacity}
use Rattle.session.specs.private.Admitting.{AsksOwn}
use Rattle.session.proofs.admitting.admit_own.Given as goal

-- so far
abbrev pub invariant-loop-task : goal.invariant-loop-task
invariant-loop-task g l = record {
  asks : AsksOwn g.N.Names.id l.many l.place (take l.task-index l.tasks) l.fn.seat.client l.client l.answers.items;
  room : deque_capacity l.answers ≡ l.fn.seat.room;
  place : l.place ≡ l.fn.seat.place;
  many : l.many ≡ l.fn.seat.many;
}
