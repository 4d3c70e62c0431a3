use Rattle.std.proofs.Common.{map, take, length, ◌≡◌, ◌≤◌}
use Rattle.std.specs.Prelude.{vec_capacity}
use Rattle.figure_text.specs.Promises.{promise_view_of}
use Rattle.dl_session.specs.Promised.{AreEach, IsRowOf}
use Rattle.dl_session.proofs.promising.rows_of.Given as goal

abbrev pub invariant-loop-task : goal.invariant-loop-task
invariant-loop-task l = record {
  each : AreEach (IsRowOf l.states) (take l.task-index l.tasks) (map promise_view_of l.rows.items);
  count : length l.rows.items ≡ l.task-index;
  room : length l.tasks ≤ vec_capacity l.rows;
}
