use Rattle.std.proofs.Common.{◌≡◌, ◌≤◌, length, map, take, vec_capacity}
use Rattle.switch_text.specs.Names.{name_of_task}
use Rattle.calls_trace.specs.DomainEvents.{names_in}
use Rattle.calls_trace.proofs.streamed_summary.all_names.Given as goal

abbrev pub invariant-loop-history : goal.invariant-loop-history
invariant-loop-history l = record {
  names : map name_of_task l.all.items ≡ map names_in (take l.history-index l.histories);
  count : length l.all.items ≡ l.history-index;
  room : length l.histories ≤ vec_capacity l.all;
}
