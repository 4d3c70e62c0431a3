use Rattle.std.proofs.Common.{◌≡◌, vec_capacity}
use Rattle.run_figures.specs.private.Keeping.{accounting_view_of}
use Rattle.run_figures.proofs.Streaming.{IsStreamed}
use Rattle.run_figures.proofs.accounting.stream_piece.Given as goal

-- what was streamed, and the first entries and switches of the piece, are logged, in the room that
-- was there
abbrev pub invariant-loop-switch : goal.invariant-loop-switch
invariant-loop-switch l = record {
  streamed : IsStreamed (accounting_view_of l.streamed l.places) l.happened l.switches l.from l.switch-index l.logged.items l.ran.tasks.items l.ran.cpus.items;
  logged_room : vec_capacity l.logged ≡ vec_capacity l.initial.logged;
  tasks_room : vec_capacity l.ran.tasks ≡ vec_capacity l.initial.ran.tasks;
  cpus_room : vec_capacity l.ran.cpus ≡ vec_capacity l.initial.ran.cpus;
}
