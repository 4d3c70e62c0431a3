use Rattle.std.proofs.Common.{◌≡◌, vec_capacity}
use Rattle.run_figures.proofs.Passing.{AreLogged}
use Rattle.run_figures.proofs.logging.log_all.Given as goal

-- the entries so far are logged, in the room that was there
abbrev pub invariant-loop-entry : goal.invariant-loop-entry
invariant-loop-entry l = record {
  logged : AreLogged l.«end» l.happened l.entry-index l.initial.logged.items l.logged.items;
  same_room : vec_capacity l.logged ≡ vec_capacity l.initial.logged;
}
