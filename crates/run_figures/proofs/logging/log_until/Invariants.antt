use Rattle.std.proofs.Common.{◌≡◌, ℕ, ◌<◌, ◌≤◌, get_or, vec_capacity}
use Rattle.domain_run.specs.declared.happened.Happened.{Happened}
use Rattle.run_figures.proofs.Passing.{AreLogged}
use Rattle.run_figures.proofs.logging.log_until.Given as goal

-- the entries so far are logged, in the room that was there, and none of them is later than the
-- time
abbrev pub invariant-loop-entry : goal.invariant-loop-entry
invariant-loop-entry l = record {
  count : l.count ≡ l.entry-index;
  logged : AreLogged l.«end» l.happened l.entry-index l.initial.logged.items l.logged.items;
  same_room : vec_capacity l.logged ≡ vec_capacity l.initial.logged;
  passed : (k : ℕ) (d : Happened) → k < l.entry-index → (get_or l.happened k d).time ≤ l.time;
}
