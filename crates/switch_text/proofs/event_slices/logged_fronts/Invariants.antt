use Rattle.std.proofs.Common.{ℕ, ◌≡◌, ◌<◌, length, get_or}
use Rattle.switch_text.specs.declared.logged.DomainEvents.{DomainEvents}
use Rattle.switch_text.specs.private.EventSlicing.{IsLoggedFront}
use Rattle.switch_text.proofs.event_slices.logged_fronts.Given as goal

abbrev pub invariant-runs : goal.invariant-runs
invariant-runs g l = record {
  long : length l.logged ≡ 8;
  are : (k : ℕ) (s : g.row.S.Denot) (t : DomainEvents) → k < l.i → IsLoggedFront l.cut (g.S.EventSlices.sliced (get_or l.slices k s)) (get_or l.logged k t);
}
