use Rattle.std.proofs.Common.{ℕ, ◌≤◌, take}
use Rattle.repeat_run.specs.Seen.{ArePaced, AllLast}
use Rattle.repeat_run.proofs.seeing.paces_to.Given as goal

abbrev pub invariant-loop-place : goal.invariant-loop-place
invariant-loop-place l = record {
  paced : ArePaced l.micros (take l.place l.seen) (take l.place l.state.tasks) l.paces.items;
  lasts : (m : ℕ) → m ≤ l.most → AllLast m (take l.place l.seen) l.paces.items;
}
