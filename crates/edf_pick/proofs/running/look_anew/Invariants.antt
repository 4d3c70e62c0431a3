use Rattle.std.proofs.Common.{◌≡◌, ◌<◌, ◌+◌, ◌*◌, ℕ, get_or, length}
use Rattle.std.specs.Int.{bit_at}
use Rattle.edf_pick.specs.private.RunningSet.{bare_key, IsLatest}
use Rattle.edf_pick.proofs.running.look_anew.Given as goal

abbrev pub invariant-groups : goal.invariant-groups
invariant-groups l = record {
  eight : length l.most ≡ 8;
  inside : (g : ℕ) → bit_at l.left g ≡ 1 → g < 8;
  known : (g : ℕ) → g < 8 → bit_at l.left g ≡ 0 → IsLatest l.keys (8 * g) (8 * g + 8) (get_or l.most g bare_key);
}

abbrev pub decreases-groups : goal.decreases-groups
decreases-groups l = l.left
