use Rattle.std.proofs.Common.{◌≡◌, drop}
use Rattle.recorded_scripts.specs.Scripts.{are_short, are_short_after}
use Rattle.recorded_scripts.proofs.events.are_short.Given as goal

abbrev pub invariant-loop-release : goal.invariant-loop-release
invariant-loop-release l = are_short l.releases ≡ are_short_after l.before (drop l.release-index l.releases)
