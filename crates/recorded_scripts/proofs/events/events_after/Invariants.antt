use Rattle.std.proofs.Common.{◌≡◌, ◌++◌, true, drop}
use Rattle.recorded_scripts.specs.Scripts.{events_after, first_release, are_short_after}
use Rattle.recorded_scripts.proofs.events.events_after.Given as goal

abbrev pub invariant-loop-release : goal.invariant-loop-release
invariant-loop-release l = record {
  found : l.events.items ++ events_after l.before (drop l.release-index l.releases) ≡ events_after (first_release l.releases) l.releases;
  short : are_short_after l.before (drop l.release-index l.releases) ≡ true;
}
