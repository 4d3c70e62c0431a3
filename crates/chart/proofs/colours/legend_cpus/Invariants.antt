use Rattle.std.proofs.Common.{◌≡◌, ◌-◌, ◌≤◌, map}
use Rattle.std.specs.List.{range_with_len}
use Rattle.chart.specs.Colours.{first_of_colour}
use Rattle.chart.proofs.colours.legend_cpus.Given as goal

abbrev pub invariant-loop-place : goal.invariant-loop-place
invariant-loop-place l = record {
  all : l.all.items ≡ map (λ k. k) (range_with_len 0 l.place);
  few : l.place ≤ l.cpus;
}

abbrev pub decreases-loop-place : goal.decreases-loop-place
decreases-loop-place l = l.cpus - l.place

abbrev pub invariant-loop-place-2 : goal.invariant-loop-place-2
invariant-loop-place-2 l = record {
  all : l.all.items ≡ map (first_of_colour l.cpus) (range_with_len 0 l.place);
  few : l.place ≤ 5;
}

abbrev pub decreases-loop-place-2 : goal.decreases-loop-place-2
decreases-loop-place-2 l = 5 - l.place
