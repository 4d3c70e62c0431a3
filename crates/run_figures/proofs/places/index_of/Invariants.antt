use Rattle.run_figures.specs.Places.{IsIndex}
use Rattle.run_figures.proofs.places.index_of.Given as goal

-- the numbers so far are indexed
abbrev pub invariant-loop-place : goal.invariant-loop-place
invariant-loop-place l = IsIndex l.numbers l.place l.codes.items
