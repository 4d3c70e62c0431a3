use Rattle.std.proofs.Common.{◌≡◌, vec_capacity}
use Rattle.run_figures.specs.private.Growing.{grown_logged}
use Rattle.run_figures.proofs.RowsBoth.{first_both}
use Rattle.run_figures.proofs.growing.rows.grow_all_logged.Given as goal

-- the first rows are grown, in the room that was there
abbrev pub invariant-loop-place : goal.invariant-loop-place
invariant-loop-place l = record {
  rows : l.table.items ≡ first_both (grown_logged l.shift l.periods) l.place l.before l.initial.table.items;
  same_room : vec_capacity l.table ≡ vec_capacity l.initial.table;
}
