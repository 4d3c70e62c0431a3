use Rattle.std.proofs.Common.{◌≡◌, ◌≤◌, map, length}
use Rattle.chart_pieces.proofs.Moments.{IsRest}
use Rattle.chart_pieces.proofs.logging.log_moments.Given as goal

-- what is left to log makes the whole
abbrev pub invariant-loop-switch : goal.invariant-loop-switch
invariant-loop-switch l = record {
  inside : l.from ≤ length l.happened;
  keyed : map (λ x. x.number) l.table.items ≡ l.places;
  rest : IsRest l.window l.happened l.switches l.initial.table.items l.from l.switch-index l.table.items;
}
