use Rattle.std.proofs.Common.{◌≡◌, ◌≤◌, [], length, All}
use Rattle.std.specs.Prelude.{vec_capacity}
use Rattle.session.specs.RunEnd.{IsLogOf}
use Rattle.session.proofs.ending_run.open_logs.Given as goal

abbrev pub invariant-loop : goal.invariant-loop
invariant-loop l = record {
  many : length l.logs.items ≡ l.counter;
  each : All (λ log. IsLogOf l.wanted [] log) l.logs.items;
  room : l.count ≤ vec_capacity l.logs;
}
