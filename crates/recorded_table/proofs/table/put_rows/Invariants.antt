use Rattle.std.proofs.Common.{◌≡◌, ◌++◌, map, drop, true}
use Rattle.recorded_table.specs.Table.{jobs_rows}
use Rattle.recorded_table.proofs.table.put_rows.Given as goal

abbrev pub invariant-loop-n : goal.invariant-loop-n
invariant-loop-n l = l.out.whole ≡ true → (l.initial.out.whole ≡ true) × (l.out.text ++ jobs_rows (map (λ t. t.name) (drop l.n l.tasks)) (map (λ v. v.items) (drop l.n l.jobs)) ≡ l.initial.out.text ++ jobs_rows (map (λ t. t.name) l.tasks) (map (λ v. v.items) l.jobs))
