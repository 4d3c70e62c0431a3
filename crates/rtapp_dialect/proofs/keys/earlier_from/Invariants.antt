use Rattle.std.proofs.Common.{◌≡◌, ◌≤◌, take}
use Rattle.std.specs.Prelude.{count_by}
use Rattle.std.specs.Str.{bytes_eq}
use Rattle.rtapp_dialect.specs.Repeats.{spelled_at}
use Rattle.rtapp_dialect.proofs.keys.earlier_from.Given as goal

-- how many of the keys so far are spelled alike
abbrev pub invariant-loop-k : goal.invariant-loop-k
invariant-loop-k l = record { so_far : l.count ≡ count_by (λ k. bytes_eq (spelled_at l.text k) (spelled_at l.text l.key)) (take l.k-index l.keys); within : l.count ≤ l.k-index }
