-- Quantiles of distances (own): by counting.
use Rattle.std.specs.Prelude.{ℕ, ◌*◌, ◌≤◌, ◌<◌, nat_le, List, length, count_by, Contains}
use Rattle.compare_report.specs.declared.line.Spread.{Spread}

-- how many are at most a value
abbrev pub at_most : ℕ → List ℕ → ℕ
at_most v values = count_by (λ x. nat_le x v) values

-- so many of a hundred are at most this one, and fewer are at most any smaller value
pub record IsQuantile (hundredths : ℕ) (values : List ℕ) (v : ℕ) : Type 0 where
  pub among : Contains values v
  pub enough : hundredths * length values ≤ 100 * at_most v values
  pub least : (w : ℕ) → w < v → 100 * at_most w values < hundredths * length values

-- the three that are told of distances
pub record IsSpread (values : List ℕ) (s : Spread) : Type 0 where
  pub half : IsQuantile 50 values s.half
  pub most : IsQuantile 95 values s.most
  pub max : IsQuantile 100 values s.max
