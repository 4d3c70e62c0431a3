-- How many runs matched, in all tasks (own).
use Rattle.std.specs.Prelude.{ℕ, ◌*◌, Bool, nat_lt, List, min, sum_by}
use Rattle.compare_report.specs.declared.finding.Finding.{Finding}
use Rattle.compare_report.specs.declared.tally.Tally.{Tally}

-- how many runs the model has of all tasks, and how many of them matched: the sums of the rows
abbrev pub tally_of : List Finding → Tally
tally_of fs = record {
  runs = sum_by (λ f. f.row.runs) fs;
  matched = sum_by (λ f. f.row.matched) fs;
}

-- fewer than so many per cent of the model's runs matched; more than 100 per cent are taken as 100
abbrev pub is_under : ℕ → Tally → Bool
is_under percent t = nat_lt (100 * t.matched) (min percent 100 * t.runs)
