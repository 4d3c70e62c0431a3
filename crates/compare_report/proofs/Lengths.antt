-- Each run of the model has a place among the partners.
use Rattle.std.proofs.Common.{◌≡◌, ℕ, Bool, List, [], ◌∷◌, length, get_or, Option, Some, None, refl, ap, ◌∙◌, arith}
use Rattle.trace_compare.specs.declared.clock.ClockShift.{ClockShift}
use Rattle.trace_compare.specs.declared.run.Run.{Run}
use Rattle.trace_compare.specs.declared.task.TaskRuns.{TaskRuns}
use Rattle.trace_compare.specs.declared.pairs.Matching.{Matching}
use Rattle.trace_compare.specs.Pairs.{fits, partners, split_at, Split}
use Rattle.trace_compare.specs.Compared.{AreMatched}
use Rattle.compare_report.specs.private.Fitting.{AreFitting}

one_longer : (fit : Run → Run → Bool) (m : Run) (ms rs : List Run) (o : Option Split) → ((qs : List Run) → length (partners fit ms qs) ≡ length ms) → split_at (fit m) rs ≡ o → length (partners fit (m ∷ ms) rs) ≡ length (m ∷ ms)
unfolding partners
one_longer fit m ms rs None h e = let rest = h rs in rw e (omega (arith, rest))
one_longer fit m ms rs (Some s) h e = let rest = h s.after in rw e (omega (arith, rest))

length_partners : (fit : Run → Run → Bool) (ms rs : List Run) → length (partners fit ms rs) ≡ length ms
unfolding partners
length_partners fit [] rs = refl
length_partners fit (m ∷ ms) rs = one_longer fit m ms rs (split_at (fit m) rs) (λ qs. length_partners fit ms qs) refl

pub fitting : (within : ℕ) (shift : ClockShift) (tasks : List TaskRuns) (matchings : List Matching) → AreMatched within shift tasks (length tasks) matchings → AreFitting tasks matchings
fitting within shift tasks matchings h = record {
  as_many = h.as_many;
  each = λ j t m lt. ap length (h.takes j t m lt) ∙ length_partners (fits within shift) (get_or tasks j t).model.items (get_or tasks j t).recorded.items;
}
