use Rattle.std.proofs.Common.{ℕ, rules}
use Rattle.std.proofs.lemmas.List.Sorted.{IsNonDecreasingBy-from_sort_by_key, answers_always}
use Rattle.recorded_moments.specs.Ordered.{order_of}
use Rattle.recorded_moments.proofs.InTime.{in_time}
use Rattle.recorded_moments.proofs.ordering.put_in_order.Goals as goal

pub returns-clause-ordered : goal.returns-clause-ordered
returns-clause-ordered c =
    let rising = IsNonDecreasingBy-from_sort_by_key order_of _ c.in_ok-sort_by_key.ensures.sorted (λ a r q k. search rules) in
    record {
      same = c.in_ok-sort_by_key.ensures.permutation;
      stable = c.in_ok-sort_by_key.ensures.stable order_of (answers_always _ _ _ (λ f a r g h. search rules));
      in_order = rising;
      in_time = in_time c.sort_by_key.new.self.items rising;
    }
