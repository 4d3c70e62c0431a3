use Rattle.std.proofs.Common.{◌≡◌, rules}
use Rattle.std.specs.Ordering.{is_lt}
use Rattle.std.proofs.lemmas.List.Sorted.{answers_always}
use Rattle.domain_run.specs.Happened.{is_first}
use Rattle.domain_run.proofs.LoggedOrder.{first_order}
use Rattle.domain_run.proofs.LoggedSorted.{sorted_is}
use Rattle.domain_run.proofs.log.put_in_order.Goals as goal

pub returns : goal.returns
returns c apart =
    let s = c.sort_unstable_by in
    sorted_is c.args.logged.now s.new.self s.ensures.permutation
    (s.ensures.sorted is_first first_order (answers_always _ (λ a r. is_lt r ≡ is_first a.0.now a.1.0.now) _ (λ f a r q k. search rules))) apart
