use Rattle.std.proofs.Common.{◌≡◌, ◌<◌, length, get_or, sym, subst, arith, inl, inr}
use Rattle.std.proofs.lemmas.Bool.{cases_lt}
use Rattle.domain_run.specs.private.DeferringTimers.{MayDefer}
use Rattle.domain_run.specs.private.TaskTable.{TaskTableView}
use Rattle.domain_run.proofs.DeferringTimers.{seen_alike, defer_alike}
use Rattle.domain_run.proofs.task_table.TaskTable.may_defer.Goals as goal

pub tasks-preserved : goal.tasks-preserved
tasks-preserved c = record {
  each = λ i d less within.
      let s = c.self.inside in
      let p = c.tasks.place in
      let raw = c.at.result.now in
      elim (cases_lt i p) [
        | inl before ↦ c.tasks.invariant.each i d before within
        | inr following ↦
            let here : i ≡ p = omega (arith, less, following) in
            let there = subst (λ (r : TaskTableView). p < length r.tasks) (sym c.self.view_is) (subst (λ n. n < length c.args.self.now.tasks) here within) in
            let same = seen_alike s.charges s.tasks p raw d there c.at.ensures in
            let one = defer_alike c.args.time raw _ same (c.may_defer.ensures c.if-not-may_defer.false) in
            subst (λ n. MayDefer c.args.time (get_or c.args.self.now.tasks n d)) (sym here) (subst (λ (r : TaskTableView). MayDefer c.args.time (get_or r.tasks p d)) c.self.view_is one)
      ];
}
