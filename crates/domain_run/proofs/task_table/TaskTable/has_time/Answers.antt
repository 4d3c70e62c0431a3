use Rattle.std.proofs.Common.{◌≡◌, ◌<◌, length, get_or, sym, subst, arith, inl, inr}
use Rattle.std.proofs.lemmas.Bool.{cases_lt}
use Rattle.domain_run.specs.LowTimes.{HasTime}
use Rattle.domain_run.specs.private.TaskTable.{TaskTableView}
use Rattle.domain_run.proofs.GoingOn.{time_seen}
use Rattle.domain_run.proofs.task_table.TaskTable.has_time.Goals as goal

pub loop-place-preserved : goal.loop-place-preserved
loop-place-preserved c = record {
  each = λ i d less within.
      let s = c.self.inside in
      let p = c.loop-place.place in
      let raw = c.at.result.now in
      elim (cases_lt i p) [
        | inl before ↦ c.loop-place.invariant.each i d before within
        | inr following ↦
            let here : i ≡ p = omega (arith, less, following) in
            let there = subst (λ (r : TaskTableView). p < length r.tasks) (sym c.self.view_is) (subst (λ n. n < length c.args.self.now.tasks) here within) in
            let one = time_seen s.charges s.tasks p raw d there c.at.ensures (c.has_time.ensures c.if-not-has_time.false) in
            subst (λ n. HasTime (get_or c.args.self.now.tasks n d)) (sym here) (subst (λ (r : TaskTableView). HasTime (get_or r.tasks p d)) c.self.view_is one)
      ];
}
