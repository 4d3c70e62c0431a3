-- A task table of no tasks.
use Rattle.std.proofs.Common.{arith, ◌≡◌, ◌∙◌, [], None, List, length, ap, sym, subst}
use Rattle.std.proofs.lemmas.List.{length-replicate}
use Rattle.domain_run.specs.declared.task.Task.{Task}
use Rattle.domain_run.specs.private.RunQueue.{IsCounted}
use Rattle.domain_run.specs.private.Owed.{owed_all, AreOpen}
use Rattle.due_times.specs.OpenCharges.{OpenChargesView}
use Rattle.domain_run.proofs.task_table.TaskTable.open.Goals as goal

pub invariant_of-result : goal.invariant_of-result
invariant_of-result c =
    let q = c.in-Ok-open-3.queue in
    let charges = c.in-Ok-open.charges in
    let cpus = c.args.cpus in
    let none : c.in-Ok-open-2.tasks ≡ [] = c.in-Ok-open-2.ensures in
    let owed : owed_all charges c.in-Ok-open-2.tasks ≡ [] = ap (λ (ts : List Task). owed_all charges ts) none in
    let counted : IsCounted cpus q [] = c.in-Ok-open-3.ensures.counted in
    record {
      counted = subst (λ ts. IsCounted (length q.accounts.all) q ts) (sym owed) (subst (λ n. IsCounted n q []) (sym counted.wide) counted);
      waits = subst (λ ts. AreOpen charges.charges ts) (sym none) (λ k d low. absurd (omega (arith, low)));
      wide = ap (λ (s : OpenChargesView). length s.charges) c.in-Ok-open.ensures ∙ length-replicate cpus None ∙ sym counted.wide;
      settled = λ cpu low zero. absurd (omega (arith, c.all.ensures.is_stale cpu low, zero));
    }
