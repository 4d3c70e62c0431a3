use Rattle.std.proofs.Common.{ap, ◌∙◌}
use Rattle.domain_run.specs.Happened.{in_order}
use Rattle.domain_run.specs.Log.{LogView}
use Rattle.domain_run.proofs.LoggedSorted.{length-in_order}
use Rattle.domain_run.proofs.Logging.{written_from}
use Rattle.domain_run.proofs.log.Log.put_in_order.Goals as goal

pub returns-then-from-len-clause-order : goal.returns-then-from-len-clause-order
returns-then-from-len-clause-order c base others len is apart =
    let v = c.self.inside.happened in
    let d = c.deref_mut in
    written_from in_order length-in_order c.args.from v.len v.items d.result.now c.put_in_order.new.logged d.ensures.value d.ensures.len c.put_in_order.ensures base others len (ap (λ (l : LogView). l.happened) c.self.view_is ∙ is) apart
