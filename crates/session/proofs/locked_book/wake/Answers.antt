use Rattle.domain_run.specs.declared.call.Call.TheVariants as calls
use Rattle.session.proofs.Replied.{same_replied, replied, call_answered}
use Rattle.session.proofs.locked_book.wake.Goals as goal

pub returns-clause-same : goal.returns-clause-same
returns-clause-same c =
    same_replied c.args.domain.now c.wake.new.self c.args.pass.now c.wake.new.pass (calls.Wake c.args.number) c.wake.result c.wake.ensures.entered c.wake.ensures.full

pub returns-clause-replied : goal.returns-clause-replied
returns-clause-replied c =
    replied c.args.domain.now c.wake.new.self c.args.pass.now c.wake.new.pass (calls.Wake c.args.number) c.wake.result c.outcome_of.result.answer
    c.wake.ensures.entered c.wake.ensures.full c.outcome_of.ensures.ok c.outcome_of.ensures.err

pub returns-clause-logged : goal.returns-clause-logged
returns-clause-logged c =
    call_answered c.args.domain.now c.wake.new.self c.args.pass.now c.wake.new.pass (calls.Wake c.args.number) c.wake.result c.outcome_of.result.answer
    c.wake.ensures.entered c.wake.ensures.full c.outcome_of.ensures.ok c.outcome_of.ensures.err
