use Rattle.domain_run.specs.declared.call.Call.TheVariants as calls
use Rattle.session.proofs.Replied.{same_replied, replied, call_answered}
use Rattle.session.proofs.locked_book.leave.Goals as goal

pub returns-clause-same : goal.returns-clause-same
returns-clause-same c =
    same_replied c.args.domain.now c.leave.new.self c.args.pass.now c.leave.new.pass (calls.Leave c.args.number) c.leave.result c.leave.ensures.entered c.leave.ensures.full

pub returns-clause-replied : goal.returns-clause-replied
returns-clause-replied c =
    replied c.args.domain.now c.leave.new.self c.args.pass.now c.leave.new.pass (calls.Leave c.args.number) c.leave.result c.outcome_of.result.answer
    c.leave.ensures.entered c.leave.ensures.full c.outcome_of.ensures.ok c.outcome_of.ensures.err

pub returns-clause-logged : goal.returns-clause-logged
returns-clause-logged c =
    call_answered c.args.domain.now c.leave.new.self c.args.pass.now c.leave.new.pass (calls.Leave c.args.number) c.leave.result c.outcome_of.result.answer
    c.leave.ensures.entered c.leave.ensures.full c.outcome_of.ensures.ok c.outcome_of.ensures.err
