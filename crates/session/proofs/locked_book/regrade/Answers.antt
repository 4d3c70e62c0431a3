use Rattle.session.proofs.Replied.{same_regraded, regraded, why_not}
use Rattle.session.proofs.locked_book.regrade.Goals as goal

pub returns-clause-same : goal.returns-clause-same
returns-clause-same g c =
    same_regraded c.args.domain.now c.regrade.new.self c.args.pass.now c.regrade.new.pass c.args.number c.args.params c.regrade.result c.regrade.ensures.entered c.regrade.ensures.full

pub returns-clause-replied : goal.returns-clause-replied
returns-clause-replied g c =
    regraded g.N.Names.id g.row.D c.args.domain.now c.regrade.new.self c.args.pass.now c.regrade.new.pass c.args.number c.args.params c.regrade.result c.outcome_of.result.answer
    c.requires.named c.requires.seen c.regrade.ensures.entered c.regrade.ensures.full c.outcome_of.ensures.ok c.outcome_of.ensures.err

pub returns-clause-logged : goal.returns-clause-logged
returns-clause-logged g c =
    why_not c.args.domain.now c.regrade.new.self c.args.pass.now c.regrade.new.pass c.regrade.result c.outcome_of.result.answer
    c.regrade.ensures.full c.outcome_of.ensures.ok c.outcome_of.ensures.err
