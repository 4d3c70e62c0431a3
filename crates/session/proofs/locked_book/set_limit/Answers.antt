use Rattle.std.proofs.Common.{◌≡◌, Option, sym, ap, subst, ◌∙◌}
use Rattle.std.specs.Prelude.{IfSome, is_some}
use Rattle.bw_gate.specs.Pieces.{BlankView}
use Rattle.session.specs.Asks.{Answer}
use Rattle.session.specs.private.Entering.{limit_answer, IsLimitedBy, IsWhyNotMade}
use Rattle.session.proofs.Replied.{same_limited, limited_own, limited, limit_why_not}
use Rattle.session.proofs.locked_book.set_limit.Goals as goal

pub returns-clause-same : goal.returns-clause-same
returns-clause-same g c =
    same_limited c.args.domain.now c.limit.new.self c.args.pass.now c.limit.new.pass c.args.limit c.args.blank c.limit.result c.limit.ensures.answer

pub returns-clause-limited : goal.returns-clause-limited
returns-clause-limited g c =
    let id = g.N.Names.id in
    let b = c.args.domain.now in
    let p = c.args.pass.now in
    let q = c.limit.new.pass in
    let made = c.limit.result in
    let logged = c.outcome_of_limit.ensures in
    subst (λ (a : Answer). IsLimitedBy id g.row.D p q c.args.blank c.args.limit a c.outcome_of_limit.result.blank) (sym logged.answer)
    (subst (λ (o : Option BlankView). IsLimitedBy id g.row.D p q c.args.blank c.args.limit (limit_answer made) o) (sym logged.blank)
    (limited id g.row.D b c.limit.new.self p q c.args.limit c.args.blank made c.requires.named c.requires.seen c.limit.ensures.answer))

pub returns-clause-logged : goal.returns-clause-logged
returns-clause-logged g c =
    subst (λ (a : Answer). IsWhyNotMade c.args.domain.now a) (sym c.outcome_of_limit.ensures.answer)
    (limit_why_not c.args.domain.now c.limit.new.self c.args.pass.now c.limit.new.pass c.args.limit c.args.blank c.limit.result c.limit.ensures.answer)

pub returns-clause-some : goal.returns-clause-some
returns-clause-some g c = ap is_some c.outcome_of_limit.ensures.blank

pub returns-clause-own : goal.returns-clause-own
returns-clause-own g c =
    subst (λ (o : Option BlankView). IfSome o (λ b. b.gate ≡ c.args.gate.now)) (sym c.outcome_of_limit.ensures.blank)
    (limited_own c.args.domain.now c.limit.new.self c.args.pass.now c.limit.new.pass c.args.limit c.args.blank c.limit.result c.limit.ensures.answer ∙ c.requires.blank)
