use Rattle.std.proofs.Common.{ℕ, Some, subst}
use Rattle.std.specs.Prelude.{IfErr}
use Rattle.session.specs.Asks.{ClientView}
use Rattle.session.specs.Moves.{IsWhyUnmoved}
use Rattle.session.proofs.client.Client.move_with.Goals as goal

pub returns-in-Ok-clause-why : goal.returns-in-Ok-clause-why
returns-in-Ok-clause-why g c =
    subst (λ (v : ClientView). IfErr c.submit_move.result (IsWhyUnmoved g.N.Names.id v c.args.number c.args.from c.args.to (Some c.args.blank) c.submit_move.new.self.hand)) c.prepare_at.ensures.same
    (subst (λ (n : ℕ). IfErr c.submit_move.result (IsWhyUnmoved g.N.Names.id c.prepare_at.new.self n c.args.from c.args.to (Some c.args.blank) c.submit_move.new.self.hand)) c.in-Ok.ensures.number c.submit_move.ensures.why)
