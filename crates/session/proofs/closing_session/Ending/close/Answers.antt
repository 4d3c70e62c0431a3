use Rattle.std.proofs.Common.{subst, sym}
use Rattle.std.proofs.lemmas.List.Elements.{All-nil}
use Rattle.session.specs.private.Closing.{AreTicketsOf}
use Rattle.session.proofs.closing_session.Ending.close.Goals as goal

pub invariant_of-home : goal.invariant_of-home
invariant_of-home g c = record {
  tickets_own = subst (AreTicketsOf g.N.Names.id.gate) (sym c.args.self.enough.no_tickets) (All-nil _);
  blanks_own = c.args.self.blanks_own;
}
