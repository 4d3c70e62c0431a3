use Rattle.std.proofs.Common.{◌≡◌, ◌∙◌, sym, ap, subst}
use Rattle.session.specs.Begun.{UnderWayView}
use Rattle.session.specs.private.Parts.{AreSessionBooks}
use Rattle.session.proofs.Begun.{played_gates}
use Rattle.session.proofs.begun_run.shut_end.Goals as goal

pub shut_books-requires : goal.shut_books-requires
shut_books-requires g c =
    let id = g.N.Names.id in
    let own = c.rest.inside in
    let named = subst (AreSessionBooks id) (ap (λ (u : UnderWayView). u.books) c.rest.view_is ∙ sym c.requires) own.named in
    played_gates id own.gate c.args.books.items own.same_gate named
