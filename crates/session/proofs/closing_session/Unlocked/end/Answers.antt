use Rattle.std.proofs.Common.{◌≡◌, ◌∙◌, List, length, sym, ap, subst}
use Rattle.std.proofs.lemmas.List.{length-map}
use Rattle.call_book.specs.Ending.{EndingView}
use Rattle.session.specs.private.Ending.{books_of, unstreamed_ending}
use Rattle.session.specs.private.Parts.{AreSessionBooks}
use Rattle.session.proofs.Closed.{books_ended}
use Rattle.session.proofs.closing_session.Unlocked.end.Goals as goal

pub invariant_of-result : goal.invariant_of-result
invariant_of-result g c =
    let own = c.args.self in
    let ending = c.end_all.new.ending.items in
    let books : books_of ending ≡ own.books.items = books_ended ending own.books.items c.end_all.ensures in
    record {
      session = own.session;
      same_limit = own.same_limit;
      same_gate = own.same_gate;
      count = ap (λ (es : List EndingView). length es) c.end_all.ensures ∙ length-map own.books.items unstreamed_ending ∙ own.count;
      named = subst (AreSessionBooks g.N.Names.id) (sym books) own.named;
      blanks_own = own.blanks_own;
      enough = own.enough;
    }
