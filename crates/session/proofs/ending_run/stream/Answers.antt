use Rattle.std.proofs.Common.{◌∙◌, length, subst, sym, ap}
use Rattle.std.proofs.lemmas.List.{length-map}
use Rattle.call_book.specs.Book.{BookView}
use Rattle.call_book.specs.Ending.{EndingView}
use Rattle.session.specs.private.Parts.{AreSessionBooks}
use Rattle.session.proofs.ending_run.stream.Goals as goal

-- the book of a book at its end
abbrev book : EndingView → BookView
book e = e.book

pub invariant_of-ending : goal.invariant_of-ending
invariant_of-ending g c =
    let was = c.args.ending.now in
    let books = c.stream_still.new.books.items in
    let same = c.stream_still.ensures.books in
    record {
      session = was.session;
      same_limit = was.same_limit;
      same_gate = was.same_gate;
      count = sym (length-map books book) ∙ ap length same ∙ length-map was.books.items book ∙ was.count;
      named = subst (AreSessionBooks g.N.Names.id) (sym same) was.named;
      blanks_own = was.blanks_own;
      enough = was.enough;
    }

pub stream_all-requires-clause-named : goal.stream_all-requires-clause-named
stream_all-requires-clause-named g c = c.args.ending.now.named

pub stream_all-requires-clause-count : goal.stream_all-requires-clause-count
stream_all-requires-clause-count g c = c.args.ending.now.count

pub stream_all-requires-clause-domains : goal.stream_all-requires-clause-domains
stream_all-requires-clause-domains g c = c.args.ending.now.session.some

pub invariant_of-ending-2 : goal.invariant_of-ending-2
invariant_of-ending-2 g c =
    let was = c.args.ending.now in
    record {
      session = was.session;
      same_limit = was.same_limit;
      same_gate = was.same_gate;
      count = c.stream_all.ensures.count ∙ was.count;
      named = c.stream_all.ensures.named;
      blanks_own = was.blanks_own;
      enough = was.enough;
    }
