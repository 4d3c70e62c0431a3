use Rattle.std.proofs.Common.{◌≡◌, Some, ap, ◌∙◌}
use Rattle.std.proofs.lemmas.List.Elements.{All-pop}
use Rattle.call_book.specs.Book.{BookView}
use Rattle.session.proofs.parts.shut_boxed.Goals as goal

pub shut_one-requires : goal.shut_one-requires
shut_one-requires c =
    ap (λ (b : BookView). b.gate) (c.into_inner.ensures ∙ c.book.view_is)
    ∙ (All-pop (λ (b : BookView). b.gate ≡ c.args.gate.now) c.loop-book.books.items c.pop.new.self.items (Some c.in-Some.book) c.in-Some.ensures.items c.loop-book.invariant).1

pub loop-book-preserved : goal.loop-book-preserved
loop-book-preserved c =
    (All-pop (λ (b : BookView). b.gate ≡ c.args.gate.now) c.loop-book.books.items c.pop.new.self.items (Some c.in-Some.book) c.in-Some.ensures.items c.loop-book.invariant).0
