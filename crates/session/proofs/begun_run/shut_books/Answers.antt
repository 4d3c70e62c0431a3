use Rattle.std.proofs.Common.{◌≡◌, Some}
use Rattle.std.proofs.lemmas.List.Elements.{All-pop}
use Rattle.call_book.specs.Playing.{PlayingView}
use Rattle.session.proofs.begun_run.shut_books.Goals as goal

pub loop-book-preserved : goal.loop-book-preserved
loop-book-preserved c =
    (All-pop (λ (p : PlayingView). p.book.gate ≡ c.args.gate.now) c.loop-book.books.items c.pop.new.self.items (Some c.in-Some.book) c.in-Some.ensures.items c.loop-book.invariant).0
