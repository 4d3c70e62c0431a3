use Rattle.std.proofs.Common.{length, ap, arith}
use Rattle.std.specs.Vec.Iter.{into_iter_items}
use Rattle.std.proofs.lemmas.List.{length_push}
use Rattle.dl_session.specs.private.PlayedBooks.{played_book}
use Rattle.std.proofs.Common.{map}
use Rattle.dl_session.proofs.PlayedRuns.{taken_more}
use Rattle.dl_session.proofs.played_books.take_books.Goals as goal

pub loop-played-preserved : goal.loop-played-preserved
loop-played-preserved c =
    let inv = c.loop-played.invariant in
    let rest = into_iter_items c.loop-played.rest in
    let left = into_iter_items c.next.new.self in
    let pushed = ap length c.push_reserved.ensures.items in
    record {
      books = taken_more c.loop-played.books.items c.push_reserved.new.self.items c.into_book.result rest left c.in-Some.played (map played_book c.args.runs.items) c.push_reserved.ensures.items c.in-Some.ensures.items c.into_book.ensures inv.books;
      room = omega (arith, inv.room, c.in-Some.ensures.len, pushed, length_push c.loop-played.books.items c.into_book.result, c.push_reserved.ensures.capacity);
    }
