use Rattle.std.proofs.Common.{◌≡◌, ◌∙◌, All, map, length, ap, subst, arith}
use Rattle.std.specs.Vec.Iter.{into_iter_items}
use Rattle.std.proofs.lemmas.List.{length_push}
use Rattle.std.proofs.lemmas.List.Elements.{All-head, All-tail}
use Rattle.call_book.specs.Playing.{PlayingView}
use Rattle.session.specs.Begun.{played_books}
use Rattle.session.specs.private.Begun.{without_pieces}
use Rattle.session.proofs.Begun.{finished_more}
use Rattle.session.proofs.begun_run.finish_all.Goals as goal

pub finish_book-requires : goal.finish_book-requires
finish_book-requires c =
    let G : PlayingView → Type 0 = λ p. p.book.gate ≡ c.args.gate.now in
    All-head G c.in-Some.book (into_iter_items c.next.new.self) (subst (All G) c.in-Some.ensures.items c.loop-book.invariant.gates)

pub loop-book-preserved : goal.loop-book-preserved
loop-book-preserved c =
    let inv = c.loop-book.invariant in
    let G : PlayingView → Type 0 = λ p. p.book.gate ≡ c.args.gate.now in
    let rest = into_iter_items c.loop-book.rest in
    let left = into_iter_items c.next.new.self in
    let pushed = ap length c.push_reserved.ensures.items ∙ length_push c.loop-book.ending.items c.finish_book.result in
    record {
      items = finished_more c.loop-book.ending.items c.push_reserved.new.self.items rest left c.in-Some.book c.finish_book.result (map without_pieces (played_books c.args.books.items)) c.push_reserved.ensures.items c.in-Some.ensures.items c.finish_book.ensures inv.items;
      room = omega (arith, inv.room, c.in-Some.ensures.len, pushed, c.push_reserved.ensures.capacity);
      gates = All-tail G c.in-Some.book left (subst (All G) c.in-Some.ensures.items inv.gates);
    }
