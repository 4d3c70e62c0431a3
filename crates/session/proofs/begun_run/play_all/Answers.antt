use Rattle.std.proofs.Common.{◌≡◌, ◌∙◌, All, map, length, sym, ap, subst, arith}
use Rattle.std.specs.Vec.Iter.{into_iter_items}
use Rattle.std.proofs.lemmas.List.{length_push}
use Rattle.std.proofs.lemmas.List.Elements.{All-head, All-push, All-tail}
use Rattle.call_book.specs.Book.{BookView}
use Rattle.call_book.specs.Ending.{EndingView}
use Rattle.call_book.specs.Playing.{PlayingView, played_from}
use Rattle.session.specs.private.Begun.{unplayed}
use Rattle.session.proofs.Begun.{played_more}
use Rattle.session.proofs.begun_run.play_all.Goals as goal

pub loop-domain-preserved : goal.loop-domain-preserved
loop-domain-preserved c =
    let inv = c.loop-domain.invariant in
    let G : BookView → Type 0 = λ b. b.gate ≡ c.args.gate.now in
    let H : PlayingView → Type 0 = λ p. p.book.gate ≡ c.args.gate.now in
    let playing = c.loop-domain.playing.items in
    let rest = into_iter_items c.loop-domain.rest in
    let left = into_iter_items c.next.new.self in
    let all = subst (All G) c.in-Some.ensures.items inv.left in
    let p = c.in-Ok-play.book in
    let is : p ≡ unplayed c.args.logs c.in-Some.domain = c.in-Ok-play.ensures.ok ∙ ap (λ (e : EndingView). played_from c.args.logs e) c.end.ensures in
    let own : H p = ap (λ (x : PlayingView). x.book.gate) is ∙ All-head G c.in-Some.domain left all in
    let pushed = ap length c.push_reserved.ensures.items ∙ length_push playing p in
    record {
      items = played_more c.args.logs playing c.push_reserved.new.self.items rest left c.in-Some.domain p (map (unplayed c.args.logs) c.args.books.items) c.push_reserved.ensures.items c.in-Some.ensures.items is inv.items;
      room = omega (arith, inv.room, c.in-Some.ensures.len, pushed, c.push_reserved.ensures.capacity);
      played = subst (All H) (sym c.push_reserved.ensures.items) (All-push H playing p inv.played own);
      left = All-tail G c.in-Some.domain left all;
    }

pub shut-requires : goal.shut-requires
shut-requires c =
    let G : BookView → Type 0 = λ b. b.gate ≡ c.args.gate.now in
    sym (ap (λ (e : EndingView). e.book.gate) (c.in-Err.ensures.err ∙ c.end.ensures) ∙ All-head G c.in-Some.domain (into_iter_items c.next.new.self) (subst (All G) c.in-Some.ensures.items c.loop-domain.invariant.left))

pub shut_rest-requires-in-Err : goal.shut_rest-requires-in-Err
shut_rest-requires-in-Err c =
    let G : BookView → Type 0 = λ b. b.gate ≡ c.args.gate.now in
    All-tail G c.in-Some.domain (into_iter_items c.next.new.self) (subst (All G) c.in-Some.ensures.items c.loop-domain.invariant.left)
