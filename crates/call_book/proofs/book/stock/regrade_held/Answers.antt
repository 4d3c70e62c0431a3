use Rattle.std.proofs.Common.{◌≡◌, suc, ◌<◌, ◌++◌, ◌∷◌, List, length, take, drop, get_or, sym, ap, subst, ◌∙◌, arith}
use Rattle.std.specs.List.{insert}
use Rattle.std.proofs.Math.Seq.{split_at}
use Rattle.call_book.specs.declared.book.stock.Held.{Held}
use Rattle.call_book.proofs.Asking.{put_back}
use Rattle.call_book.proofs.book.stock.regrade_held.Goals as goal

pub returns-clause-asked : goal.returns-clause-asked
returns-clause-asked g c =
    let items = c.args.held.now.items in
    let place = c.place_of-place.result in
    let h : Held = c.remove-ticket.result in
    let y : Held = record { number = c.args.number; ticket = c.ask-ticket.result.0 } in
    let within : place < length items = subst (λ (xs : List Held). place < length xs) c.deref.ensures.value c.place_of-place.ensures.within in
    let there : h.number ≡ c.args.number = ap (λ (x : Held). x.number) c.remove-ticket.ensures.value ∙ subst (λ (xs : List Held). (get_or xs place h).number ≡ c.args.number) c.deref.ensures.value (c.place_of-place.ensures.there h) in
    let whole : h ≡ record { number = c.args.number; ticket = h.ticket } = λ i. record { number = there i; ticket = h.ticket } in
    record {
      before = take place items;
      following = drop (suc place) items;
      was = h.ticket;
      becomes = c.ask-ticket.result.0;
      old_tickets = split_at items place h within ∙ ap (λ (x : Held). take place items ++ x ∷ drop (suc place) items) (sym c.remove-ticket.ensures.value ∙ whole);
      new_tickets = ◌∙◌ {A = List Held} c.in-Ok.ensures.items (◌∙◌ {A = List Held} (ap (λ (xs : List Held). insert xs place y) c.remove-ticket.ensures.items) (put_back place items (drop (suc place) items) y (omega (arith, within))));
      answered = c.ask-ticket.ensures;
    }
