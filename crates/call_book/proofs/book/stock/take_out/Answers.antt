use Rattle.std.proofs.Common.{◌≡◌, suc, ◌<◌, ◌++◌, ◌∷◌, List, length, take, drop, get_or, sym, ap, subst, ◌∙◌}
use Rattle.std.proofs.Math.Seq.{split_at}
use Rattle.call_book.specs.declared.book.stock.Held.{Held}
use Rattle.call_book.proofs.book.stock.take_out.Goals as goal

pub returns-clause-taken : goal.returns-clause-taken
returns-clause-taken c =
    let items = c.args.held.now.items in
    let place = c.place_of-place.result in
    let h : Held = c.remove-ticket.result in
    let within : place < length items = subst (λ (xs : List Held). place < length xs) c.deref.ensures.value c.place_of-place.ensures.within in
    let there : h.number ≡ c.args.number = ap (λ (x : Held). x.number) c.remove-ticket.ensures.value ∙ subst (λ (xs : List Held). (get_or xs place h).number ≡ c.args.number) c.deref.ensures.value (c.place_of-place.ensures.there h) in
    let whole : h ≡ record { number = c.args.number; ticket = h.ticket } = λ i. record { number = there i; ticket = h.ticket } in
    record {
      before = take place items;
      following = drop (suc place) items;
      old_tickets = split_at items place h within ∙ ap (λ (x : Held). take place items ++ x ∷ drop (suc place) items) (sym c.remove-ticket.ensures.value ∙ whole);
      new_tickets = c.remove-ticket.ensures.items;
    }
