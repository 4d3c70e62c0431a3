use Rattle.std.proofs.Common.{◌<◌, ℕ, ◌+◌, List, get_or, length, map, ap, sym, subst, ◌∙◌, arith}
use Rattle.std.specs.Prelude.{slice_index}
use Rattle.std.proofs.lemmas.List.{length-map, length_push, map_push}
use Rattle.atomic_table.specs.Seated.{TableId}
use Rattle.call_book.specs.Book.{BookView}
use Rattle.session.specs.private.Parts.{IsBookOf, AreHands}
use Rattle.session.proofs.Opening.{count_hands, room_for_one, each_push}
use Rattle.session.proofs.parts.books_of.Goals as goal

pub deal-requires-clause-count : goal.deal-requires-clause-count
deal-requires-clause-count c =
    count_hands c.loop-d.hands.items c.args.options.now.clients c.loop-d.invariant.some ∙ sym c.in-Ok.ensures.count

pub deal-requires-clause-room : goal.deal-requires-clause-room
deal-requires-clause-room c = λ i x inside.
    let inv = c.loop-d.invariant in
    let o = c.args.options.now in
    let books = c.loop-d.books.items in
    let spines = map (λ (b : BookView). b.spine) books in
    let few : length spines < length o.domains.items = omega (arith, length-map books (λ (b : BookView). b.spine), inv.count, c.len-count.ensures, o.domains.ok.0) in
    room_for_one c.args.gate.now spines (length o.domains.items) (i + 1) (get_or c.loop-d.hands.items i x) few (inv.hands i x inside) (inv.room i x inside)

pub loop-d-preserved : goal.loop-d-preserved
loop-d-preserved c =
    let inv = c.loop-d.invariant in
    let o = c.args.options.now in
    let gate = c.args.gate.now in
    let d = c.loop-d.d in
    let was = c.loop-d.books.items in
    let items = c.push_reserved.ensures.items in
    let b : BookView = c.in-Ok.book in
    let logged = c.in-Ok.ensures in
    let spine : BookView → TableId = λ x. x.spine in
    record {
      count = ap length items ∙ length_push was b ∙ ap (λ (k : ℕ). k + 1) inv.count;
      capacity = omega (arith, c.push_reserved.ensures.capacity, inv.capacity);
      books = λ e x inside.
          subst (λ (bs : List BookView). e < length bs → IsBookOf gate e (slice_index o.domains.items e) o.limit o.clients o.history o.workers (get_or bs e x)) (sym items)
          (λ there. each_push (λ j y. IsBookOf gate j (slice_index o.domains.items j) o.limit o.clients o.history o.workers y) was d e b x inv.count there
          logged.book
          (λ front. inv.books e x front))
          inside;
      hands =
          subst (λ (ss : List TableId). AreHands gate ss c.deal.new.hands.items) (sym (ap (map spine) items ∙ map_push spine was b))
          (c.deal.ensures.dealt gate (map spine was) b.spine inv.hands logged.passes);
      some = c.deal.ensures.some ∙ inv.some;
      room = c.deal.ensures.room (length o.domains.items) inv.room;
    }
