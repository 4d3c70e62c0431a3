use Rattle.std.proofs.Common.{◌≡◌, ℕ, true, map, replicate, refl, ap, sym, ◌∙◌, arith}
use Rattle.session.proofs.Opening.{count_hands, is_session, are_named}
use Rattle.session.proofs.parts.Parts.open.Goals as goal

pub invariant_of-result : goal.invariant_of-result
invariant_of-result c =
    let o = c.args.options.now in
    let gate = c.in_ok-gate.gate in
    let books = c.in_ok-books.books in
    let sets = map (λ (v : _). v.items) c.in_ok-cpu_sets.cpu_sets.items in
    let hands = c.books_of.new.hands in
    let logged = c.in_ok-books.ensures in
    let clients : hands.len ≡ o.clients = hands.ok.0 ∙ count_hands hands.items o.clients logged.some in (
      record {
        session = is_session o gate books.items sets hands.len c.requires c.in_ok-gate.ensures.terms c.in_ok-cpu_sets.ensures logged.count clients;
        named = are_named o gate books.items sets hands.len c.in_ok-cpu_sets.ensures logged.count clients logged.books;
        some = logged.some ∙ ap (λ (n : ℕ). replicate n true) (sym clients);
        dealt = logged.hands;
        own = c.empty_hands.ensures.pool gate c.in_ok-gate.ensures.blanks;
      },
      c.in-Ok.ensures.items,
      omega (arith, c.len-count.ensures, books.ok.0, c.in-Ok.ensures.capacity),
    )

pub returns : goal.returns
returns c =
    let o = c.args.options.now in
    let hands = c.books_of.new.hands in
    record {
      terms = c.in_ok-gate.ensures.terms;
      cpu_sets = c.in_ok-cpu_sets.ensures;
      limit = refl;
      clients = hands.ok.0 ∙ count_hands hands.items o.clients c.in_ok-books.ensures.some;
      max_calls = refl;
      workers = refl;
    }
