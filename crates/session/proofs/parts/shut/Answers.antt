use Rattle.std.proofs.Common.{◌≡◌, Some}
use Rattle.std.proofs.lemmas.List.Elements.{All-pop}
use Rattle.call_book.specs.Book.{BookView}
use Rattle.session.proofs.parts.shut.Goals as goal

pub shut_one-requires : goal.shut_one-requires
shut_one-requires c =
    (All-pop (λ (b : BookView). b.gate ≡ c.args.gate.now) c.loop-domain.books.items c.pop.new.self.items (Some c.in-Some.domain) c.in-Some.ensures.items c.loop-domain.invariant).1

pub loop-domain-preserved : goal.loop-domain-preserved
loop-domain-preserved c =
    (All-pop (λ (b : BookView). b.gate ≡ c.args.gate.now) c.loop-domain.books.items c.pop.new.self.items (Some c.in-Some.domain) c.in-Some.ensures.items c.loop-domain.invariant).0
