use Rattle.std.proofs.Common.{◌≡◌, ◌∙◌, All, sym, ap, subst}
use Rattle.std.specs.Vec.Iter.{into_iter_items}
use Rattle.std.proofs.lemmas.List.Elements.{All-head, All-tail}
use Rattle.call_book.specs.Book.{BookView}
use Rattle.call_book.specs.Ending.{EndingView}
use Rattle.session.proofs.begun_run.shut_rest.Goals as goal

pub shut-requires : goal.shut-requires
shut-requires c =
    let G : BookView → Type 0 = λ b. b.gate ≡ c.args.gate.now in
    sym (ap (λ (e : EndingView). e.book.gate) c.end.ensures ∙ All-head G c.in-Some.domain (into_iter_items c.next.new.self) (subst (All G) c.in-Some.ensures.items c.loop-domain.invariant))

pub loop-domain-preserved : goal.loop-domain-preserved
loop-domain-preserved c =
    let G : BookView → Type 0 = λ b. b.gate ≡ c.args.gate.now in
    All-tail G c.in-Some.domain (into_iter_items c.next.new.self) (subst (All G) c.in-Some.ensures.items c.loop-domain.invariant)
