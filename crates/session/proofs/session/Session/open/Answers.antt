use Rattle.std.proofs.Common.{◌≡◌, List, Option, sym, ap, subst, ◌∙◌}
use Rattle.bw_gate.specs.Pieces.{BlankView}
use Rattle.call_book.specs.Book.{BookView}
use Rattle.session.specs.declared.parts.Hand.{Hand}
use Rattle.session.specs.SessionId.{SessionId}
use Rattle.session.specs.private.Parts.{AreParts}
use Rattle.session.proofs.session.Session.open.Goals as goal

-- what keeps parts of an id keeps them of one that is the same
theirs : (id i v : SessionId) (books : List BookView) (hands : List (Option Hand)) (pool : List BlankView) → id ≡ v → i ≡ v → AreParts i books hands pool → AreParts id books hands pool
theirs id i v books hands pool is view parts = subst (λ (k : SessionId). AreParts k books hands pool) (view ∙ sym is) parts

pub new-requires-clause-named : goal.new-requires-clause-named
new-requires-clause-named g c =
    let p = c.parts.inside in
    (theirs g.N.Names.id _ c.args.parts p.books.items p.hands.items p.pool.items c.requires c.parts.view_is c.parts.invariant.0).named

pub new-requires-2 : goal.new-requires-2
new-requires-2 g c =
    let p = c.parts.inside in
    (theirs g.N.Names.id _ c.args.parts p.books.items p.hands.items p.pool.items c.requires c.parts.view_is c.parts.invariant.0).own

pub invariant_of-shared : goal.invariant_of-shared
invariant_of-shared g c =
    let p = c.parts.inside in
    let same = c.parts.view_is ∙ sym c.requires in
    let parts = theirs g.N.Names.id _ c.args.parts p.books.items p.hands.items p.pool.items c.requires c.parts.view_is c.parts.invariant.0 in
    (ap (λ (i : SessionId). i.gate) same, ap (λ (i : SessionId). i.cpu_sets) same, parts.session)

pub invariant_of-result-2 : goal.invariant_of-result-2
invariant_of-result-2 g c =
    let p = c.parts.inside in
    let same = c.parts.view_is ∙ sym c.requires in
    let parts = theirs g.N.Names.id _ c.args.parts p.books.items p.hands.items p.pool.items c.requires c.parts.view_is c.parts.invariant.0 in
    (parts.session, sym p.hands.ok.0 ∙ ap (λ (i : SessionId). i.clients) same, parts.dealt)

pub returns : goal.returns
returns g c =
    let p = c.parts.inside in
    (theirs g.N.Names.id _ c.args.parts p.books.items p.hands.items p.pool.items c.requires c.parts.view_is c.parts.invariant.0).some
