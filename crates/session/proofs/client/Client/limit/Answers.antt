use Rattle.std.proofs.Common.{Err, sym, subst}
use Rattle.session.specs.declared.refusal.Refusal.TheVariants as refusals
use Rattle.session.specs.Seen.{RefusalWasSeen}
use Rattle.session.specs.Asks.{ClientView, part_in, MakesLimit}
use Rattle.session.specs.private.Entering.{MakesLimitWith}
use Rattle.session.proofs.Asked.{limit_made, limit_unmade}
use Rattle.session.proofs.client.Client.limit.Goals as goal

pub returns-in-Some-clause-made : goal.returns-in-Some-clause-made
returns-in-Some-clause-made g c =
    let id = g.N.Names.id in
    let e = c.enter_at.new.self in
    let d = c.args.domain in
    limit_made id c.args.self.now e d c.args.limit c.in-Some.blank c.enter_at.result c.in-Some.ensures.found
    (subst (λ (v : ClientView). MakesLimitWith id v e d c.args.limit c.in-Some.blank c.enter_at.result) c.find_blank.ensures.same c.enter_at.ensures.0)
    c.enter_at.ensures.1
    (subst (λ (v : ClientView). RefusalWasSeen id d (part_in v d) c.enter_at.result) c.find_blank.ensures.same c.enter_at.ensures.2)

pub returns-in-None-clause-made : goal.returns-in-None-clause-made
returns-in-None-clause-made g c =
    let id = g.N.Names.id in
    let d = c.args.domain in
    subst (λ (v : ClientView). MakesLimit id c.args.self.now v d c.args.limit (Err refusals.Full)) (sym c.find_blank.ensures.same)
    (limit_unmade id c.args.self.now d c.args.limit c.in-None.ensures.none)
