use Rattle.session.proofs.Asked.{refused_asks, goes_to, hand_after, asks_one}
use Rattle.session.proofs.client.Client.admit.Goals as goal

pub returns-in-Err-clause-asked : goal.returns-in-Err-clause-asked
returns-in-Err-clause-asked g c = refused_asks g.N.Names.id c.args.self.now c.args.task.now c.in-Err.refusal c.in-Err.ensures.nowhere c.in-Err.ensures.refused (c.in-Err.ensures.same c.args.self.now.hand)

pub returns-in-Err-clause-last : goal.returns-in-Err-clause-last
returns-in-Err-clause-last g c = c.in-Err.ensures.unasked c.args.self.now.hand

pub returns-in-Err-clause-hand : goal.returns-in-Err-clause-hand
returns-in-Err-clause-hand g c = c.in-Err.ensures.same c.args.self.now.hand

pub returns-clause-asked : goal.returns-clause-asked
returns-clause-asked g c =
    let goes = goes_to g.N.Names.id c.args.task.now c.in-Ok.found.0 c.in-Ok.found.1 c.in-Ok.ensures.checked c.in-Ok.ensures.domain in
    asks_one g.N.Names.id c.args.self.now c.admit_at.new.self c.args.task.now c.in-Ok.found.1 c.admit_at.result goes c.admit_at.ensures.made c.admit_at.ensures.verdict c.admit_at.ensures.gate c.admit_at.ensures.seen

pub returns-clause-hand : goal.returns-clause-hand
returns-clause-hand g c =
    let goes = goes_to g.N.Names.id c.args.task.now c.in-Ok.found.0 c.in-Ok.found.1 c.in-Ok.ensures.checked c.in-Ok.ensures.domain in
    hand_after g.N.Names.id c.args.task.now c.in-Ok.found.1 c.args.self.now.hand c.admit_at.result c.admit_at.new.self.hand goes c.admit_at.ensures.verdict c.admit_at.ensures.gate
