use Rattle.std.proofs.Common.{arith, ap}
use Rattle.session.specs.SessionId.{SessionId}
use Rattle.dl_session.proofs.asked.ask_in.Goals as goal

pub returns-in-Ok-admit_all-clause-ok : goal.returns-in-Ok-admit_all-clause-ok
returns-in-Ok-admit_all-clause-ok g c =
    let many = ap (λ (i : SessionId). i.clients) c.requires.parts in
    record { some = omega (arith, c.requires.some, c.requires.many, many); before = c.in-Ok.clients.items; new = c.in-Ok.ensures; asked = c.in-Ok-admit_all.ensures.ok }
