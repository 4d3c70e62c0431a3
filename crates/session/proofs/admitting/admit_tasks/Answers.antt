use Rattle.std.proofs.Common.{map, arith}
use Rattle.std.proofs.lemmas.Grind.{common_steps}
use Rattle.session.proofs.Admitted.{all_seated, have_room, shares_answer}
use Rattle.session.proofs.admitting.admit_tasks.Goals as goal

pub ask_apart-requires-clause-seats : goal.ask_apart-requires-clause-seats
ask_apart-requires-clause-seats g c = λ κs lives. have_room c.args.tasks.now c.args.clients.items c.in_ok-seats.seats.items c.in_ok-seats.ensures

pub gather-requires-clause-each : goal.gather-requires-clause-each
gather-requires-clause-each g c =
    shares_answer g.N.Names.id c.args.tasks.now (λ q. q.items) c.args.clients.items c.in_ok-clients.field-0.clients.items c.in_ok-seats.seats.items c.in_ok-clients.field-0.shares.items
    c.in_ok-seats.ensures c.in_ok-clients.ensures.ok

pub returns : goal.returns
returns g c =
    let shares = map (λ q. q.items) c.in_ok-clients.field-0.shares.items in
    all_seated g.N.Names.id c.args.tasks.now c.args.clients.items c.in_ok-seats.seats.items c.in_ok-clients.field-0.clients.items shares c.gather.result.items
    c.requires.some c.in_ok-seats.ensures c.in_ok-clients.ensures.ok c.gather.ensures

pub gather-requires-clause-some : goal.gather-requires-clause-some
gather-requires-clause-some g c = grind (arith, common_steps)

pub gather-requires-clause-nobody : goal.gather-requires-clause-nobody
gather-requires-clause-nobody g c = grind (arith, common_steps)

pub gather-requires-clause-room : goal.gather-requires-clause-room
gather-requires-clause-room g c = grind (arith, common_steps)
