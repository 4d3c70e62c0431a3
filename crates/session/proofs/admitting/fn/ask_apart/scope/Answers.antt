use Rattle.std.proofs.Common.{map, sym, subst, ◌∙◌}
use Rattle.session.specs.private.Admitting.{AreAsked}
use Rattle.session.proofs.Admitted.{threads_asked}
use Rattle.session.proofs.admitting.fn.ask_apart.scope.Goals as goal

pub returns : goal.returns
returns g c =
    let handles = c.in_ok-started.started in
    let seats = c.captures.seats.items in
    let joined = c.join_all.result in
    record {
      ok = threads_asked g.N.Names.id c.captures.tasks.now (λ h. h.promise.seat.value) handles.items seats joined.clients.items (map (λ q. q.items) joined.shares.items)
          (sym handles.ok.0 ∙ c.in_ok-started.ensures.len) c.in_ok-started.ensures.each
          (subst (λ ts. AreAsked g.N.Names.id ts (map (λ h. h.promise.seat.value) handles.items) joined.clients.items (map (λ q. q.items) joined.shares.items)) (sym c.requires.tasks) c.join_all.ensures);
    }
