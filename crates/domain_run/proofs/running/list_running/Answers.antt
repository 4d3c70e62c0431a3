use Rattle.std.proofs.Common.{ap, ◌∙◌, ◌++◌, [], ◌∷◌, arith}
use Rattle.domain_run.proofs.Homing.{running_one, running_idle}
use Rattle.domain_run.proofs.running.list_running.Goals as goal
use Rattle.domain_run.proofs.running.list_running.Goals.{in-Some, in_default}

pub loop-occupant-preserved : goal.loop-occupant-preserved
loop-occupant-preserved c =
    let l = c.loop-occupant in
    let places = c.args.places.now in
    elim c.match-occupant.branch [
      | in-Some w ↦ record {
        listed = rw w.running-is (w.push_reserved.ensures.items ∙ ap (λ ns. ns ++ w.in-Some.number ∷ []) l.invariant.listed ∙ running_one places l.occupant-index w.in-Some.number c.loop-occupant-test.true w.in-Some.is);
        few = rw w.running-is (omega (arith, w.push_reserved.ensures.len, l.invariant.few));
        room = rw w.running-is (w.push_reserved.ensures.capacity ∙ l.invariant.room);
      }
      | in_default w ↦ record {
        listed = rw w.running-is (l.invariant.listed ∙ running_idle places l.occupant-index c.loop-occupant-test.true w.in_default.is);
        few = rw w.running-is (omega (arith, l.invariant.few));
        room = rw w.running-is l.invariant.room;
      }
    ]
