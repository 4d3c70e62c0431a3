use Rattle.std.proofs.Common.{◌≡◌, ◌+◌, ◌∙◌, ℕ, List, Option, Some, false, take, get_or, set, sym, ap, subst}
use Rattle.std.specs.Prelude.{All, is_some}
use Rattle.edf_pick.specs.declared.candidate.Candidate.{Candidate}
use Rattle.edf_pick.specs.Places.{Places, is_on_cpu}
use Rattle.edf_pick.specs.private.Ready.{running_places, AreOn, AreAssigned}
use Rattle.edf_pick.proofs.Occupants.{nobody}
use Rattle.edf_pick.proofs.Settled.{next_mover}
use Rattle.edf_pick.proofs.Waits.{next_away, more_assigned}
use Rattle.edf_pick.proofs.settling.assign_all.Goals as goal

pub assign_mover-marks-requires-clause-free : goal.assign_mover-marks-requires-clause-free
assign_mover-marks-requires-clause-free c =
    let n = next_mover c.args.running.now c.args.movers.now c.loop-i.i nobody c.loop-i.running c.loop-i.places.items c.requires.free c.loop-i-test.true c.loop-i.invariant.assigned in
    ap (λ (o : Option ℕ). is_some o) n.1

pub loop-i-preserved : goal.loop-i-preserved
loop-i-preserved c =
    let stays = c.args.running.now in
    let movers = c.args.movers.now in
    let i = c.loop-i.i in
    let one = get_or movers i nobody in
    let now = c.loop-i.running in
    let places = c.loop-i.places.items in
    let inv = c.loop-i.invariant in
    let e = c.assign_mover-marks.ensures in
    let n = next_mover stays movers i nobody now places c.requires.free c.loop-i-test.true inv.assigned in
    let on = subst (λ (ps : Places). AreOn stays ps) c.requires.same c.requires.on in
    let away = subst (λ (ps : Places). All (λ c. is_on_cpu c.number ps ≡ false) movers) c.requires.same c.requires.away in
    let absent : is_on_cpu one.number places ≡ false = next_away stays movers (running_places stays) i nobody now places c.requires.numbered on away c.loop-i-test.true inv.assigned in
    record {
      assigned = subst (λ (ps : Places). AreAssigned stays (take (i + 1) movers) c.assign_mover-marks.new.running ps) (sym (e.places n.0 n.1))
          (subst (λ (ss : List (Option Candidate)). AreAssigned stays (take (i + 1) movers) ss (set places n.0 (Some one.number))) (sym (e.running n.0 n.1))
          (more_assigned stays movers i nobody now places n.0 c.loop-i-test.true inv.assigned absent n.1));
      len = e.len ∙ inv.len;
      room = e.room ∙ inv.room;
      taken = e.taken;
    }
