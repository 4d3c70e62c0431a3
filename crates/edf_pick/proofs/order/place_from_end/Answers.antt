use Rattle.std.proofs.Common.{◌∙◌, length, refl, sym, arith}
use Rattle.edf_pick.proofs.Occupants.{nobody}
use Rattle.edf_pick.proofs.Rising.{place_end, place_none}
use Rattle.edf_pick.proofs.order.place_from_end.Goals as goal
use Rattle.edf_pick.proofs.order.place_from_end.Goals.{then-end-eq0-via-then-end-eq0, then-end-eq0-via-else-end-eq0+then-is_before}

pub returns-then-end-eq0-clause-place : goal.returns-then-end-eq0-clause-place
returns-then-end-eq0-clause-place c =
    let one = c.args.c.now in
    let queue = c.args.queue.now in
    elim c.then-end-eq0.branch [
      | then-end-eq0-via-then-end-eq0 w ↦ sym (place_none one queue (omega arith))
      | then-end-eq0-via-else-end-eq0+then-is_before w ↦ sym (place_end one queue nobody (length queue) c.requires refl (λ e. omega (arith, e)) (sym w.is_before.ensures ∙ w.if-is_before.true))
    ]
