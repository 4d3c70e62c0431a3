use Rattle.std.proofs.Common.{◌≡◌, ◌∙◌, None, Some, get_or, sym, ap, arith}
use Rattle.std.proofs.lemmas.Grind.{common_steps}
use Rattle.edf_pick.specs.Places.{Places, cpu_for}
use Rattle.edf_pick.proofs.Waits.{assign_bare, stays_none}
use Rattle.edf_pick.proofs.settling.assign_mover.Goals as goal

pub stay-requires-clause-bare : goal.stay-requires-clause-bare
stay-requires-clause-bare c =
    let places = c.args.places.now.items in
    let one = c.args.c.now in
    let cpu = c.in-Some.cpu in
    let assign : cpu_for places one ≡ Some cpu = ap (λ (ps : Places). cpu_for ps one) (sym c.deref.ensures.value) ∙ sym c.in-Some.ensures.assign in
    stays_none c.args.running.now cpu (ap (λ (ps : Places). get_or ps cpu None) c.requires.same ∙ (assign_bare places one cpu assign).1)

pub stay-requires-clause-within : goal.stay-requires-clause-within
stay-requires-clause-within c = grind (arith, common_steps)
