use Rattle.std.proofs.Common.{length, sym, ap, ◌∙◌, arith}
use Rattle.edf_pick.specs.Places.{Places}
use Rattle.domain_run.specs.Jump.{running_numbers}
use Rattle.domain_run.proofs.state.State.list_running.Goals as goal

pub relist-requires-clause-room : goal.relist-requires-clause-room
relist-requires-clause-room c = omega (arith, ap (λ (ps : Places). length ps) c.occupants.ensures.occupants, c.self.invariant.domain.steady.wide, c.self.invariant.running_room)

pub relist-requires-clause-listed : goal.relist-requires-clause-listed
relist-requires-clause-listed c listed = c.self.invariant.running_is listed ∙ ap running_numbers (sym c.occupants.ensures.occupants)

pub invariant_of-self : goal.invariant_of-self
invariant_of-self c =
    let i = c.self.invariant in
    record {
      domain = i.domain;
      wide = i.wide;
      running_is = λ listed. c.relist.ensures.running ∙ ap running_numbers c.occupants.ensures.occupants;
      running_room = c.relist.ensures.room ∙ i.running_room;
      switch_room = i.switch_room;
    }
