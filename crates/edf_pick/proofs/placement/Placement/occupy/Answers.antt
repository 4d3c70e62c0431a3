use Rattle.std.proofs.Common.{◌≡◌, ◌∙◌, false, Some, set, sym, ap, subst, arith}
use Rattle.edf_pick.specs.Places.{Places, AreSingle, is_on_cpu}
use Rattle.edf_pick.proofs.Occupants.{single_put}
use Rattle.edf_pick.proofs.placement.Placement.occupy.Goals as goal

pub invariant_of-self : goal.invariant_of-self
invariant_of-self c =
    let i = c.self.invariant in
    let done = c.occupy-self-inside.ensures in
    let items = c.self.inside.occupants.items in
    let away : is_on_cpu c.args.number items ≡ false = subst (λ (ps : Places). is_on_cpu c.args.number ps ≡ false) (sym c.self.view_is) c.requires.away in
    record {
      some = omega (arith, i.some, done.len);
      few = omega (arith, i.few, done.len);
      room = omega (arith, done.room, i.room, done.len);
      before_room = omega (arith, i.before_room, done.len);
      copied = ap (λ (ps : Places). set ps c.args.cpu (Some c.args.number)) i.copied ∙ sym done.places;
      taken = done.taken;
      single = subst (λ (ps : Places). AreSingle ps) (sym done.places) (single_put items c.args.cpu c.args.number i.single away);
    }
