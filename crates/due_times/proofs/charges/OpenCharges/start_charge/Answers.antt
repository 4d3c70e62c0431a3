use Rattle.std.proofs.Common.{List, ℕ, Some, set, sym, ap, subst, ◌∙◌, arith}
use Rattle.std.specs.Prelude.{IfSome}
use Rattle.std.proofs.lemmas.List.{length-set, map-set}
use Rattle.std.proofs.lemmas.List.Elements.{All-set}
use Rattle.due_times.specs.OpenCharges.{OpenChargesView, end_of, IsAhead}
use Rattle.due_times.proofs.charges.OpenCharges.start_charge.Goals as goal

pub invariant_of-self : goal.invariant_of-self
invariant_of-self c =
    let s = c.self.inside in
    let charges = s.charges.items in
    let charge = c.args.charge in
    record {
      early = c.self.invariant.early;
      few = omega (arith, c.self.invariant.few, length-set charges c.args.cpu (Some charge));
      ahead = All-set (λ o. IfSome o (IsAhead s.upto)) charges c.args.cpu (Some charge) (subst (λ (v : OpenChargesView). IsAhead v.upto charge) (sym c.self.view_is) c.requires.ahead) c.self.invariant.ahead;
      ends_are = c.set.ensures ∙ ap (λ (es : List ℕ). set es c.args.cpu charge.end) c.self.invariant.ends_are ∙ sym (map-set end_of charges c.args.cpu (Some charge));
      room = omega (arith, c.self.invariant.room, length-set charges c.args.cpu (Some charge));
    }
