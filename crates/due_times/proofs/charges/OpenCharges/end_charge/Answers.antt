use Rattle.std.proofs.Common.{List, ℕ, None, set, sym, ap, ◌∙◌, arith}
use Rattle.std.specs.Prelude.{IfSome}
use Rattle.std.proofs.lemmas.List.{length-set, map-set}
use Rattle.std.proofs.lemmas.List.Elements.{All-set}
use Rattle.due_times.specs.OpenCharges.{end_of, IsAhead}
use Rattle.due_times.proofs.charges.OpenCharges.end_charge.Goals as goal

pub invariant_of-self : goal.invariant_of-self
invariant_of-self c =
    let s = c.self.inside in
    let charges = s.charges.items in
    record {
      early = c.self.invariant.early;
      few = omega (arith, c.self.invariant.few, length-set charges c.args.cpu None);
      ahead = All-set (λ o. IfSome o (IsAhead s.upto)) charges c.args.cpu None tt c.self.invariant.ahead;
      ends_are = c.set.ensures ∙ ap (λ (es : List ℕ). set es c.args.cpu (end_of None)) c.self.invariant.ends_are ∙ sym (map-set end_of charges c.args.cpu None);
      room = omega (arith, c.self.invariant.room, length-set charges c.args.cpu None);
    }
