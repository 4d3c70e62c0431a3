use Rattle.std.proofs.Common.{◌≡◌, List, ℕ, Some, None, length, get_or, set, ◌<◌, sym, ap, subst, ◌∙◌, arith}
use Rattle.std.specs.Prelude.{IfSome}
use Rattle.std.proofs.lemmas.List.{get_or_default, length-set, map-set}
use Rattle.std.proofs.lemmas.List.Elements.{All-set}
use Rattle.due_times.specs.declared.charges.OpenCharge.{OpenCharge}
use Rattle.due_times.specs.OpenCharges.{OpenChargesView, end_of, ending_at, IsAhead}
use Rattle.due_times.proofs.charges.OpenCharges.end_at.Goals as goal

pub invariant_of-self : goal.invariant_of-self
invariant_of-self c =
    let s = c.self.inside in
    let charges = s.charges.items in
    let charge = c.in-Some.charge in
    let after : OpenCharge = ending_at c.args.end charge in
    let there : c.args.cpu < length charges = subst (λ (v : OpenChargesView). c.args.cpu < length v.charges) (sym c.self.view_is) c.requires.there in
    let here : get_or charges c.args.cpu None ≡ Some charge = get_or_default charges c.args.cpu None c.index_mut.result.now there ∙ sym c.index_mut.ensures.value ∙ c.in-Some.is in
    let soon : IfSome (get_or charges c.args.cpu None) (λ x. IsAhead s.upto (ending_at c.args.end x)) = subst (λ (v : OpenChargesView). IfSome (get_or v.charges c.args.cpu None) (λ x. IsAhead v.upto (ending_at c.args.end x))) (sym c.self.view_is) c.requires.ahead in
    record {
      early = c.self.invariant.early;
      few = omega (arith, c.self.invariant.few, length-set charges c.args.cpu (Some after));
      ahead = All-set (λ o. IfSome o (IsAhead s.upto)) charges c.args.cpu (Some after) (subst (λ o. IfSome o (λ x. IsAhead s.upto (ending_at c.args.end x))) here soon) c.self.invariant.ahead;
      ends_are = c.set.ensures ∙ ap (λ (es : List ℕ). set es c.args.cpu c.args.end) c.self.invariant.ends_are ∙ sym (map-set end_of charges c.args.cpu (Some after));
      room = omega (arith, c.self.invariant.room, length-set charges c.args.cpu (Some after));
    }
