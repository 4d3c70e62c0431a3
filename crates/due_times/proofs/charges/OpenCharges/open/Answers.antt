use Rattle.std.proofs.Common.{List, Option, map, length, sym, ap, subst, ◌∙◌, arith}
use Rattle.std.specs.Prelude.{IfSome, All}
use Rattle.std.proofs.lemmas.List.{length-map}
use Rattle.due_times.specs.declared.charges.OpenCharge.{OpenCharge}
use Rattle.due_times.specs.OpenCharges.{IsAhead, end_of}
use Rattle.due_times.proofs.ChargeTimes.{none_ahead, none_end, none_length}
use Rattle.due_times.proofs.charges.OpenCharges.open.Goals as goal

pub invariant_of-result : goal.invariant_of-result
invariant_of-result c =
    let n = c.args.cpus in
    record {
      early = omega arith;
      few = omega (arith, c.requires, ap (λ (xs : List (Option OpenCharge)). length (map end_of xs)) c.in_ok-charges.ensures.charges, length-map c.in_ok-charges.charges.items end_of, none_length n);
      ahead = subst (All (λ o. IfSome o (IsAhead 0))) (sym c.in_ok-charges.ensures.charges) (none_ahead n);
      ends_are = c.add_never.ensures ∙ none_end n ∙ ap (λ (xs : List (Option OpenCharge)). map end_of xs) (sym c.in_ok-charges.ensures.charges);
      room = omega (arith, c.in_ok-charges.ensures.room, ap (λ (xs : List (Option OpenCharge)). length (map end_of xs)) c.in_ok-charges.ensures.charges, length-map c.in_ok-charges.charges.items end_of, none_length n);
    }
