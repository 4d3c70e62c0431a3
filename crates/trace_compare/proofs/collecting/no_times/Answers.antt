use Rattle.std.proofs.Common.{◌≡◌, ◌+◌, ◌∙◌, None, All, refl, sym, ap, subst}
use Rattle.std.proofs.lemmas.List.Elements.{All-push}
use Rattle.trace_compare.proofs.collecting.no_times.Goals as goal

pub loop-preserved : goal.loop-preserved
loop-preserved c =
    let v = c.loop.invariant in
    record {
      many = c.in_ok-push.ensures.len ∙ ap (λ n. n + 1) v.many;
      none = subst (All (λ t. t ≡ None)) (sym c.in_ok-push.ensures.items) (All-push (λ t. t ≡ None) c.loop.times.items None v.none refl);
    }

pub returns-clause-none : goal.returns-clause-none
returns-clause-none c = c.loop.invariant.none
