use Rattle.std.proofs.Common.{◌≡◌, ◌+◌, ◌∙◌, None, All, refl, sym, ap, subst}
use Rattle.std.proofs.lemmas.List.Elements.{All-push}
use Rattle.recorded_jobs.proofs.stretch.no_moments.Goals as goal

pub loop-preserved : goal.loop-preserved
loop-preserved c =
    let v = c.loop.invariant in
    record {
      many = c.in_ok-push.ensures.len ∙ ap (λ n. n + 1) v.many;
      none = subst (All (λ m. m ≡ None)) (sym c.in_ok-push.ensures.items) (All-push (λ m. m ≡ None) c.loop.moments.items None v.none refl);
    }

pub returns-clause-none : goal.returns-clause-none
returns-clause-none c = c.loop.invariant.none
