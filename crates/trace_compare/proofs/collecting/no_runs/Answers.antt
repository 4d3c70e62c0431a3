use Rattle.std.proofs.Common.{◌≡◌, [], All, sym, subst, arith}
use Rattle.std.proofs.lemmas.List.Elements.{All-push}
use Rattle.trace_compare.proofs.collecting.no_runs.Goals as goal

pub loop-preserved : goal.loop-preserved
loop-preserved c =
    let v = c.loop.invariant in
    let many = v.many in
    let more = c.in_ok-push.ensures.len in
    record {
      many = omega (arith, many, more);
      none = subst (All (λ rs. rs.items ≡ [])) (sym c.in_ok-push.ensures.items) (All-push (λ rs. rs.items ≡ []) c.loop.runs.items c.new.result v.none c.new.ensures.items);
    }

pub returns-clause-none : goal.returns-clause-none
returns-clause-none c = c.loop.invariant.none
