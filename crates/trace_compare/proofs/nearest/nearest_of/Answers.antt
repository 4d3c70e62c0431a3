use Rattle.std.proofs.Common.{◌≡◌, ◌∙◌, get_or, ap, arith}
use Rattle.std.proofs.lemmas.Grind.{common_steps}
use Rattle.std.proofs.lemmas.List.{get_or_default}
use Rattle.trace_compare.specs.Differences.{far_from}
use Rattle.trace_compare.specs.declared.run.Run.{Run}
use Rattle.trace_compare.proofs.OneMore.{least_stays, least_moves, least_here}
use Rattle.trace_compare.proofs.nearest.nearest_of.Goals as goal
use Rattle.trace_compare.proofs.nearest.nearest_of.Goals.{then-far, else-far}

pub returns-clause-found : goal.returns-clause-found
returns-clause-found c = grind (arith, common_steps)

pub loop-i-preserved : goal.loop-i-preserved
loop-i-preserved c =
    let f = far_from c.args.shift c.args.m.now in
    let rs = c.args.recorded.now in
    let n = c.loop-i.nearest in
    let i = c.loop-i.i in
    let v = c.loop-i.invariant in
    let there : (d : Run) → c.far.result ≡ far_from c.args.shift c.args.m.now (get_or rs i d) = λ d. c.far.ensures ∙ ap f (get_or_default rs i _ d (omega arith)) in
    let here : (d : Run) → c.far-in-loop-i.result ≡ far_from c.args.shift c.args.m.now (get_or rs n d) = λ d. c.far-in-loop-i.ensures ∙ ap f (get_or_default rs n _ d (omega arith)) in
    elim c.if-far.branch [
      | then-far w ↦
          let first = least_moves f rs n i (λ d. let a = there d in let b = here d in omega (arith, a, b, w.if-far.true)) v.least in
          rw w.nearest-is (record { within = omega arith; least = least_here f rs i first; first = first })
      | else-far w ↦
          rw w.nearest-is (record { within = omega arith; least = least_stays f rs n i (λ d. let a = there d in let b = here d in omega (arith, a, b, w.if-far.false)) v.least; first = v.first })
    ]
