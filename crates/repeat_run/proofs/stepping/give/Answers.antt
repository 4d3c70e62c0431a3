use Rattle.std.proofs.Common.{◌<◌, refl, sym, ◌∙◌, arith}
use Rattle.domain_run.specs.Shift.{given_again}
use Rattle.repeat_run.proofs.Handing.{given_now, given_next}
use Rattle.repeat_run.proofs.stepping.give.Goals as goal

pub repeat-requires-clause-again : goal.repeat-requires-clause-again
repeat-requires-clause-again c =
    let g = c.args.giving in
    let d = c.args.buffered.now in
    let some : 0 < g.left = omega (arith, c.if-giving-eq0.false) in
    let now = given_now g.micros g.later_by g.left c.args.kept.now d c.requires.knows some in
    let paces = sym c.deref.ensures.value in
    let period = sym c.deref-2.ensures.value in
    now.again ∙ (λ i. given_again g.micros (paces i) g.later_by (period i) d)

pub returns-clause-knows : goal.returns-clause-knows
returns-clause-knows c =
    let g = c.args.giving in
    let some : 0 < g.left = omega (arith, c.if-giving-eq0.false) in
    given_next g.micros g.later_by g.left c.args.kept.now c.args.buffered.now c.requires.knows some c.repeat.new.self (c.if-not-repeat.ensures.made refl)
