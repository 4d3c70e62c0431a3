use Rattle.std.proofs.Common.{refl, sym, ◌∙◌, arith}
use Rattle.std.proofs.lemmas.List.{length-set}
use Rattle.jump_run.specs.Plan.{IsGathered}
use Rattle.jump_run.proofs.Gathering.{IsNext, gathered_push}
use Rattle.jump_run.proofs.alone.gather.Goals as goal

pub loop-i-preserved : goal.loop-i-preserved
loop-i-preserved g c =
    let l = c.loop-i in
    let next = c.lasting-ticks.result in
    let r = c.in-Some.runner in
    let left = c.left_of-left.result in
    let rate = c.rate-rate.result in
    let lasting = c.lasting-ticks.ensures in
    let work_is = c.min.ensures in
    let gathered : IsGathered c.args.state.now next r left rate = record {
      left_is = c.left_of-left.ensures.left;
      rate_is = c.rate-rate.ensures.rate;
      worked = omega (arith, lasting.most, work_is);
      lasted = lasting.lasted;
    } in
    let at : IsNext c.args.state.now next l.i r left rate = record {
      is = sym c.in-Some.ensures.running;
      gathered = gathered;
      slow = c.rate-rate.ensures.slow;
      high = c.left_of-left.ensures.high;
    } in
    record {
      some = lasting.some;
      most = omega (arith, lasting.most, work_is, l.invariant.most);
      quiet = omega (arith, lasting.most, work_is, l.invariant.quiet);
      short = omega (arith, lasting.most, work_is, l.invariant.short);
      within = let there = c.in-Some.ensures.there.0 refl in omega (arith, there);
      few = λ some. c.in-Some.ensures.few;
      lefts = length-set l.room.lefts l.i left ∙ l.invariant.lefts;
      rates = length-set l.room.rates l.i rate ∙ l.invariant.rates;
      budgets = l.invariant.budgets;
      each = gathered_push c.args.state.now l.ticks next l.i l.room.lefts l.room.rates r left rate (omega (arith, lasting.most, work_is)) at (omega arith) (omega arith) l.invariant.each;
    }

pub returns-clause-many : goal.returns-clause-many
returns-clause-many g c = omega (arith, c.loop-i-test.false, c.loop-i.auto.i-end, c.loop-i.invariant.within, c.loop-i.invariant.few (omega arith))
