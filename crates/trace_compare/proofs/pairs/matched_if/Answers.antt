use Rattle.std.proofs.Common.{arith, ◌+◌}
use Rattle.trace_compare.specs.Pairs.{fits}
use Rattle.trace_compare.proofs.Walking.{turn_more, count_fit, walk_early, count_late, count_model_end, count_recorded_end}
use Rattle.trace_compare.specs.Pairs.{count_matched}
use Rattle.std.proofs.Common.{ap}
use Rattle.trace_compare.proofs.FewMatch.{few_match, rest_match}
use Rattle.trace_compare.proofs.pairs.matched_if.Goals as goal

pub loop-i-preserved-in-Fit : goal.loop-i-preserved-in-Fit
loop-i-preserved-in-Fit c =
    let v = c.loop-i.invariant in
    let one = count_fit c.args.within c.args.shift c.args.ms.now c.args.rs.now c.loop-i.i c.loop-i.j c.loop-i-test.true c.if-j-rs.true c.in-Fit.ensures in
    record {
      counted = omega (arith, one, v.counted);
      model_turn = turn_more c.args.ms.now c.loop-i.i c.loop-i-test.true v.model_turn;
      recorded_turn = turn_more c.args.rs.now c.loop-i.j c.if-j-rs.true v.recorded_turn;
      few = omega (arith, v.few);
      i_within = omega (arith, c.loop-i-test.true);
      j_within = omega (arith, c.if-j-rs.true);
    }

pub loop-i-preserved-in-Early : goal.loop-i-preserved-in-Early
loop-i-preserved-in-Early c =
    let v = c.loop-i.invariant in
    let same = ap count_matched (walk_early c.args.within c.args.shift c.args.ms.now c.args.rs.now c.loop-i.i c.loop-i.j c.loop-i-test.true c.if-j-rs.true v.model_turn c.in-Early.ensures) in
    record {
      counted = omega (arith, same, v.counted);
      model_turn = v.model_turn;
      recorded_turn = turn_more c.args.rs.now c.loop-i.j c.if-j-rs.true v.recorded_turn;
      few = v.few;
      i_within = v.i_within;
      j_within = omega (arith, c.if-j-rs.true);
    }

pub loop-i-preserved : goal.loop-i-preserved
loop-i-preserved c =
    let v = c.loop-i.invariant in
    let same = count_late c.args.within c.args.shift c.args.ms.now c.args.rs.now c.loop-i.i c.loop-i.j c.loop-i-test.true c.if-j-rs.true v.recorded_turn c.in-Late.ensures in
    record {
      counted = omega (arith, same, v.counted);
      model_turn = turn_more c.args.ms.now c.loop-i.i c.loop-i-test.true v.model_turn;
      recorded_turn = v.recorded_turn;
      few = omega (arith, v.few);
      i_within = omega (arith, c.loop-i-test.true);
      j_within = v.j_within;
    }

pub returns-else-j-rs-clause-some : goal.returns-else-j-rs-clause-some
returns-else-j-rs-clause-some c =
    let none = count_recorded_end (fits c.args.within c.args.shift) c.args.ms.now c.args.rs.now c.loop-i.i c.loop-i.j c.if-j-rs.false in
    omega (arith, none, c.loop-i.invariant.counted)

pub returns-after-loop-i-clause-some : goal.returns-after-loop-i-clause-some
returns-after-loop-i-clause-some c =
    let none = count_model_end (fits c.args.within c.args.shift) c.args.ms.now c.args.rs.now c.loop-i.i c.loop-i.j c.loop-i-test.false in
    omega (arith, none, c.loop-i.invariant.counted)

pub returns-then-len-needed-clause-none : goal.returns-then-len-needed-clause-none
returns-then-len-needed-clause-none c =
    let few = few_match (fits c.args.within c.args.shift) c.args.ms.now c.args.rs.now in
    omega (arith, few, c.if-len-needed.true)

pub returns-then-i-count-clause-none : goal.returns-then-i-count-clause-none
returns-then-i-count-clause-none c =
    let v = c.loop-i.invariant in
    let same = count_late c.args.within c.args.shift c.args.ms.now c.args.rs.now c.loop-i.i c.loop-i.j c.loop-i-test.true c.if-j-rs.true v.recorded_turn c.in-Late.ensures in
    let rest = rest_match (fits c.args.within c.args.shift) c.args.ms.now c.args.rs.now (c.loop-i.i + 1) c.loop-i.j (omega (arith, c.loop-i-test.true)) in
    omega (arith, same, rest, v.counted, v.few, c.if-i-count.true, c.if-len-needed.false)
