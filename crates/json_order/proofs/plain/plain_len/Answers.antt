use Rattle.std.proofs.Common.{◌+◌, sym, ap, ◌∙◌, arith}
use Rattle.std.proofs.lemmas.List.Sums.{prefix_len-le-length}
use lib.Count.{count_trailing_zeros}
use Rattle.json_order.specs.Grammar.{is_plain}
use Rattle.json_order.proofs.PlainRuns.{run_through, run_stops, run_within, run_ends, run_wide, run_left}
use Rattle.json_order.proofs.plain.plain_len.Goals as goal

pub returns-then-ends-ne0-clause-value : goal.returns-then-ends-ne0-clause-value
returns-then-ends-ne0-clause-value c =
    let some = c.ends_of-ends.ensures in
    let run = run_stops c.args.bytes.now c.vectors.len 16 (omega arith) (omega arith) (omega (arith, some)) ∙ ap (count_trailing_zeros 64) (sym some) in
    omega (arith, run, c.vectors.invariant.run)

pub returns-then-ends-ne0-clause-within : goal.returns-then-ends-ne0-clause-within
returns-then-ends-ne0-clause-within c =
    let some = c.ends_of-ends.ensures in
    let run = run_stops c.args.bytes.now c.vectors.len 16 (omega arith) (omega arith) (omega (arith, some)) ∙ ap (count_trailing_zeros 64) (sym some) in
    omega (arith, run, run_within c.args.bytes.now c.vectors.len c.vectors.invariant.within)

pub returns-then-ends-ne0-clause-ends : goal.returns-then-ends-ne0-clause-ends
returns-then-ends-ne0-clause-ends c =
    let some = c.ends_of-ends.ensures in
    let run = run_stops c.args.bytes.now c.vectors.len 16 (omega arith) (omega arith) (omega (arith, some)) ∙ ap (count_trailing_zeros 64) (sym some) in
    run_ends c.args.bytes.now _ (omega (arith, run, c.vectors.invariant.run))

pub vectors-preserved : goal.vectors-preserved
vectors-preserved c =
    let run = run_through c.args.bytes.now c.vectors.len 16 (omega arith) (omega (arith, c.ends_of-ends.ensures)) in
    record {
      within = omega arith;
      run = omega (arith, run, c.vectors.invariant.run);
    }

pub vectors-preserved-then-len-eq-NEAR : goal.vectors-preserved-then-len-eq-NEAR
vectors-preserved-then-len-eq-NEAR c =
    let run = run_through c.args.bytes.now c.vectors.len 16 (omega arith) (omega (arith, c.ends_of-ends.ensures)) in
    let wide = run_wide c.args.bytes.now (c.vectors.len + 16) c.wide_len-len.result (omega arith) c.wide_len-len.ensures.within c.wide_len-len.ensures.run in
    record {
      within = wide.0;
      run = omega (arith, run, wide.1, c.vectors.invariant.run);
    }

pub overflow_add-result-2 : goal.overflow_add-result-2
overflow_add-result-2 c = omega (arith, run_left c.args.bytes.now c.vectors.len c.plain_by_one.result c.vectors.invariant.run c.plain_by_one.ensures, prefix_len-le-length is_plain c.args.bytes.now)

pub returns-clause-within : goal.returns-clause-within
returns-clause-within c = omega (arith, run_left c.args.bytes.now c.vectors.len c.plain_by_one.result c.vectors.invariant.run c.plain_by_one.ensures, prefix_len-le-length is_plain c.args.bytes.now)

pub returns-clause-ends : goal.returns-clause-ends
returns-clause-ends c = run_ends c.args.bytes.now _ (run_left c.args.bytes.now c.vectors.len c.plain_by_one.result c.vectors.invariant.run c.plain_by_one.ensures)
