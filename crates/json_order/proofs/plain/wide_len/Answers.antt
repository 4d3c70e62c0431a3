use Rattle.std.proofs.Common.{arith}
use Rattle.json_order.proofs.PlainRuns.{run_through}
use Rattle.json_order.proofs.plain.wide_len.Goals as goal

pub wide-preserved : goal.wide-preserved
wide-preserved c =
    let run = run_through c.args.bytes.now c.wide.len 64 (omega arith) (omega (arith, c.ends_of_wide.ensures)) in
    record {
      within = omega arith;
      run = omega (arith, run, c.wide.invariant.run);
    }
