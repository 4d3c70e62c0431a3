use Rattle.std.proofs.Common.{◌≡◌, length, arith, rules}
use Rattle.recorded_jobs.proofs.Collecting.{none_taken}
use Rattle.recorded_jobs.proofs.stretch.stretches_in.Goals as goal

pub loop-i-init : goal.loop-i-init
loop-i-init c =
    let many : length c.in_ok-next.next.items ≡ 65536 = search rules in
    record {
      found = none_taken c.args.last c.in_ok-next.next.items c.new-stretches.result.items c.args.moments.now (length c.args.moments.now) many c.in_ok-next.ensures.none c.new-stretches.ensures.items (omega arith);
      within = omega arith;
      cpus = c.in_ok-next.ensures.many;
    }
