use Rattle.std.proofs.Common.{◌≡◌, length, arith, rules}
use Rattle.trace_compare.proofs.Gathering.{none_behind}
use Rattle.trace_compare.proofs.collecting.collect.Goals as goal

pub loop-i-init : goal.loop-i-init
loop-i-init c =
    let many : length c.in_ok-next.next.items ≡ 65536 = search rules in
    record {
      behind = none_behind c.in_ok-next.next.items c.in_ok-runs.runs.items c.args.steps.now (length c.args.steps.now) many c.in_ok-next.ensures.none c.in_ok-runs.ensures.none (omega arith);
      within = omega arith;
      cpus = c.in_ok-next.ensures.many;
      many = c.in_ok-runs.ensures.many;
    }
