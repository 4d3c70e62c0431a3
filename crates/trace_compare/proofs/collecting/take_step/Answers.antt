use Rattle.std.proofs.Common.{◌≡◌, ◌<◌, length, rules}
use Rattle.trace_compare.proofs.Gathering.{behind_step}
use Rattle.trace_compare.proofs.collecting.take_step.Goals as goal

pub returns-clause-behind : goal.returns-clause-behind
returns-clause-behind c = λ rest h.
    let many : length c.args.next.now.items ≡ 65536 = search rules in
    let small : c.args.step.now.cpu < 65536 = search rules in
    behind_step c.args.next.now.items c.args.runs.now.items c.take_run_at.new.runs.items c.args.step.now rest c.from-cpu.result c.index.result.now many small c.from-cpu.ensures c.index.ensures c.in_ok-take_run_at.ensures h
