use Rattle.std.proofs.Common.{◌≡◌, ◌<◌, ◌∙◌, length, rules, sym}
use Rattle.recorded_jobs.proofs.Collecting.{switch_taken, wake_taken}
use Rattle.recorded_jobs.proofs.stretch.take_moment.Goals as goal

pub returns-then-is_switch-clause-taken : goal.returns-then-is_switch-clause-taken
returns-then-is_switch-clause-taken c = λ rest h.
    let many : length c.args.next.now.items ≡ 65536 = search rules in
    let small : c.args.moment.now.cpu < 65536 = search rules in
    switch_taken c.args.last c.args.next.now.items c.args.stretches.now.items c.push_stretch.new.stretches.items c.args.moment.now rest c.from-cpu.result c.index.result.now many small c.from-cpu.ensures c.index.ensures (sym c.is_switch.ensures ∙ c.if-is_switch.true) c.in_ok-push_stretch.ensures h

pub returns-else-is_switch-clause-taken : goal.returns-else-is_switch-clause-taken
returns-else-is_switch-clause-taken c = λ rest h.
    let many : length c.args.next.now.items ≡ 65536 = search rules in
    let small : c.args.moment.now.cpu < 65536 = search rules in
    wake_taken c.args.last c.args.next.now.items c.args.stretches.now.items c.push_stretch.new.stretches.items c.args.moment.now rest c.from-cpu.result c.index.result.now many small c.from-cpu.ensures c.index.ensures (sym c.is_switch.ensures ∙ c.if-is_switch.false) c.in_ok-push_stretch.ensures h
