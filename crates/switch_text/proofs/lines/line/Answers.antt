use Rattle.std.proofs.Common.{◌≡◌, ◌+◌, ◌++◌, ◌≤◌, sym, ◌∙◌, length, take, ap, arith}
use Rattle.std.proofs.lemmas.List.{length-take-le}
use Rattle.domain_run.specs.Switch.{Switch}
use Rattle.switch_text.specs.Line.{switch_line}
use Rattle.switch_text.specs.Names.{name_of_task}
use Rattle.switch_text.proofs.Calling.{task_text-is, leaving_text-is, coming_text-is}
use Rattle.switch_text.proofs.Joined.{joined_8}
use Rattle.switch_text.proofs.Kept.{line_of-by_parts}
use Rattle.switch_text.proofs.Room.{length-state_part}
use Rattle.switch_text.proofs.lines.line.Goals as goal

pub put_task-at-requires-clause-title : goal.put_task-at-requires-clause-title
put_task-at-requires-clause-title c = omega (arith, c.spell-prev.ensures.title_short)

pub put_state-at-requires : goal.put_state-at-requires
put_state-at-requires c = omega (arith, length-state_part c.state.result)

pub put_coming-requires-clause-room : goal.put_coming-requires-clause-room
put_coming-requires-clause-room c = omega (arith, length-state_part c.state.result)

pub returns-clause-short : goal.returns-clause-short
returns-clause-short c = omega (arith, length-state_part c.state.result)

pub returns-clause-text : goal.returns-clause-text
returns-clause-text c =
    let names = name_of_task c.args.names.now in
    let s : Switch = record { time = c.time-time.result; prev = c.prev-leaves.result; next = c.next-comes.result; cpu = c.cpu.result; state = c.state.result } in
    let same : s ≡ c.args.switch.now = λ i. record { time = c.time-time.ensures i; prev = c.prev-leaves.ensures i; next = c.next-comes.ensures i; cpu = c.cpu.ensures i; state = c.state.ensures i } in
    let cpu = c.args.base + c.from.result in
    let prev = c.spell-prev.ensures in
    let next = c.spell-next.ensures in
    let first = c.put_task-at.ensures.text ∙ task_text-is names s.prev _ _ prev.title prev.pid in
    let leaving = c.put_leaving-at.ensures.text ∙ ap (λ ys. take c.put_event-at.result c.put_event-at.new.out ++ ys) (leaving_text-is names cpu s.prev _ _ prev.comm prev.pid) in
    let coming = c.put_coming.ensures.text ∙ ap (λ ys. take c.put_state-at.result c.put_state-at.new.out ++ ys) (coming_text-is names cpu s.next _ _ next.comm next.pid) in
    joined_8 _ _ _ _ _ _ _ _ _ _ _ _ _ _ _ _ _ first c.put_cpu-at.ensures.text c.put_second-at.ensures.text c.put_micros-at.ensures.text c.put_event-at.ensures.text leaving c.put_state-at.ensures.text coming
    (line_of-by_parts names c.args.base s cpu (ap (λ n. c.args.base + n) c.from.ensures))
    ∙ ap (λ (x : Switch). switch_line names c.args.base x) same

pub returns-clause-len : goal.returns-clause-len
returns-clause-len c =
    let room : c.put_coming.result ≤ length c.put_coming.new.out = omega (arith, length-state_part c.state.result) in
    sym (length-take-le c.put_coming.result c.put_coming.new.out room) ∙ ap length (returns-clause-text c)
