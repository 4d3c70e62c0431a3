use Rattle.std.proofs.Common.{◌≡◌, ◌+◌, ◌++◌, get_or, ap, sym, subst, ◌∙◌}
use Rattle.domain_run.specs.Switch.{Switch}
use Rattle.switch_text.specs.Line.{switch_line}
use Rattle.switch_text.specs.Names.{name_of_task, SameNames}
use Rattle.switch_text.specs.private.Pieces.{short_text_of}
use Rattle.switch_text.proofs.Kept.{line_made}
use Rattle.switch_text.proofs.writing.append_line.Goals as goal

-- what is required has no names here: the fourth of them is `named`

pub returns-clause-text : goal.returns-clause-text
returns-clause-text g c =
    let next = c.args.next.now in
    let run = next.run.now in
    let logged : Switch = record { time = c.time-time.result; prev = c.prev.result; next = c.next.result; cpu = c.cpu.result; state = c.state.result } in
    let same : logged ≡ next.switch.now = λ i. record { time = c.time-time.ensures i; prev = c.prev.ensures i; next = c.next.ensures i; cpu = c.cpu.ensures i; state = c.state.ensures i } in
    let cpu = run.base + c.from.result in
    let prev = get_or c.seat-place.new.slots c.seat-place.result c.index-slots-place.result in
    let coming = get_or c.seat-place-2.new.slots c.seat-place-2.result c.index-slots-place-2.result in
    let leaves = c.seat-place.ensures.texts c.index-slots-place.result in
    let comes = c.seat-place-2.ensures.texts c.index-slots-place-2.result in
    let lane = c.lane_at-lane.result.now in
    line_made run (g.names next.index) logged cpu prev coming (short_text_of lane.text) (short_text_of c.middle-state.result.now) c.args.batch.now c.append_leaving.new.batch c.append_end.new.self
    (subst (λ (s : Switch). SameNames (name_of_task run.names.now) (g.names next.index) s) (sym same) c.requires.1.1.1.0) (ap (λ n. run.base + n) c.from.ensures) leaves comes (ap (λ l. short_text_of l.text) c.lane_at-lane.ensures ∙ c.keep_lane-kept.ensures.text lane) c.middle-state.ensures c.append_leaving.ensures.text c.append_end.ensures.text
    ∙ ap (λ (s : Switch). c.args.batch.now ++ switch_line (name_of_task run.names.now) run.base s) same
