use Rattle.std.proofs.Common.{◌∙◌, ◌+◌, sym}
use Rattle.switch_text.specs.Runs.{switches_view_of}
use Rattle.switch_text.proofs.Merged.{head_from}
use Rattle.switch_text.proofs.merge.head_at.Goals as goal

pub returns-then-is_left : goal.returns-then-is_left
returns-then-is_left c =
    let run = c.args.run.now in
    (λ i. record { time = c.time.ensures i; cpu = run.base + (c.from.ensures ∙ c.cpu.ensures) i })
    ∙ sym (head_from (switches_view_of run) c.args.place c.index-run-place.result (c.is_left.ensures.inside.0 c.if-is_left.true))
