use Rattle.std.proofs.Common.{◌≡◌, ap, ◌∙◌}
use Rattle.std.proofs.lemmas.Result.{IfOk-weaker}
use Rattle.calls_trace.specs.private.Streaming.{jobs_led, led_to, summary_led}
use Rattle.calls_trace.specs.private.Summed.{jobs_as, summed_as}
use Rattle.calls_trace.proofs.streaming.sum_up.Goals as goal

pub returns-clause-figures : goal.returns-clause-figures
returns-clause-figures c =
    let streamed = c.stream_rest.new.self in
    let leads = c.stream_rest.ensures.leads ∙ c.in_default.ensures.leads ∙ c.in_ok-streaming.ensures.leads in
    IfOk-weaker c.summed.result (λ r. summed_as r ≡ summary_led (led_to streamed)) _ (λ r is. is ∙ ap summary_led leads) c.summed.ensures.figures

pub returns-clause-jobs : goal.returns-clause-jobs
returns-clause-jobs c = λ wanted.
    let streamed = c.stream_rest.new.self in
    let leads = c.stream_rest.ensures.leads ∙ c.in_default.ensures.leads ∙ c.in_ok-streaming.ensures.leads in
    IfOk-weaker c.summed.result (λ r. jobs_as r ≡ jobs_led (led_to streamed)) _ (λ r is. is ∙ ap jobs_led leads) (c.summed.ensures.jobs wanted)
