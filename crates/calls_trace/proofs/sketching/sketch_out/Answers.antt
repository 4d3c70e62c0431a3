use Rattle.std.proofs.Common.{◌≡◌, ◌<◌, sym, ap, subst, ◌∙◌}
use Rattle.std.specs.Prelude.{All}
use Rattle.std.proofs.lemmas.Result.{IfOk-weaker}
use Rattle.calls_trace.specs.private.Streaming.{led_to}
use Rattle.calls_trace.specs.private.Sketched.{AskedView, streamed_as, sketch_as, sketch_led}
use Rattle.calls_trace.proofs.sketching.sketch_out.Goals as goal

pub sketched-requires-clause-window : goal.sketched-requires-clause-window
sketched-requires-clause-window c =
    let asked = c.stream_rest.ensures.asked ∙ c.in_default.ensures.asked ∙ c.in_ok-sketching.ensures.asked in
    ap (λ (a : AskedView). a.window) asked

pub sketched-requires-clause-numbers : goal.sketched-requires-clause-numbers
sketched-requires-clause-numbers c =
    let asked = c.stream_rest.ensures.asked ∙ c.in_default.ensures.asked ∙ c.in_ok-sketching.ensures.asked in
    ap (λ (a : AskedView). a.tasks) asked ∙ sym (ap (λ (a : AskedView). a.numbers) asked)

pub sketched-requires-clause-small : goal.sketched-requires-clause-small
sketched-requires-clause-small c =
    let asked = c.stream_rest.ensures.asked ∙ c.in_default.ensures.asked ∙ c.in_ok-sketching.ensures.asked in
    subst (All (λ n. n < 65536)) (sym (ap (λ (a : AskedView). a.numbers) asked)) c.requires.foreseen.small

pub returns-clause-drawn : goal.returns-clause-drawn
returns-clause-drawn c =
    let streamed = c.stream_rest.new.self in
    let w = c.args.window in
    let leads = c.stream_rest.ensures.leads ∙ c.in_default.ensures.leads ∙ c.in_ok-sketching.ensures.leads in
    IfOk-weaker c.sketched.result (λ s. sketch_as s ≡ sketch_led w (led_to (streamed_as streamed))) _ (λ s is. is ∙ ap (sketch_led w) leads) c.sketched.ensures.drawn
