use Rattle.std.proofs.Common.{◌≡◌, cond, ◌∷◌, refl}
use Rattle.std.proofs.lemmas.List.Elements.{All-head}
use Rattle.calls_text.specs.Limits.{IsCall}
use Rattle.domain_run.specs.Calls.{after_call}
use Rattle.domain_run.specs.Happened.{logged_by_call}
use Rattle.domain_run.specs.Log.{HasLogged}
use Rattle.switch_text.specs.Names.{name_of_task}
use Rattle.calls_trace.specs.declared.streaming.Streaming.{Streaming}
use Rattle.calls_trace.specs.Replay.{names_after}
use Rattle.calls_trace.specs.DomainEvents.{params_after}
use Rattle.calls_trace.specs.private.Streaming.{IsStreamedBefore, led_by, led_to}
use Rattle.calls_trace.specs.private.Replaying.{AdmittedHaveNames, MapGives, GivesParams, given_in}
use Rattle.calls_trace.proofs.StreamedCalls.{call_before, call_leads, on_ok3, on_ok4}
use Rattle.calls_trace.proofs.streaming.Streaming.call.Goals as goal

pub returns-clause-before : goal.returns-clause-before
returns-clause-before c =
    let h = c.args.self.now in
    let e = h.run.state in
    let call = c.args.call in
    let k : Streaming = record { run = c.make.new.self; accounting = h.accounting; calls = h.calls } in
    on_ok3 c.make.result (c.make.new.self.state ≡ after_call e call) (HasLogged h.run.log (logged_by_call e call) c.make.new.self.log) (AdmittedHaveNames c.make.new.self.state c.make.new.self.names) (IsStreamedBefore k k.calls)
    (λ made logged named. call_before h k call c.now.ensures.domain c.requires.still c.requires.before refl refl made logged named)
    c.make.ensures.state c.make.ensures.logged c.make.ensures.named

pub returns-clause-leads : goal.returns-clause-leads
returns-clause-leads c =
    let h = c.args.self.now in
    let e = h.run.state in
    let call = c.args.call in
    let k : Streaming = record { run = c.make.new.self; accounting = h.accounting; calls = h.calls } in
    on_ok4 c.make.result (c.make.new.self.state ≡ after_call e call) (MapGives c.make.new.self.names (names_after e call (name_of_task h.run.names)))
    (GivesParams c.make.new.self.given (cond h.run.log.wanted (params_after e call (given_in h.run.given)) (given_in h.run.given))) (HasLogged h.run.log (logged_by_call e call) c.make.new.self.log) (led_to k ≡ led_by h (call ∷ h.calls))
    (λ made names given logged. call_leads h k call c.requires.before refl refl made names given logged)
    c.make.ensures.state c.make.ensures.names c.make.ensures.given c.make.ensures.logged

pub make-requires-clause-call : goal.make-requires-clause-call
make-requires-clause-call c = All-head IsCall c.args.call c.args.self.now.calls c.requires.before.are
