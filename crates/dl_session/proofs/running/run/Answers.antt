use Rattle.std.proofs.Common.{refl, ◌∙◌}
use Rattle.std.proofs.lemmas.Result.{IfOk-weaker, IfErr-weaker}
use Rattle.counted_io.specs.Sides.{side}
use Rattle.calls_trace.specs.Answer.{streams}
use Rattle.dl_session.specs.RunAnswer.{IsRunAnswer, IsRunFault}
use Rattle.dl_session.specs.private.Asked.{IsRunWritten, IsRunUnwritten}
use Rattle.dl_session.proofs.Ran.{keeps_itself, run_answered, run_unanswered}
use Rattle.dl_session.proofs.running.run.Goals as goal

pub returns-in-Err-clause-err : goal.returns-in-Err-clause-err
returns-in-Err-clause-err g c =
    let w = side g.W.Write.contents c.args.writer.now c.args.writer.now in
    c.in-Err.ensures.err w c.args.options.now (keeps_itself w.before.bytes) refl

pub returns-clause-ok : goal.returns-clause-ok
returns-clause-ok g c =
    let w = side g.W.Write.contents c.args.writer.now c.run_in.new.writer in
    let s = streams (side g.R.Read.remaining c.args.reader.now c.read_scenario.new.reader) w in
    let given = c.duration_us.inside in
    let o = c.args.options.now in
    IfOk-weaker c.run_in.result (IsRunWritten c.in-Ok-open.parts c.deref.result.now c.advance_for.result o.print w) (IsRunAnswer s o)
    (λ r written. run_answered s o c.in-Ok.scenario given.duration_us c.advance_for.result given.tasks.items c.deref.result.now c.in-Ok-open.parts r
    c.budgets_isolate.ensures.kept c.requires.options (c.in-Ok.ensures.ok w) c.duration_us.view_is c.advance_for.ensures.advance (c.deref.ensures.value ∙ c.flag_all.ensures) c.in-Ok-open.ensures c.in-Ok.ensures.reads written)
    c.run_in.ensures.ok

pub returns-clause-err : goal.returns-clause-err
returns-clause-err g c =
    let w = side g.W.Write.contents c.args.writer.now c.run_in.new.writer in
    let s = streams (side g.R.Read.remaining c.args.reader.now c.read_scenario.new.reader) w in
    let given = c.duration_us.inside in
    let o = c.args.options.now in
    IfErr-weaker c.run_in.result (IsRunUnwritten c.in-Ok-open.parts c.deref.result.now c.advance_for.result o.print w) (IsRunFault s o)
    (λ e met. run_unanswered s o c.in-Ok.scenario given.duration_us c.advance_for.result given.tasks.items c.deref.result.now c.in-Ok-open.parts e
    c.budgets_isolate.ensures.kept c.requires.options (c.in-Ok.ensures.ok w) c.duration_us.view_is c.advance_for.ensures.advance (c.deref.ensures.value ∙ c.flag_all.ensures) c.in-Ok-open.ensures c.in-Ok.ensures.reads met)
    c.run_in.ensures.err
