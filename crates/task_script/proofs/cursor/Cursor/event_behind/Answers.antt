use Rattle.std.proofs.Common.{◌+◌, ap, ◌∙◌}
use Rattle.task_script.specs.script.ScriptView.{CursorView}
use Rattle.task_script.specs.script.Unrolled.{event_at}
use Rattle.task_script.proofs.Unrolling.{first_event}
use Rattle.task_script.proofs.cursor.Cursor.event_behind.Goals as goal

pub returns-clause-value : goal.returns-clause-value
returns-clause-value c =
    let i = c.self.inside in
    c.event_of.ensures.value
    ∙ ap (event_at i.script) c.advance.ensures.place
    ∙ first_event i.script c.self.invariant.script _
    ∙ ap (λ (v : CursorView). event_at v.script (v.place + 1)) c.self.view_is
