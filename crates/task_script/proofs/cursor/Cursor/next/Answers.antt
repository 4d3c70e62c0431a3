use Rattle.std.proofs.Common.{ap, ◌∙◌}
use Rattle.task_script.specs.script.Segments.{kept_cursor, given_at}
use Rattle.task_script.proofs.Unrolling.{answered_passed}
use Rattle.task_script.proofs.cursor.Cursor.next.Goals as goal

pub returns-clause-segment : goal.returns-clause-segment
returns-clause-segment c =
    let time = c.args.time in
    c.give.ensures.segment ∙ ap (λ k. (given_at k time).segment) c.look-event.ensures.cursor ∙ (answered_passed c.args.self.now time c.look-event.ensures.within).segment

pub returns-clause-cursor : goal.returns-clause-cursor
returns-clause-cursor c =
    let time = c.args.time in
    c.give.ensures.cursor ∙ ap (λ k. kept_cursor (given_at k time).cursor) c.look-event.ensures.cursor ∙ (answered_passed c.args.self.now time c.look-event.ensures.within).cursor
