use Rattle.std.proofs.Common.{ap, subst, sym, ◌∙◌}
use Rattle.std.specs.Prelude.{IsSome}
use Rattle.task_script.specs.script.Unrolled.{event_at}
use Rattle.task_script.specs.script.ScriptView.{CursorView}
use Rattle.task_script.specs.script.Segments.{kept_cursor, given_at, work_in}
use Rattle.task_script.specs.declared.script.Segment.{Segment}
use Rattle.task_script.proofs.Unrolling.{answered_passed, given_work}
use Rattle.task_script.proofs.cursor.Cursor.pass_work.Goals as goal

pub step-requires : goal.step-requires
step-requires c =
    let k = c.look.new.self in
    let time = c.args.time in
    let same = ap (λ (v : CursorView). (given_at v time).segment) c.look.ensures.cursor ∙ (answered_passed c.args.self.now time c.look.ensures.within).segment in
    let passed = given_work k time (event_at k.script k.place) (subst (λ (s : Segment). IsSome (work_in s)) (sym same) c.requires.work) in
    record { more = passed.more }

pub returns-clause-cursor : goal.returns-clause-cursor
returns-clause-cursor c =
    let k = c.look.new.self in
    let time = c.args.time in
    let same = ap (λ (v : CursorView). (given_at v time).segment) c.look.ensures.cursor ∙ (answered_passed c.args.self.now time c.look.ensures.within).segment in
    let passed = given_work k time (event_at k.script k.place) (subst (λ (s : Segment). IsSome (work_in s)) (sym same) c.requires.work) in
    c.step.ensures
    ∙ ap kept_cursor (sym passed.cursor)
    ∙ ap (λ (v : CursorView). kept_cursor (given_at v time).cursor) c.look.ensures.cursor
    ∙ (answered_passed c.args.self.now time c.look.ensures.within).cursor
