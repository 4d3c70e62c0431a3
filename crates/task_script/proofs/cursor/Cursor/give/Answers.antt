use Rattle.std.proofs.Common.{◌≡◌, None, sym, ap, subst, ◌∙◌}
use Rattle.task_script.specs.script.Unrolled.{event_at}
use Rattle.task_script.specs.script.Segments.{kept_cursor, given_by}
use Rattle.task_script.proofs.Rounds.{stands_as_kept}
use Rattle.task_script.proofs.cursor.Cursor.give.Goals as goal

pub returns-in-None-clause-cursor : goal.returns-in-None-clause-cursor
returns-in-None-clause-cursor c =
    let s = c.args.self.now in
    let i = c.self.inside in
    let kept = subst (λ v. kept_cursor v ≡ v) c.self.view_is (stands_as_kept i.script i.progress i.reference c.self.invariant.stands) in
    let none : event_at s.script s.place ≡ None = sym c.requires.here ∙ c.in-None.is in
    sym (ap (λ e. kept_cursor (given_by s c.args.time e).cursor) none ∙ kept)
