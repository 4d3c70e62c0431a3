use Rattle.std.proofs.Common.{◌≡◌, ◌<◌, false, List, length, get_or, ap, sym, subst, ◌∙◌, arith}
use Rattle.std.proofs.lemmas.List.{get_or-set_same}
use Rattle.domain_run.specs.declared.task.Task.{Task}
use Rattle.domain_run.specs.declared.transition_log.Before.{Before}
use Rattle.domain_run.specs.Log.{HasLogged}
use Rattle.domain_run.specs.private.TaskTable.{task_after}
use Rattle.domain_run.specs.private.TransitionLog.{logged_by_transition, entries_after, all_of_logged, is_late_in}
use Rattle.domain_run.proofs.Due.{some_task, step_len}
use Rattle.domain_run.proofs.LoggedChanges.{change_seen, after_seen}
use Rattle.domain_run.proofs.sweep.log_part.Goals as goal

pub seen_at-requires : goal.seen_at-requires
seen_at-requires c =
    omega (arith, c.requires.there, step_len (task_after c.args.time c.args.transition.now) c.args.task_table.now.tasks c.apply.new.self.tasks c.args.place c.requires.there c.apply.ensures.step)

pub returns-clause-logged : goal.returns-clause-logged
returns-clause-logged c d =
    let old = c.args.task_table.now.tasks in
    let time = c.args.time in
    let transition = c.args.transition.now in
    let p = c.args.place in
    let f = task_after time transition in
    let t = get_or old p d in
    let y = c.seen_at.result.now in
    let before : Before = record { condition = c.condition_at.result; is_late = false } in
    let following : get_or c.apply.new.self.tasks p d ≡ f t = ap (λ (ts : List Task). get_or ts p d) (c.apply.ensures.step.is d) ∙ get_or-set_same old p (f t) d c.requires.there in
    let looked : before ≡ record { condition = t.condition; is_late = is_late_in time transition t } = λ i. record { condition = c.condition_at.ensures d i; is_late = sym (c.requires.part t) i } in
    let logged : all_of_logged c.seen_later-logged.result ≡ logged_by_transition time transition t =
    ap all_of_logged (c.seen_later-logged.ensures ∙ after_seen time transition before y (get_or c.apply.new.self.tasks p d) (c.seen_at.ensures.seen d) ∙ (λ i. entries_after time transition (looked i) (following i))) ∙ change_seen time transition t in
    subst (λ hs. HasLogged c.args.log.now hs c.push_all.new.self) logged c.push_all.ensures.logged
