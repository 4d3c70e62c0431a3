use Rattle.std.proofs.Common.{◌≡◌, List, get_or, ap, sym, subst, ◌∙◌, inl, inr}
use Rattle.std.proofs.lemmas.List.{get_or-set_same}
use Rattle.domain_run.specs.declared.task.Task.{Task}
use Rattle.domain_run.specs.Sound.{IsSound}
use Rattle.domain_run.specs.private.TaskTable.{TaskTableView, task_after, MayMake}
use Rattle.domain_run.specs.private.TransitionLog.{logged_by_transition, look_of, entries_after, all_of_logged}
use Rattle.domain_run.specs.Log.{HasLogged}
use Rattle.domain_run.specs.private.Owed.{charge_of_task, charges_without}
use Rattle.domain_run.proofs.Bare.{left_free}
use Rattle.domain_run.proofs.LoggedChanges.{change_seen}
use Rattle.domain_run.proofs.sweep.log_applied.Goals as goal

pub look-before-requires-clause-sound : goal.look-before-requires-clause-sound
look-before-requires-clause-sound c =
    let x = c.at.result.now in
    subst (IsSound c.args.time) (sym (c.at.ensures.task x)) (c.requires.sound c.args.place x c.requires.there)

pub look-before-requires-clause-may : goal.look-before-requires-clause-may
look-before-requires-clause-may c =
    let x = c.at.result.now in
    subst (MayMake c.args.time c.args.transition.now) (sym (c.at.ensures.task x)) (c.requires.may x)

pub at-requires-2-clause-free : goal.at-requires-2-clause-free
at-requires-2-clause-free c d =
    let t = get_or c.apply.new.self.tasks c.args.place d in
    elim c.apply.ensures.left [
      | inl same ↦ ap (λ (r : TaskTableView). charge_of_task r.charges (get_or r.tasks c.args.place d)) same ∙ c.requires.free d
      | inr left ↦ ap (λ charges. charge_of_task charges t) (left d) ∙ left_free t (charges_without (get_or c.args.task_table.now.tasks c.args.place d) c.args.task_table.now.charges)
    ]

pub returns-clause-logged : goal.returns-clause-logged
returns-clause-logged c d =
    let old = c.args.task_table.now.tasks in
    let time = c.args.time in
    let transition = c.args.transition.now in
    let f = task_after time transition in
    let t = get_or old c.args.place d in
    let before : c.at.result.now ≡ t = c.at.ensures.task d in
    let following : c.at-2.result.now ≡ f t = c.at-2.ensures.task d ∙ ap (λ (ts : List Task). get_or ts c.args.place d) (c.apply.ensures.step.is d) ∙ get_or-set_same old c.args.place (f t) d c.requires.there in
    let looked = c.look-before.ensures ∙ ap (look_of time transition) before in
    let logged : all_of_logged c.seen_later-logged.result ≡ logged_by_transition time transition t =
    ap all_of_logged (c.seen_later-logged.ensures ∙ (λ i. entries_after time transition (looked i) (following i))) ∙ change_seen time transition t in
    subst (λ hs. HasLogged c.args.log.now hs c.push_all.new.self) logged c.push_all.ensures.logged
