use Rattle.std.proofs.Common.{◌≡◌, ◌<◌, ℕ, true, false, List, length, get_or, refl, sym, ap, subst, ◌∙◌, arith}
use Rattle.std.specs.Prelude.{All}
use Rattle.std.proofs.lemmas.List.Elements.{All-filter}
use Rattle.domain_run.specs.declared.task.Task.{Task}
use Rattle.domain_run.specs.Calls.{is_other}
use Rattle.domain_run.specs.Parts.{replenish_due, settled, unblocked, is_listed}
use Rattle.domain_run.specs.Happened.{logged_by_replenishment, logged_by_unblocking}
use Rattle.domain_run.specs.Log.{HasLogged}
use Rattle.domain_run.specs.Sound.{IsSound}
use Rattle.domain_run.specs.private.TaskTable.{timers_served}
use Rattle.domain_run.specs.private.Timers.{IsTimerStep}
use Rattle.domain_run.proofs.Due.{some_task, step_len, step_then}
use Rattle.domain_run.proofs.Logging.{logs_more}
use Rattle.domain_run.proofs.LoggedWoken.{logged_gone, logged_kept}
use Rattle.domain_run.proofs.Woken.{served_at, woken_stays, woken_goes}
use Rattle.std.proofs.lemmas.Grind.{common_steps}
use Rattle.domain_run.proofs.sweep.wake_at.Goals as goal

-- after a change of the task at a place, that place is still there
stays_there : (f : Task → Task) (tasks new : List Task) (p : ℕ) → p < length tasks → IsTimerStep f p tasks new → p < length new
stays_there f tasks new p h step = omega (arith, h, step_len f tasks new p h step)

pub apply-requires-clause-there : goal.apply-requires-clause-there
apply-requires-clause-there c = stays_there (replenish_due c.args.time) c.args.task_table.now.tasks c.apply_part.new.task_table.tasks c.args.place c.requires.there c.apply_part.ensures.step

-- after parts 1 and 2
both : (time : ℕ) (old one two : List Task) (p : ℕ) → p < length old → IsTimerStep (replenish_due time) p old one → IsTimerStep (settled time) p one two → IsTimerStep (timers_served time) p old two
both time old one two p h first second = step_then (replenish_due time) (settled time) old one two p h first second

pub left_at-requires : goal.left_at-requires
left_at-requires c =
    let old = c.args.task_table.now.tasks in
    let two = c.apply.new.self.tasks in
    stays_there (timers_served c.args.time) old two c.args.place c.requires.there (both c.args.time old c.apply_part.new.task_table.tasks two c.args.place c.requires.there c.apply_part.ensures.step c.apply.ensures.step)

pub apply_part-requires-2-clause-there : goal.apply_part-requires-2-clause-there
apply_part-requires-2-clause-there c =
    let old = c.args.task_table.now.tasks in
    let two = c.apply.new.self.tasks in
    stays_there (timers_served c.args.time) old two c.args.place c.requires.there (both c.args.time old c.apply_part.new.task_table.tasks two c.args.place c.requires.there c.apply_part.ensures.step c.apply.ensures.step)

pub returns-in-Some-clause-woken : goal.returns-in-Some-clause-woken
returns-in-Some-clause-woken c =
    let old = c.args.task_table.now.tasks in
    let two = c.apply.new.self.tasks in
    let step = both c.args.time old c.apply_part.new.task_table.tasks two c.args.place c.requires.there c.apply_part.ensures.step c.apply.ensures.step in
    woken_goes c.args.time old two c.take_off.new.self.tasks c.args.place c.in-Some.number c.requires.there (stays_there (timers_served c.args.time) old two c.args.place c.requires.there step) step
    c.left_at.ensures.numbered c.in-Some.ensures.number c.in-Some.ensures.left c.take_off.ensures.tasks

pub returns-in-Some-clause-sound : goal.returns-in-Some-clause-sound
returns-in-Some-clause-sound c = subst (All (IsSound c.args.time)) (sym c.take_off.ensures.tasks) (All-filter (is_other c.in-Some.number) (IsSound c.args.time) c.apply.new.self.tasks c.apply.ensures.sound)

pub returns-clause-woken : goal.returns-clause-woken
returns-clause-woken c =
    let old = c.args.task_table.now.tasks in
    let two = c.apply.new.self.tasks in
    let step = both c.args.time old c.apply_part.new.task_table.tasks two c.args.place c.requires.there c.apply_part.ensures.step c.apply.ensures.step in
    woken_stays c.args.time old c.apply_part-2.new.task_table.tasks c.args.place c.requires.there
    (step_then (timers_served c.args.time) (unblocked c.args.time) old two c.apply_part-2.new.task_table.tasks c.args.place c.requires.there step c.apply_part-2.ensures.step)
    (λ d. ap is_listed (sym (served_at c.args.time old two c.args.place d c.requires.there step)) ∙ c.in_default.ensures.stays d)

pub apply_part-requires-clause-there : goal.apply_part-requires-clause-there
apply_part-requires-clause-there c = grind (arith, common_steps)

pub apply_part-requires-clause-fits : goal.apply_part-requires-clause-fits
apply_part-requires-clause-fits c = grind (arith, common_steps)

pub apply_part-requires-clause-sound : goal.apply_part-requires-clause-sound
apply_part-requires-clause-sound c = grind (arith, common_steps)

pub apply_part-requires-clause-may : goal.apply_part-requires-clause-may
apply_part-requires-clause-may c = grind (arith, common_steps)

pub apply-requires-clause-fits : goal.apply-requires-clause-fits
apply-requires-clause-fits c = grind (arith, common_steps)

pub apply-requires-clause-sound : goal.apply-requires-clause-sound
apply-requires-clause-sound c = grind (arith, common_steps)

pub apply-requires-clause-may : goal.apply-requires-clause-may
apply-requires-clause-may c = grind (arith, common_steps)

pub returns-in-Some-clause-cpus : goal.returns-in-Some-clause-cpus
returns-in-Some-clause-cpus c = grind (arith, common_steps)

pub returns-in-Some-clause-places : goal.returns-in-Some-clause-places
returns-in-Some-clause-places c = grind (arith, common_steps)

pub apply_part-requires-2-clause-fits : goal.apply_part-requires-2-clause-fits
apply_part-requires-2-clause-fits c = grind (arith, common_steps)

pub apply_part-requires-2-clause-sound : goal.apply_part-requires-2-clause-sound
apply_part-requires-2-clause-sound c = grind (arith, common_steps)

pub apply_part-requires-2-clause-may : goal.apply_part-requires-2-clause-may
apply_part-requires-2-clause-may c = grind (arith, common_steps)

pub overflow_add-result : goal.overflow_add-result
overflow_add-result c = grind (arith, common_steps)

pub returns-clause-cpus : goal.returns-clause-cpus
returns-clause-cpus c = grind (arith, common_steps)

pub returns-clause-places : goal.returns-clause-places
returns-clause-places c = grind (arith, common_steps)

pub returns-clause-sound : goal.returns-clause-sound
returns-clause-sound c = grind (arith, common_steps)

pub apply_part-requires-clause-part : goal.apply_part-requires-clause-part
apply_part-requires-clause-part c t = refl

pub apply_part-requires-2-clause-part : goal.apply_part-requires-2-clause-part
apply_part-requires-2-clause-part c t = refl

pub apply_part-requires-2-clause-room : goal.apply_part-requires-2-clause-room
apply_part-requires-2-clause-room c wanted =
    let d = some_task c.args.task_table.now.tasks c.args.place c.requires.there in
    omega (arith, c.requires.room (sym (c.apply_part.ensures.logged d).wanted ∙ wanted), c.apply_part.ensures.room)

pub returns-in-Some-clause-logged : goal.returns-in-Some-clause-logged
returns-in-Some-clause-logged c d =
    let old = c.args.task_table.now.tasks in
    let two = c.apply.new.self.tasks in
    let p = c.args.place in
    let t = get_or old p d in
    let step = both c.args.time old c.apply_part.new.task_table.tasks two p c.requires.there c.apply_part.ensures.step c.apply.ensures.step in
    let gone : is_listed (timers_served c.args.time t) ≡ false = ap is_listed (sym (served_at c.args.time old two p d c.requires.there step)) ∙ c.in-Some.ensures.left d in
    subst (λ hs. HasLogged c.args.log.now hs c.apply_part.new.log) (sym (logged_gone c.args.time t gone)) (c.apply_part.ensures.logged d)

pub returns-clause-logged : goal.returns-clause-logged
returns-clause-logged c d =
    let old = c.args.task_table.now.tasks in
    let two = c.apply.new.self.tasks in
    let p = c.args.place in
    let time = c.args.time in
    let t = get_or old p d in
    let s = timers_served time t in
    let step = both time old c.apply_part.new.task_table.tasks two p c.requires.there c.apply_part.ensures.step c.apply.ensures.step in
    let at = served_at time old two p d c.requires.there step in
    let stays : is_listed s ≡ true = ap is_listed (sym at) ∙ c.in_default.ensures.stays d in
    let last : HasLogged c.apply_part.new.log (logged_by_unblocking time s) c.apply_part-2.new.log = subst (λ u. HasLogged c.apply_part.new.log (logged_by_unblocking time u) c.apply_part-2.new.log) at (c.apply_part-2.ensures.logged d) in
    subst (λ hs. HasLogged c.args.log.now hs c.apply_part-2.new.log) (sym (logged_kept time t stays))
    (logs_more (logged_by_replenishment time t) (logged_by_unblocking time s) c.args.log.now c.apply_part.new.log c.apply_part-2.new.log (c.apply_part.ensures.logged d) last)
