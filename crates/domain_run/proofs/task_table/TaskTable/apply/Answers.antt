use Rattle.std.proofs.Common.{◌≡◌, ℕ, ◌<◌, None, length, get_or, refl, sym, ap, subst, ◌∙◌, arith}
use Rattle.std.specs.Prelude.{is_some}
use Rattle.std.proofs.lemmas.List.{length-map, get_or-map, get_or_default}
use Rattle.std.proofs.lemmas.Grind.{common_steps}
use Rattle.domain_run.specs.declared.task.Task.{Task}
use Rattle.edf_pick.specs.Places.{Places}
use Rattle.domain_run.specs.private.StaleCharges.{AreSettled}
use Rattle.domain_run.specs.private.RunQueue.{IsCounted}
use Rattle.domain_run.specs.private.TaskTable.{TaskTableView, task_after, Fits}
use Rattle.due_times.specs.OpenCharges.{charge_by}
use Rattle.domain_run.specs.private.Owed.{charge_of_task, owed, owed_all}
use Rattle.domain_run.proofs.Stale.{apply_settled, left_uncharged, IsLeft}
use Rattle.domain_run.proofs.Making.{place_fit}
use Rattle.domain_run.proofs.Owed.{alike_owed}
use Rattle.domain_run.proofs.task_table.TaskTable.apply.Goals as goal

pub invariant_of-self : goal.invariant_of-self
invariant_of-self c =
    let s = c.self.inside in
    let e = c.apply_task-was_started.ensures in
    let tasks = owed_all s.charges s.tasks in
    let p = c.args.place in
    let w = length s.queue.accounts.all in
    let many : length tasks ≡ length s.tasks = simp length-map in
    let within : p < length s.tasks = let h = subst (λ (r : TaskTableView). p < length r.tasks) (sym c.self.view_is) c.requires.there in omega (arith, h, many) in
    let inside : p < length tasks = omega (arith, within, many) in
    let x = get_or tasks p c.at-2.result.now in
    let read : x ≡ get_or tasks p x = get_or_default tasks p c.at-2.result.now x inside in
    let raw = c.at-2.result.now in
    let seen = get_or-map (owed s.charges.upto s.charges.charges) s.tasks p raw raw within in
    let alike = alike_owed s.charges.upto s.charges.charges (get_or s.tasks p raw) in
    let home : x.cpu ≡ raw.cpu = ap (λ (t : Task). t.cpu) seen ∙ alike.cpu ∙ sym (ap (λ (t : Task). t.cpu) c.at-2.ensures) in
    let named : x.number ≡ raw.number = ap (λ (t : Task). t.number) seen ∙ alike.number ∙ sym (ap (λ (t : Task). t.number) c.at-2.ensures) in
    let fit = place_fit w s.queue tasks p c.args.time c.args.transition.now x inside (subst (λ (r : TaskTableView). Fits r.cpus c.args.transition.now) (sym c.self.view_is) c.requires.fits) c.self.invariant.counted in
    let stays : (task_after c.args.time c.args.transition.now x).cpu ≡ x.cpu = ap (λ (t : Task). (task_after c.args.time c.args.transition.now t).cpu) read ∙ fit.cpu ∙ ap (λ (t : Task). t.cpu) (sym read) in
    let keeps : (task_after c.args.time c.args.transition.now x).number ≡ x.number = ap (λ (t : Task). (task_after c.args.time c.args.transition.now t).number) read ∙ fit.number ∙ ap (λ (t : Task). t.number) (sym read) in
    let d = c.mark_left.new.self in
    let marks = c.mark_left.ensures in
    let was_started : c.apply_task-was_started.result ≡ is_some (charge_of_task s.charges.charges raw) = e.was_started raw ∙ ap (λ (t : Task). is_some (charge_of_task s.charges.charges t)) (sym c.at-2.ensures) in
    let left_it : IsLeft s.stale.rated d.cpus raw.cpu raw.number s.charges.charges = left_uncharged s.stale.rated d.cpus raw.cpu raw.number s.charges.charges (charge_by raw.number (get_or s.charges.charges raw.cpu None)) c.apply_task-was_started.result refl was_started marks.was_started marks.free in
    let queue = c.apply_task-was_started.new.queue in
    let charges = c.apply_task-was_started.new.charges in
    let items = c.apply_task-was_started.new.tasks in
    record {
      counted = subst (λ (n : ℕ). IsCounted n queue (owed_all charges items)) (sym e.counted.wide) e.counted;
      waits = e.waits;
      wide = e.wide ∙ c.self.invariant.wide ∙ sym e.counted.wide;
      settled = subst (λ (n : ℕ). AreSettled d n queue.schedule.places charges.charges (owed_all charges items)) (sym e.counted.wide)
          (subst (λ (ps : Places). AreSettled d w ps charges.charges (owed_all charges items)) (sym e.places)
          (apply_settled s.stale d w s.queue.schedule.places s.charges.charges charges.charges tasks (owed_all charges items) p raw.cpu raw.number (task_after c.args.time c.args.transition.now) x inside read home named stays keeps
          e.step e.charges left_it marks.bare marks.rated marks.sum marks.limit c.self.invariant.settled));
    }

pub returns-then-does_nothing-clause-cpus : goal.returns-then-does_nothing-clause-cpus
returns-then-does_nothing-clause-cpus c = grind (arith, common_steps)

pub returns-then-does_nothing-clause-step : goal.returns-then-does_nothing-clause-step
returns-then-does_nothing-clause-step c = grind (arith, common_steps)

pub returns-then-does_nothing-clause-sound : goal.returns-then-does_nothing-clause-sound
returns-then-does_nothing-clause-sound c = grind (arith, common_steps)

pub returns-then-does_nothing-clause-clock : goal.returns-then-does_nothing-clause-clock
returns-then-does_nothing-clause-clock c = grind (arith, common_steps)

pub returns-then-does_nothing-clause-places : goal.returns-then-does_nothing-clause-places
returns-then-does_nothing-clause-places c = grind (arith, common_steps)

pub returns-then-does_nothing-clause-left : goal.returns-then-does_nothing-clause-left
returns-then-does_nothing-clause-left c = grind (arith, common_steps)

pub apply_task-was_started-requires-clause-narrow : goal.apply_task-was_started-requires-clause-narrow
apply_task-was_started-requires-clause-narrow c = grind (arith, common_steps)

pub apply_task-was_started-requires-clause-there : goal.apply_task-was_started-requires-clause-there
apply_task-was_started-requires-clause-there c = grind (arith, common_steps)

pub apply_task-was_started-requires-clause-fits : goal.apply_task-was_started-requires-clause-fits
apply_task-was_started-requires-clause-fits c = grind (arith, common_steps)

pub apply_task-was_started-requires-clause-waits : goal.apply_task-was_started-requires-clause-waits
apply_task-was_started-requires-clause-waits c = grind (arith, common_steps)

pub apply_task-was_started-requires-clause-sound : goal.apply_task-was_started-requires-clause-sound
apply_task-was_started-requires-clause-sound c = grind (arith, common_steps)

pub apply_task-was_started-requires-clause-may : goal.apply_task-was_started-requires-clause-may
apply_task-was_started-requires-clause-may c = grind (arith, common_steps)

pub apply_task-was_started-requires-clause-counted : goal.apply_task-was_started-requires-clause-counted
apply_task-was_started-requires-clause-counted c = grind (arith, common_steps)

pub returns-clause-cpus : goal.returns-clause-cpus
returns-clause-cpus c = grind (arith, common_steps)

pub returns-clause-step : goal.returns-clause-step
returns-clause-step c = grind (arith, common_steps)

pub returns-clause-sound : goal.returns-clause-sound
returns-clause-sound c = grind (arith, common_steps)

pub returns-clause-clock : goal.returns-clause-clock
returns-clause-clock c = grind (arith, common_steps)

pub returns-clause-places : goal.returns-clause-places
returns-clause-places c = grind (arith, common_steps)

pub returns-clause-left : goal.returns-clause-left
returns-clause-left c = grind (arith, common_steps)

pub at-requires : goal.at-requires
at-requires c = grind (arith, common_steps)

pub at-requires-2 : goal.at-requires-2
at-requires-2 c = grind (arith, common_steps)

pub mark_left-requires : goal.mark_left-requires
mark_left-requires c = grind (arith, common_steps)
