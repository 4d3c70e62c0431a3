use Rattle.std.proofs.Common.{◌∙◌, length, ap}
use Rattle.std.specs.Prelude.{is_some}
use Rattle.std.proofs.lemmas.List.{get_or_default}
use Rattle.domain_run.specs.declared.task.Task.{Task}
use Rattle.due_times.specs.OpenCharges.{OpenChargesView}
use Rattle.domain_run.specs.private.Owed.{charge_of_task}
use Rattle.domain_run.proofs.Applying.{waits_at, sound_at, may_at, turns_at, step_applied, sound_applied, counted_applied, waits_applied, charges_applied, wide_applied}
use Rattle.domain_run.proofs.task_table.applying.apply_task.Goals as goal

pub apply_one-requires-clause-waits : goal.apply_one-requires-clause-waits
apply_one-requires-clause-waits c = waits_at (length c.args.queue.now.accounts.all) c.args.time c.args.transition.now c.args.queue.now c.args.charges.now c.args.tasks.now c.args.place c.at_mut.result.now c.requires.there c.at_mut.ensures.value c.requires.fits c.requires.counted c.requires.waits

pub apply_one-requires-clause-sound : goal.apply_one-requires-clause-sound
apply_one-requires-clause-sound c = sound_at (length c.args.queue.now.accounts.all) c.args.time c.args.transition.now c.args.queue.now c.args.charges.now c.args.tasks.now c.args.place c.at_mut.result.now c.requires.there c.at_mut.ensures.value c.requires.fits c.requires.counted c.requires.sound

pub apply_one-requires-clause-may : goal.apply_one-requires-clause-may
apply_one-requires-clause-may c = may_at (length c.args.queue.now.accounts.all) c.args.time c.args.transition.now c.args.queue.now c.args.charges.now c.args.tasks.now c.args.place c.at_mut.result.now c.requires.there c.at_mut.ensures.value c.requires.fits c.requires.counted c.requires.may

pub apply_one-requires-clause-turns : goal.apply_one-requires-clause-turns
apply_one-requires-clause-turns c = turns_at (length c.args.queue.now.accounts.all) c.args.time c.args.transition.now c.args.queue.now c.args.charges.now c.args.tasks.now c.args.place c.at_mut.result.now c.requires.there c.at_mut.ensures.value c.requires.fits c.requires.counted

pub returns-clause-step : goal.returns-clause-step
returns-clause-step c = step_applied (length c.args.queue.now.accounts.all) c.args.time c.args.transition.now c.args.queue.now c.args.charges.now c.args.tasks.now c.args.place c.at_mut.result.now c.requires.there c.at_mut.ensures.value c.requires.fits c.requires.counted c.apply_one.new.queue c.apply_one.new.charges c.apply_one.new.task c.apply_one.ensures.task c.apply_one.ensures.charges

pub returns-clause-sound : goal.returns-clause-sound
returns-clause-sound c = sound_applied (length c.args.queue.now.accounts.all) c.args.time c.args.transition.now c.args.queue.now c.args.charges.now c.args.tasks.now c.args.place c.at_mut.result.now c.requires.there c.at_mut.ensures.value c.requires.fits c.requires.counted c.apply_one.new.queue c.apply_one.new.charges c.apply_one.new.task c.apply_one.ensures.task c.apply_one.ensures.charges c.apply_one.ensures.sound c.requires.sound

pub returns-clause-counted : goal.returns-clause-counted
returns-clause-counted c = counted_applied (length c.args.queue.now.accounts.all) c.args.time c.args.transition.now c.args.queue.now c.args.charges.now c.args.tasks.now c.args.place c.at_mut.result.now c.requires.there c.at_mut.ensures.value c.requires.fits c.requires.counted c.apply_one.new.queue c.apply_one.new.charges c.apply_one.new.task c.apply_one.ensures.task c.apply_one.ensures.charges c.apply_one.ensures.turned

pub returns-clause-waits : goal.returns-clause-waits
returns-clause-waits c = waits_applied (length c.args.queue.now.accounts.all) c.args.time c.args.transition.now c.args.queue.now c.args.charges.now c.args.tasks.now c.args.place c.at_mut.result.now c.requires.there c.at_mut.ensures.value c.requires.fits c.requires.counted c.apply_one.new.queue c.apply_one.new.charges c.apply_one.new.task c.apply_one.ensures.task c.apply_one.ensures.charges c.requires.waits

pub returns-clause-charges : goal.returns-clause-charges
returns-clause-charges c = charges_applied (length c.args.queue.now.accounts.all) c.args.time c.args.transition.now c.args.queue.now c.args.charges.now c.args.tasks.now c.args.place c.at_mut.result.now c.requires.there c.at_mut.ensures.value c.requires.fits c.requires.counted c.apply_one.new.queue c.apply_one.new.charges c.apply_one.new.task c.apply_one.ensures.task c.apply_one.ensures.charges

pub returns-clause-wide : goal.returns-clause-wide
returns-clause-wide c = wide_applied (length c.args.queue.now.accounts.all) c.args.time c.args.transition.now c.args.queue.now c.args.charges.now c.args.tasks.now c.args.place c.at_mut.result.now c.requires.there c.at_mut.ensures.value c.requires.fits c.requires.counted c.apply_one.new.queue c.apply_one.new.charges c.apply_one.new.task c.apply_one.ensures.task c.apply_one.ensures.charges

pub returns-clause-clock : goal.returns-clause-clock
returns-clause-clock c = ap (λ (v : OpenChargesView). v.upto) c.apply_one.ensures.charges

pub returns-clause-was_started : goal.returns-clause-was_started
returns-clause-was_started c d = c.apply_one.ensures.was_started ∙ ap (λ (t : Task). is_some (charge_of_task c.args.charges.now.charges t)) (c.at_mut.ensures.value ∙ get_or_default c.args.tasks.now c.args.place c.at_mut.result.now d c.requires.there)
