use Rattle.std.proofs.Common.{◌∙◌, length, ap}
use Rattle.std.specs.Prelude.{is_some}
use Rattle.std.proofs.lemmas.List.{get_or_default}
use Rattle.domain_run.specs.declared.task.Task.{Task}
use Rattle.domain_run.specs.private.Owed.{charge_of_task}
use Rattle.domain_run.proofs.GoingOn.{waits_at, time_at, may_at, turns_at, step_applied, counted_applied, waits_applied, charges_applied, wide_applied}
use Rattle.domain_run.proofs.task_table.repeating.go_on_task.Goals as goal

pub go_on_one-requires-clause-waits : goal.go_on_one-requires-clause-waits
go_on_one-requires-clause-waits c = waits_at (length c.args.queue.now.accounts.all) c.args.micros c.args.pace c.args.queue.now c.args.charges.now c.args.tasks.now c.args.place c.at_mut.result.now c.requires.there c.at_mut.ensures.value c.requires.counted c.requires.waits

pub go_on_one-requires-clause-time : goal.go_on_one-requires-clause-time
go_on_one-requires-clause-time c = time_at (length c.args.queue.now.accounts.all) c.args.micros c.args.pace c.args.queue.now c.args.charges.now c.args.tasks.now c.args.place c.at_mut.result.now c.requires.there c.at_mut.ensures.value c.requires.counted c.requires.time

pub go_on_one-requires-clause-may : goal.go_on_one-requires-clause-may
go_on_one-requires-clause-may c = may_at (length c.args.queue.now.accounts.all) c.args.micros c.args.pace c.args.queue.now c.args.charges.now c.args.tasks.now c.args.place c.at_mut.result.now c.requires.there c.at_mut.ensures.value c.requires.counted c.requires.may

pub go_on_one-requires-clause-turns : goal.go_on_one-requires-clause-turns
go_on_one-requires-clause-turns c = turns_at (length c.args.queue.now.accounts.all) c.args.micros c.args.pace c.args.queue.now c.args.charges.now c.args.tasks.now c.args.place c.at_mut.result.now c.requires.there c.at_mut.ensures.value c.requires.counted

pub returns-clause-step : goal.returns-clause-step
returns-clause-step c = step_applied (length c.args.queue.now.accounts.all) c.args.micros c.args.pace c.args.queue.now c.args.charges.now c.args.tasks.now c.args.place c.at_mut.result.now c.requires.there c.at_mut.ensures.value c.requires.counted c.go_on_one.new.queue c.go_on_one.new.charges c.go_on_one.new.task c.go_on_one.ensures.task c.go_on_one.ensures.charges

pub returns-clause-counted : goal.returns-clause-counted
returns-clause-counted c = counted_applied (length c.args.queue.now.accounts.all) c.args.micros c.args.pace c.args.queue.now c.args.charges.now c.args.tasks.now c.args.place c.at_mut.result.now c.requires.there c.at_mut.ensures.value c.requires.counted c.go_on_one.new.queue c.go_on_one.new.charges c.go_on_one.new.task c.go_on_one.ensures.task c.go_on_one.ensures.charges c.go_on_one.ensures.turned

pub returns-clause-waits : goal.returns-clause-waits
returns-clause-waits c = waits_applied (length c.args.queue.now.accounts.all) c.args.micros c.args.pace c.args.queue.now c.args.charges.now c.args.tasks.now c.args.place c.at_mut.result.now c.requires.there c.at_mut.ensures.value c.requires.counted c.go_on_one.new.queue c.go_on_one.new.charges c.go_on_one.new.task c.go_on_one.ensures.task c.go_on_one.ensures.charges c.requires.waits

pub returns-clause-charges : goal.returns-clause-charges
returns-clause-charges c = charges_applied (length c.args.queue.now.accounts.all) c.args.micros c.args.pace c.args.queue.now c.args.charges.now c.args.tasks.now c.args.place c.at_mut.result.now c.requires.there c.at_mut.ensures.value c.requires.counted c.go_on_one.new.queue c.go_on_one.new.charges c.go_on_one.new.task c.go_on_one.ensures.task c.go_on_one.ensures.charges

pub returns-clause-wide : goal.returns-clause-wide
returns-clause-wide c = wide_applied (length c.args.queue.now.accounts.all) c.args.micros c.args.pace c.args.queue.now c.args.charges.now c.args.tasks.now c.args.place c.at_mut.result.now c.requires.there c.at_mut.ensures.value c.requires.counted c.go_on_one.new.queue c.go_on_one.new.charges c.go_on_one.new.task c.go_on_one.ensures.task c.go_on_one.ensures.charges

pub returns-clause-was_started : goal.returns-clause-was_started
returns-clause-was_started c d = c.go_on_one.ensures.was_started ∙ ap (λ (t : Task). is_some (charge_of_task c.args.charges.now.charges t)) (c.at_mut.ensures.value ∙ get_or_default c.args.tasks.now c.args.place c.at_mut.result.now d c.requires.there)
