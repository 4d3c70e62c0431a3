use Rattle.std.proofs.Common.{◌∙◌, sym, ap}
use Rattle.tasks_text.specs.Tasks.{has_name}
use Rattle.tasks_text.proofs.Stops.{unfinished_lacks, stuck_by, repeated_lacks}
use Rattle.tasks_text.proofs.reading.take_line.Goals as goal

pub returns-in_default-clause-fault : goal.returns-in_default-clause-fault
returns-in_default-clause-fault c = unfinished_lacks c.args.tasks.now.items c.args.text.now c.in_default.ensures

pub returns-in-Err-clause-fault : goal.returns-in-Err-clause-fault
returns-in-Err-clause-fault c = stuck_by c.in-Err.fault c.args.tasks.now.items c.args.text.now c.in-Some.line.now c.in-Some.rest.now c.in-Some.ensures.0 c.in-Some.ensures.1 c.in-Err.ensures.fault

pub returns-then-has_name-clause-fault : goal.returns-then-has_name-clause-fault
returns-then-has_name-clause-fault c =
    repeated_lacks c.args.tasks.now.items c.in-Ok.task c.args.text.now c.in-Some.line.now c.in-Some.rest.now c.in-Some.ensures.0 c.in-Some.ensures.1 c.in-Ok.ensures.found.0 c.in-Ok.ensures.found.1 (ap (has_name c.in-Ok.task.name) (sym c.deref.ensures.value) ∙ sym c.has_name.ensures ∙ c.if-has_name.true)
