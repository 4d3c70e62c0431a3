use Rattle.std.proofs.lemmas.Result.{err_from_is_err_and}
use Rattle.calls_text.proofs.Readers.{whole_none}
use Rattle.calls_text.proofs.reading.whole_text.Goals as goal

pub returns-in_err-cpus-clause-fault : goal.returns-in_err-cpus-clause-fault
returns-in_err-cpus-clause-fault c =
    let p = err_from_is_err_and c.from_residual-in_err-cpus.result c.from_residual-in_err-cpus.ensures.1 in
    rw (p.1, p.2) (c.in_err-cpus.ensures.next c.args.text.now c.loop-sections.sections.items c.loop-sections.invariant).0

pub returns-clause-found : goal.returns-clause-found
returns-clause-found c =
    whole_none c.args.text.now c.loop-sections.sections.items c.next_domain.new.self c.in_ok-cpus.field-0 c.in_default.is (c.in_ok-cpus.ensures.next c.args.text.now c.loop-sections.sections.items c.loop-sections.invariant)
