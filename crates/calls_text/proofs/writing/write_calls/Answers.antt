use Rattle.std.proofs.lemmas.Result.{IfOk-weaker}
use Rattle.calls_text.specs.Spelling.{has_later}
use Rattle.calls_text.proofs.Written.{section_more, spelled, read_as}
use Rattle.calls_text.proofs.writing.write_calls.Goals as goal

pub loop-section-preserved : goal.loop-section-preserved
loop-section-preserved c whole =
    let sections = c.args.sections.now in
    let put = c.put_section.ensures whole in
    section_more (has_later sections) sections c.loop-section.section-index c.section-item.result c.loop-section.out.text c.put_section.new.out.text c.loop-section-test.true c.section-item.is (c.loop-section.invariant put.0) put.1

pub returns-clause-found : goal.returns-clause-found
returns-clause-found c = spelled (λ v. v.items) c.into_text.result c.loop-section.out c.args.sections.now c.loop-section.section-index c.loop-section-test.false c.loop-section.invariant c.into_text.ensures.text c.into_text.ensures.ok

pub returns-clause-back : goal.returns-clause-back
returns-clause-back c = IfOk-weaker c.into_text.result _ _ (λ v e. read_as v.items c.args.sections.now e) (returns-clause-found c)
