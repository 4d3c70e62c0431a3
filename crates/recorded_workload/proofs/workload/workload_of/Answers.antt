use Rattle.std.proofs.Common.{◌≡◌, ◌∙◌, sym, ap, subst, inr, List, ◌∷◌, [], None}
use Rattle.calls_text.specs.SectionView.{SectionView}
use Rattle.calls_text.specs.Limits.{AreRead}
use Rattle.recorded_workload.specs.Workload.{admits_from, numbered_from}
use Rattle.recorded_workload.specs.Refusals.{refused_by, workload_refused}
use Rattle.recorded_workload.proofs.Walks.{Jobs, lists}
use Rattle.recorded_workload.proofs.Found.{facts, refused_is, section_is, fault_names}
use Rattle.recorded_workload.proofs.Legality.{workload_read}
use Rattle.recorded_workload.proofs.workload.workload_of.Goals as goal

pub returns-in-Some-clause-fault : goal.returns-in-Some-clause-fault
returns-in-Some-clause-fault c = inr (sym (refused_is c.args.moments.now c.args.tasks.now c.args.shape.now (lists c.in_ok-found.found.jobs.items) c.cpus_by-cpus.result c.unwrap_or-start.result c.ticks_from-ticks.result (facts c.args.moments.now c.args.tasks.now c.args.shape.now c.in_ok-found.found c.cpus_by-cpus.result c.unwrap_or-start.result c.ticks_from-ticks.result c.deref.result.now c.deref-2.result.now c.earliest.result c.in_ok-found.ensures c.deref.ensures.value c.cpus_by-cpus.ensures c.deref-2.ensures.value c.earliest.ensures c.unwrap_or-start.ensures c.ticks_from-ticks.ensures))
    ∙ ap (λ (js : List Jobs). refused_by (lists js) c.cpus_by-cpus.result c.ticks_from-ticks.result) (sym c.deref-3.ensures.value) ∙ sym c.refused_by.ensures ∙ c.in-Some.is)

pub returns-clause-found : goal.returns-clause-found
returns-clause-found c = section_is c.args.moments.now c.args.tasks.now c.args.shape.now (lists c.in_ok-found.found.jobs.items) c.cpus_by-cpus.result c.unwrap_or-start.result c.ticks_from-ticks.result c.in_ok-entries.entries.items c.push_advances.new.entries.items (facts c.args.moments.now c.args.tasks.now c.args.shape.now c.in_ok-found.found c.cpus_by-cpus.result c.unwrap_or-start.result c.ticks_from-ticks.result c.deref.result.now c.deref-2.result.now c.earliest.result c.in_ok-found.ensures c.deref.ensures.value c.cpus_by-cpus.ensures c.deref-2.ensures.value c.earliest.ensures c.unwrap_or-start.ensures c.ticks_from-ticks.ensures) (c.in_ok-entries.ensures.found ∙ ap (λ (js : List Jobs). numbered_from 0 (admits_from c.unwrap_or-start.result 0 c.args.tasks.now (lists js))) c.deref-4.ensures.value) c.in_ok-push_advances.ensures.added

pub returns-clause-good : goal.returns-clause-good
returns-clause-good c = sym (refused_is c.args.moments.now c.args.tasks.now c.args.shape.now (lists c.in_ok-found.found.jobs.items) c.cpus_by-cpus.result c.unwrap_or-start.result c.ticks_from-ticks.result (facts c.args.moments.now c.args.tasks.now c.args.shape.now c.in_ok-found.found c.cpus_by-cpus.result c.unwrap_or-start.result c.ticks_from-ticks.result c.deref.result.now c.deref-2.result.now c.earliest.result c.in_ok-found.ensures c.deref.ensures.value c.cpus_by-cpus.ensures c.deref-2.ensures.value c.earliest.ensures c.unwrap_or-start.ensures c.ticks_from-ticks.ensures))
    ∙ ap (λ (js : List Jobs). refused_by (lists js) c.cpus_by-cpus.result c.ticks_from-ticks.result) (sym c.deref-3.ensures.value) ∙ sym c.refused_by.ensures ∙ c.in_default.is

pub returns-clause-read : goal.returns-clause-read
returns-clause-read c =
    let none : workload_refused c.args.moments.now c.args.tasks.now c.args.shape.now ≡ None = sym (refused_is c.args.moments.now c.args.tasks.now c.args.shape.now (lists c.in_ok-found.found.jobs.items) c.cpus_by-cpus.result c.unwrap_or-start.result c.ticks_from-ticks.result (facts c.args.moments.now c.args.tasks.now c.args.shape.now c.in_ok-found.found c.cpus_by-cpus.result c.unwrap_or-start.result c.ticks_from-ticks.result c.deref.result.now c.deref-2.result.now c.earliest.result c.in_ok-found.ensures c.deref.ensures.value c.cpus_by-cpus.ensures c.deref-2.ensures.value c.earliest.ensures c.unwrap_or-start.ensures c.ticks_from-ticks.ensures))
    ∙ ap (λ (js : List Jobs). refused_by (lists js) c.cpus_by-cpus.result c.ticks_from-ticks.result) (sym c.deref-3.ensures.value) ∙ sym c.refused_by.ensures ∙ c.in_default.is in
    subst (λ (s : SectionView). AreRead (s ∷ [])) (sym (section_is c.args.moments.now c.args.tasks.now c.args.shape.now (lists c.in_ok-found.found.jobs.items) c.cpus_by-cpus.result c.unwrap_or-start.result c.ticks_from-ticks.result c.in_ok-entries.entries.items c.push_advances.new.entries.items (facts c.args.moments.now c.args.tasks.now c.args.shape.now c.in_ok-found.found c.cpus_by-cpus.result c.unwrap_or-start.result c.ticks_from-ticks.result c.deref.result.now c.deref-2.result.now c.earliest.result c.in_ok-found.ensures c.deref.ensures.value c.cpus_by-cpus.ensures c.deref-2.ensures.value c.earliest.ensures c.unwrap_or-start.ensures c.ticks_from-ticks.ensures) (c.in_ok-entries.ensures.found ∙ ap (λ (js : List Jobs). numbered_from 0 (admits_from c.unwrap_or-start.result 0 c.args.tasks.now (lists js))) c.deref-4.ensures.value) c.in_ok-push_advances.ensures.added)) (workload_read c.args.moments.now c.args.tasks.now c.args.shape.now c.requires.tasks c.requires.shape none)

pub returns-in-Some-clause-named : goal.returns-in-Some-clause-named
returns-in-Some-clause-named c = fault_names c.args.moments.now c.args.tasks.now c.args.shape.now c.in-Some.fault (sym (refused_is c.args.moments.now c.args.tasks.now c.args.shape.now (lists c.in_ok-found.found.jobs.items) c.cpus_by-cpus.result c.unwrap_or-start.result c.ticks_from-ticks.result (facts c.args.moments.now c.args.tasks.now c.args.shape.now c.in_ok-found.found c.cpus_by-cpus.result c.unwrap_or-start.result c.ticks_from-ticks.result c.deref.result.now c.deref-2.result.now c.earliest.result c.in_ok-found.ensures c.deref.ensures.value c.cpus_by-cpus.ensures c.deref-2.ensures.value c.earliest.ensures c.unwrap_or-start.ensures c.ticks_from-ticks.ensures))
    ∙ ap (λ (js : List Jobs). refused_by (lists js) c.cpus_by-cpus.result c.ticks_from-ticks.result) (sym c.deref-3.ensures.value) ∙ sym c.refused_by.ensures ∙ c.in-Some.is)
