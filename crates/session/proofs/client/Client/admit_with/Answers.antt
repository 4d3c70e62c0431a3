use Rattle.std.proofs.Common.{length, Some, ap, subst, ◌∙◌, arith}
use Rattle.std.proofs.lemmas.Grind.{common_steps}
use Rattle.attr_check.specs.ParamsView.{ParamsView}
use Rattle.domain_run.specs.declared.call.Call.{Call}
use Rattle.domain_run.specs.declared.call.Call.TheVariants as calls
use Rattle.rtapp_scenario.specs.ScenarioView.{TaskSpecView}
use Rattle.call_book.specs.Book.{AdmissionView, admission}
use Rattle.session.specs.declared.refusal.Refusal.TheVariants as refusals
use Rattle.session.specs.SessionId.{cpu_set_of}
use Rattle.session.specs.Seen.{EntryWasSeen}
use Rattle.session.specs.Asks.{ClientView, part_in, Makes, made_by, admit_call, AsksGate}
use Rattle.session.specs.private.Entering.{IsEntryVerdict}
use Rattle.session.proofs.Asked.{accepted_is, refused_makes}
use Rattle.session.proofs.client.Client.admit_with.Goals as goal

pub returns-in-Ok-clause-made : goal.returns-in-Ok-clause-made
returns-in-Ok-clause-made g c =
    let t = c.args.task.now in
    subst (λ (call : Call). Makes c.args.self.now c.submit.new.self (made_by c.args.place call c.submit.result))
    (ap admission c.in-Ok.ensures ∙ ap (λ (v : TaskSpecView). calls.Admit v.number v.name c.args.params v.delay v.script) c.task.view_is
    ∙ ap (λ (p : ParamsView). calls.Admit t.number t.name p t.delay t.script) (accepted_is t.attr c.args.params c.requires.checked)) c.submit.ensures.made

pub returns-in-Ok-clause-seen : goal.returns-in-Ok-clause-seen
returns-in-Ok-clause-seen g c =
    let t = c.args.task.now in
    subst (λ (call : Call). EntryWasSeen g.N.Names.id c.args.place (part_in c.args.self.now c.args.place) call c.submit.result c.submit.new.self.hand)
    (ap admission c.in-Ok.ensures ∙ ap (λ (v : TaskSpecView). calls.Admit v.number v.name c.args.params v.delay v.script) c.task.view_is
    ∙ ap (λ (p : ParamsView). calls.Admit t.number t.name p t.delay t.script) (accepted_is t.attr c.args.params c.requires.checked)) c.submit.ensures.seen

pub returns-in-Ok-clause-verdict : goal.returns-in-Ok-clause-verdict
returns-in-Ok-clause-verdict g c =
    subst (λ (p : ParamsView). IsEntryVerdict (length (cpu_set_of g.N.Names.id c.args.place)) p.bw c.submit.result)
    (ap (λ (a : AdmissionView). a.params) c.in-Ok.ensures ∙ accepted_is c.args.task.now.attr c.args.params c.requires.checked) c.submit.ensures.verdict

pub returns-in-Ok-clause-last : goal.returns-in-Ok-clause-last
returns-in-Ok-clause-last g c = c.submit.ensures.last

pub returns-in-Ok-clause-gate : goal.returns-in-Ok-clause-gate
returns-in-Ok-clause-gate g c =
    subst (λ (p : ParamsView). AsksGate g.N.Names.id.gate c.args.place p.bw (Some c.args.blank) c.submit.result c.submit.new.self.hand)
    (ap (λ (a : AdmissionView). a.params) c.in-Ok.ensures ∙ accepted_is c.args.task.now.attr c.args.params c.requires.checked) c.submit.ensures.gate

pub returns-in-Err-clause-made : goal.returns-in-Err-clause-made
returns-in-Err-clause-made g c =
    refused_makes c.args.self.now _ c.args.place (admit_call c.args.task.now) refusals.Enomem (ap (λ (v : ClientView). v.number) c.keep.ensures) (ap (λ (v : ClientView). v.passes) c.keep.ensures)

pub submit-requires-clause-place : goal.submit-requires-clause-place
submit-requires-clause-place g c = grind (arith, common_steps)

pub submit-requires-clause-own : goal.submit-requires-clause-own
submit-requires-clause-own g c = grind (arith, common_steps)
