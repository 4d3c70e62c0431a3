use Rattle.std.proofs.Common.{get_or, subst, sym, ◌∙◌, arith}
use Rattle.std.proofs.lemmas.List.{get_or-set_same}
use Rattle.std.proofs.lemmas.List.Elements.{All-set}
use Rattle.switch_text.specs.Names.{name_of_task}
use Rattle.switch_text.specs.private.Ready.{IsSlotReady, IsSlot}
use Rattle.switch_text.proofs.Kept.{IsReady-same, IsSlot-made}
use Rattle.switch_text.proofs.ready.refill.Goals as goal

-- what is required has no names here: the last two are `same` and `right`

pub returns-clause-right : goal.returns-clause-right
returns-clause-right g c =
    let made = c.make.result in
    let run = get_or c.args.runs.now c.args.run c.index-runs-run.result in
    let ready = IsReady-same (name_of_task run.names.now) (g.names c.args.run) c.args.cpu c.args.task made (c.requires.1.1.1.1.1.0 c.index-runs-run.result) c.make.ensures.texts in
    All-set (IsSlot g.names) c.args.slots.now c.args.place made (IsSlot-made g.names c.args.run c.args.cpu c.args.task made (c.make.ensures.who ∙ c.who_is-who.ensures) ready) c.requires.1.1.1.1.1.1

pub returns-clause-texts : goal.returns-clause-texts
returns-clause-texts g c = λ d.
    let made = c.make.result in
    let run = get_or c.args.runs.now c.args.run c.index-runs-run.result in
    let ready = IsReady-same (name_of_task run.names.now) (g.names c.args.run) c.args.cpu c.args.task made (c.requires.1.1.1.1.1.0 c.index-runs-run.result) c.make.ensures.texts in
    subst (λ s. IsSlotReady (g.names c.args.run) c.args.cpu c.args.task s) (sym (get_or-set_same c.args.slots.now c.args.place made d (omega arith))) ready
