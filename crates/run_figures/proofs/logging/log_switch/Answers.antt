use Rattle.std.proofs.Common.{◌≡◌, ◌+◌, false, sym, ap, ◌∙◌}
use Rattle.std.proofs.lemmas.List.{get_or_default}
use Rattle.std.proofs.Math.ListN.{set}
use Rattle.std.specs.Prelude.{is_some}
use Rattle.run_figures.specs.declared.logged.TaskTally.{TaskTally}
use Rattle.run_figures.proofs.Turning.{place_inside}
use Rattle.run_figures.proofs.Preempting.{nobody_gives_way, gives_way, is_throttled, not_logged}
use Rattle.run_figures.proofs.logging.log_switch.Goals as goal

pub returns-in_default-clause-logged : goal.returns-in_default-clause-logged
returns-in_default-clause-logged c = nobody_gives_way c.args.switch.now c.args.logged.now.items (sym c.in_default.ensures)

pub returns-then-not-throttled-clause-logged : goal.returns-then-not-throttled-clause-logged
returns-then-not-throttled-clause-logged c =
    let items = c.args.logged.now.items in
    let free : is_some c.index.result.now.throttle.since ≡ false = sym c.if-not-throttled.ensures in
    ap (λ (x : TaskTally). set items c.in-Some-find.place (record x { preempted = x.preempted + 1 })) (c.index_mut.ensures.value ∙ get_or_default items c.in-Some-find.place c.index_mut.result.now c.index.result.now (place_inside (λ (t : TaskTally). t.number) c.in-Some.number items c.args.places.now c.in-Some-find.place c.requires.keyed c.in-Some-find.ensures.found) ∙ sym c.index.ensures)
    ∙ gives_way c.args.switch.now items c.args.places.now c.in-Some.number c.in-Some-find.place c.index.result.now (sym c.in-Some.ensures) c.requires.keyed c.find.ensures.apart c.in-Some-find.ensures.found c.index.ensures free

pub returns-else-not-throttled-clause-logged : goal.returns-else-not-throttled-clause-logged
returns-else-not-throttled-clause-logged c =
    is_throttled c.args.switch.now c.args.logged.now.items c.args.places.now c.in-Some.number c.in-Some-find.place c.index.result.now (sym c.in-Some.ensures) c.requires.keyed c.find.ensures.apart c.in-Some-find.ensures.found c.index.ensures (sym c.if-not-throttled.ensures)

pub returns-in_default-find-clause-logged : goal.returns-in_default-find-clause-logged
returns-in_default-find-clause-logged c =
    not_logged c.args.switch.now c.args.logged.now.items c.args.places.now c.in-Some.number (sym c.in-Some.ensures) c.requires.keyed c.in_default-find.ensures.absent
