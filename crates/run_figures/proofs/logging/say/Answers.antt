use Rattle.std.proofs.Common.{◌+◌, ap, ◌∙◌, sym, subst, arith}
use Rattle.std.proofs.Math.ListN.{set}
use Rattle.run_figures.specs.declared.logged.TaskTally.{TaskTally}
use Rattle.run_figures.specs.private.Logging.{logged_after, IsLoggedWithin}
use Rattle.std.proofs.lemmas.List.Elements.{All-set}
use Rattle.run_figures.proofs.Turning.{turned_place, turned_none, place_inside}
use Rattle.run_figures.proofs.Passing.{all_more}
use Rattle.run_figures.proofs.logging.say.Goals as goal

pub returns-in-Some-clause-logged : goal.returns-in-Some-clause-logged
returns-in-Some-clause-logged c =
    let h = c.args.happened.now in
    ap (λ (x : TaskTally). set c.args.logged.now.items c.in-Some.place x) c.log_entry.ensures.logged
    ∙ turned_place (λ (t : TaskTally). t.number) h.number (logged_after c.args.time h) c.args.logged.now.items c.args.places.now c.in-Some.place c.index_mut.result.now c.requires.keyed c.find.ensures.apart c.in-Some.ensures.found c.index_mut.ensures.value

pub returns-in-Some-clause-within : goal.returns-in-Some-clause-within
returns-in-Some-clause-within c n all =
    let items = c.args.logged.now.items in
    let inside = place_inside (λ (t : TaskTally). t.number) c.args.happened.now.number items c.args.places.now c.in-Some.place c.requires.keyed c.in-Some.ensures.found in
    let here : IsLoggedWithin n c.index_mut.result.now = subst (λ (x : TaskTally). IsLoggedWithin n x) (sym c.index_mut.ensures.value) (all c.in-Some.place c.index_mut.result.now inside) in
    All-set (IsLoggedWithin (n + 1)) items c.in-Some.place c.log_entry.new.logged (c.log_entry.ensures.within n here) (all_more n (n + 1) items (omega arith) all)

pub returns-in_default-clause-logged : goal.returns-in_default-clause-logged
returns-in_default-clause-logged c =
    let h = c.args.happened.now in
    turned_none (λ (t : TaskTally). t.number) h.number (logged_after c.args.time h) c.args.logged.now.items c.args.places.now c.requires.keyed c.in_default.ensures.absent
