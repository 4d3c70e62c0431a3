use Rattle.std.proofs.Common.{ℕ, map, Option, sym, ap, ◌∙◌}
use Rattle.std.proofs.Math.ListN.{set}
use Rattle.std.proofs.lemmas.List.{map-id}
use Rattle.run_figures.specs.declared.ran.Ran.{Ran}
use Rattle.run_figures.specs.private.Running.{with_stay, with_stay_of}
use Rattle.run_figures.proofs.Turning.{turned_place, turned_none}
use Rattle.run_figures.proofs.ran.put_stay.Goals as goal

pub returns-in_default-clause-stay : goal.returns-in_default-clause-stay
returns-in_default-clause-stay c =
    sym (map-id c.args.table.now.items)
    ∙ ap (λ (o : Option ℕ). map (with_stay_of o c.args.switch.now.cpu c.args.us) c.args.table.now.items) (sym (sym c.next.ensures ∙ c.in_default.is))

pub returns-in-Some-find-clause-stay : goal.returns-in-Some-find-clause-stay
returns-in-Some-find-clause-stay c =
    let items = c.args.table.now.items in
    ap (λ (x : Ran). set items c.in-Some-find.place x) c.add_stay.ensures
    ∙ turned_place (λ (r : Ran). r.number) c.in-Some.number (with_stay c.cpu.result c.args.us) items c.args.places.now c.in-Some-find.place c.index_mut.result.now c.requires.keyed c.find.ensures.apart c.in-Some-find.ensures.found c.index_mut.ensures.value
    ∙ ap (λ (o : Option ℕ). map (with_stay_of o c.cpu.result c.args.us) items) (sym c.in-Some.is)
    ∙ (λ i. map (with_stay_of (c.next.ensures i) (c.cpu.ensures i) c.args.us) items)

pub returns-in_default-find-clause-stay : goal.returns-in_default-find-clause-stay
returns-in_default-find-clause-stay c =
    let items = c.args.table.now.items in
    turned_none (λ (r : Ran). r.number) c.in-Some.number (with_stay c.args.switch.now.cpu c.args.us) items c.args.places.now c.requires.keyed c.in_default-find.ensures.absent
    ∙ ap (λ (o : Option ℕ). map (with_stay_of o c.args.switch.now.cpu c.args.us) items) (sym (sym c.next.ensures ∙ c.in-Some.is))
