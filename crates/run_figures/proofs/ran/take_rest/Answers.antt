use Rattle.std.proofs.Common.{ℕ, map, Option, sym, ap, ◌∙◌}
use Rattle.std.proofs.Math.ListN.{set}
use Rattle.std.proofs.lemmas.List.{map-id}
use Rattle.run_figures.specs.declared.ran.Ran.{Ran}
use Rattle.run_figures.specs.private.Running.{without_rest, without_rest_of}
use Rattle.run_figures.proofs.Turning.{turned_place, turned_none}
use Rattle.run_figures.proofs.ran.take_rest.Goals as goal

pub returns-in_default-clause-rest : goal.returns-in_default-clause-rest
returns-in_default-clause-rest c =
    sym (map-id c.args.table.now.items)
    ∙ ap (λ (o : Option ℕ). map (without_rest_of o c.args.us) c.args.table.now.items) (sym c.in_default.is)

pub returns-in-Some-find-clause-rest : goal.returns-in-Some-find-clause-rest
returns-in-Some-find-clause-rest c =
    let items = c.args.table.now.items in
    ap (λ (x : Ran). set items c.in-Some-find.place x) c.drop_rest.ensures
    ∙ turned_place (λ (r : Ran). r.number) c.in-Some.number (without_rest c.args.us) items c.args.places.now c.in-Some-find.place c.index_mut.result.now c.requires.keyed c.find.ensures.apart c.in-Some-find.ensures.found c.index_mut.ensures.value
    ∙ ap (λ (o : Option ℕ). map (without_rest_of o c.args.us) items) (sym c.in-Some.is)

pub returns-in_default-find-clause-rest : goal.returns-in_default-find-clause-rest
returns-in_default-find-clause-rest c =
    let items = c.args.table.now.items in
    turned_none (λ (r : Ran). r.number) c.in-Some.number (without_rest c.args.us) items c.args.places.now c.requires.keyed c.in_default-find.ensures.absent
    ∙ ap (λ (o : Option ℕ). map (without_rest_of o c.args.us) items) (sym c.in-Some.is)
