use Rattle.std.proofs.Common.{◌≡◌, List, length, map, ap, ◌∙◌}
use Rattle.std.proofs.lemmas.List.{length-map}
use Rattle.domain_run.specs.declared.happened.Happened.{Happened}
use Rattle.domain_run.specs.Happened.{in_order, with_its_cpu}
use Rattle.domain_run.specs.Log.{LogView}
use Rattle.domain_run.proofs.LoggedSorted.{length-in_order}
use Rattle.domain_run.proofs.Logging.{written_from}
use Rattle.domain_run.proofs.log.Log.go_home.Goals as goal

pub returns-then-from-len-clause-home : goal.returns-then-from-len-clause-home
returns-then-from-len-clause-home c base others len is apart =
    let v = c.self.inside.happened in
    let d = c.deref_mut in
    let f = with_its_cpu c.args.places.now in
    let keeps : (hs : List Happened) → length (in_order (map f hs)) ≡ length hs = λ hs. length-in_order (map f hs) ∙ length-map hs f in
    written_from (λ hs. in_order (map f hs)) keeps c.args.from v.len v.items d.result.now c.all_home_in_order.new.logged d.ensures.value d.ensures.len c.all_home_in_order.ensures base others len (ap (λ (l : LogView). l.happened) c.self.view_is ∙ is) apart
