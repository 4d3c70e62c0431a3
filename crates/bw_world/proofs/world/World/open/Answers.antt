use Rattle.std.proofs.Common.{◌++◌, ◌∷◌, [], List, map, take, sym, ap, ◌∙◌, subst, arith}
use Rattle.std.proofs.lemmas.List.{map_more, take_all}
use Rattle.bw_world.specs.WorldView.{DomainView, WorldView}
use Rattle.bw_world.specs.DomainStep.{unused_domain}
use Rattle.bw_world.specs.ExactWord.{IsExact}
use Rattle.bw_world.proofs.WorldLaw.{opened_world_exact}
use Rattle.bw_world.proofs.world.World.open.Goals as goal

pub loop-cap-preserved : goal.loop-cap-preserved
loop-cap-preserved c =
    let caps = c.args.caps.now in
    let i = c.loop-cap.cap-index in
    let is = c.loop-cap.invariant in
    record {
      domains = c.push_reserved.ensures.items ∙ ap (λ (ds : List DomainView). ds ++ c.open.result ∷ []) is.domains
          ∙ ap (λ (d : DomainView). map unused_domain (take i caps) ++ d ∷ []) c.open.ensures ∙ sym (map_more unused_domain caps i 0 (omega arith));
      count = omega arith;
      room = omega arith;
    }

pub invariant_of-result : goal.invariant_of-result
invariant_of-result c =
    subst IsExact (sym c.loop-cap.invariant.domains) (opened_world_exact _)

pub returns-clause-opened : goal.returns-clause-opened
returns-clause-opened c =
    let caps = c.args.caps.now in
    let all = ap (map unused_domain) (take_all c.loop-cap.cap-index caps (omega arith)) in
    let world : List DomainView → WorldView = λ ds. record { domains = ds; applied = 0 } in
    ap world (c.loop-cap.invariant.domains ∙ all)

pub returns-clause-exact : goal.returns-clause-exact
returns-clause-exact c =
    subst IsExact (sym c.loop-cap.invariant.domains) (opened_world_exact _)
