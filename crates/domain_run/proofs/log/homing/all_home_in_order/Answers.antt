use Rattle.std.proofs.Common.{map, sym, subst, ap, ◌∙◌}
use Rattle.std.specs.Prelude.{AllPairs}
use Rattle.domain_run.specs.Happened.{in_order, with_its_cpu}
use Rattle.domain_run.specs.private.TransitionLog.{IsApart}
use Rattle.domain_run.proofs.Keeping.{AllPairs-map}
use Rattle.domain_run.proofs.log.homing.all_home_in_order.Goals as goal

pub returns : goal.returns
returns c apart =
    let f = with_its_cpu c.args.places.now in
    let logged = c.args.logged.now in
    let all : AllPairs IsApart (map f logged) = AllPairs-map IsApart f (λ a b h. h) logged apart in
    c.put_in_order.ensures (subst (AllPairs IsApart) (sym c.all_home.ensures) all) ∙ ap in_order c.all_home.ensures
