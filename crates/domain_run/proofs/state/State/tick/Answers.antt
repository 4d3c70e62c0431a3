use Rattle.std.proofs.Common.{◌≡◌, sym, subst}
use Rattle.domain_run.specs.Domain.{Domain}
use Rattle.domain_run.specs.Tick.{ticked}
use Rattle.domain_run.specs.Jump.{under_way}
use Rattle.domain_run.specs.Sound.{IsPlacement}
use Rattle.domain_run.specs.Keys.{AreKept}
use Rattle.domain_run.proofs.KeptKeys.{ticked_kept}
use Rattle.domain_run.proofs.state.State.tick.Goals as goal

pub returns-clause-ok : goal.returns-clause-ok
returns-clause-ok c = c.finish.ensures c.args.self.now c.in_ok-begin.ensures.ok

pub returns-clause-keys : goal.returns-clause-keys
returns-clause-keys c =
    let d = c.args.self.now in
    let made : c.finish.new.self ≡ ticked d = c.finish.ensures d c.in_ok-begin.ensures.ok in
    subst (λ (x : Domain). AreKept d.tasks x.tasks) (sym made) (ticked_kept d c.in_ok-begin.ensures.domain.steady.numbered)

pub returns-clause-placed : goal.returns-clause-placed
returns-clause-placed c =
    let placed : IsPlacement (under_way c.args.self.now) = subst IsPlacement c.in_ok-begin.ensures.ok c.in_ok-begin.ensures.begun.placed in
    record { running = placed.running; apart = placed.apart }
