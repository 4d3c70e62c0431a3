use Rattle.std.proofs.Common.{sym, subst}
use Rattle.domain_run.specs.Domain.{Domain}
use Rattle.domain_run.specs.Keys.{AreKept}
use Rattle.domain_run.proofs.KeptKeys.{ticks_kept}
use Rattle.domain_run.proofs.state.State.leap_in_room.Goals as goal

pub returns-then-made-gt0-clause-keys : goal.returns-then-made-gt0-clause-keys
returns-then-made-gt0-clause-keys c =
    let d = c.args.self.now in
    let made = c.defer_long-made in
    subst (λ (x : Domain). AreKept d.tasks x.tasks) (sym made.ensures.ticks) (ticks_kept made.result d made.ensures.domain.steady.numbered)
