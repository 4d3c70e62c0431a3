use Rattle.std.proofs.Common.{sym, subst, arith}
use Rattle.domain_run.specs.Domain.{Domain}
use Rattle.domain_run.specs.Keys.{AreKept}
use Rattle.domain_run.proofs.KeptKeys.{kept_itself, ticks_kept}
use Rattle.std.proofs.lemmas.Grind.{common_steps}
use Rattle.domain_run.proofs.state.State.leap_once_in_room.Goals as goal

pub returns-then-not-begin_charging-clause-keys : goal.returns-then-not-begin_charging-clause-keys
returns-then-not-begin_charging-clause-keys c =
    subst (λ (d : Domain). AreKept c.args.self.now.tasks d.tasks) (sym (c.begin_charging.ensures.full c.if-not-begin_charging.true)) (kept_itself c.args.self.now.tasks)

pub returns-clause-keys : goal.returns-clause-keys
returns-clause-keys c =
    let d = c.args.self.now in
    let made = c.run.ensures.domain d (c.begin_charging.ensures.ok c.if-not-begin_charging.false) in
    subst (λ (x : Domain). AreKept d.tasks x.tasks) (sym made) (ticks_kept c.run.result d c.begin_charging.ensures.domain.steady.numbered)

pub begin_charging-requires-clause-early : goal.begin_charging-requires-clause-early
begin_charging-requires-clause-early c = grind (arith, common_steps)

pub run-requires-clause-begun : goal.run-requires-clause-begun
run-requires-clause-begun c = grind (arith, common_steps)

pub run-requires-clause-some : goal.run-requires-clause-some
run-requires-clause-some c = grind (arith, common_steps)

pub run-requires-clause-quiet : goal.run-requires-clause-quiet
run-requires-clause-quiet c = grind (arith, common_steps)

pub run-requires-clause-early : goal.run-requires-clause-early
run-requires-clause-early c = grind (arith, common_steps)

pub returns-clause-most : goal.returns-clause-most
returns-clause-most c = grind (arith, common_steps)
