use Rattle.std.proofs.Common.{◌≡◌, List, [], sym, subst}
use Rattle.domain_run.specs.declared.happened.Happened.{Happened}
use Rattle.domain_run.specs.Domain.{Domain}
use Rattle.domain_run.specs.Happened.{logged_by_beginning, logged_by_last_end}
use Rattle.domain_run.specs.Keys.{AreKept}
use Rattle.domain_run.specs.Log.{LogView, HasLogged}
use Rattle.domain_run.proofs.KeptKeys.{kept_itself, ticks_kept}
use Rattle.domain_run.proofs.Logging.{logs_none, logs_more}
use Rattle.domain_run.proofs.state.State.leap_once_logged_in_room.Goals as goal

pub returns-then-lacks_room-clause-keys : goal.returns-then-lacks_room-clause-keys
returns-then-lacks_room-clause-keys c = kept_itself c.args.self.now.tasks

pub returns-then-lacks_room-clause-logged : goal.returns-then-lacks_room-clause-logged
returns-then-lacks_room-clause-logged c = logs_none c.args.log.now

pub returns-then-not-begin_charging-clause-keys : goal.returns-then-not-begin_charging-clause-keys
returns-then-not-begin_charging-clause-keys c =
    subst (λ (d : Domain). AreKept c.args.self.now.tasks d.tasks) (sym (c.begin_charging.ensures.full c.if-not-begin_charging.true)) (kept_itself c.args.self.now.tasks)

pub returns-then-not-begin_charging-clause-logged : goal.returns-then-not-begin_charging-clause-logged
returns-then-not-begin_charging-clause-logged c = subst (λ (l : LogView). HasLogged c.args.log.now [] l) (sym (c.begin_charging.ensures.unlogged c.if-not-begin_charging.true)) (logs_none c.args.log.now)

pub returns-clause-keys : goal.returns-clause-keys
returns-clause-keys c =
    let d = c.args.self.now in
    let made = c.run.ensures.domain d (c.begin_charging.ensures.ok c.if-not-begin_charging.false) in
    subst (λ (x : Domain). AreKept d.tasks x.tasks) (sym made) (ticks_kept c.run.result d c.begin_charging.ensures.domain.steady.numbered)

pub returns-clause-logged : goal.returns-clause-logged
returns-clause-logged c =
    let d = c.args.self.now in
    let k = c.run.result in
    let b = c.begin_charging.ensures in
    let yes = c.if-not-begin_charging.false in
    subst (λ (hs : List Happened). HasLogged c.args.log.now hs c.run.new.log) (sym (c.run.ensures.quiet d (b.ok yes)))
    (logs_more (logged_by_beginning d) (logged_by_last_end k d) c.args.log.now c.begin_charging.new.log c.run.new.log (b.logged yes) (c.run.ensures.logged d (b.ok yes)))
