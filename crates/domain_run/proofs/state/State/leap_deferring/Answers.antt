use Rattle.std.proofs.Common.{◌≡◌, ◌≤◌, ◌++◌, List, [], length, sym, ap, subst, ◌∙◌, arith}
use Rattle.std.specs.Prelude.{All}
use Rattle.domain_run.specs.declared.happened.Happened.{Happened}
use Rattle.domain_run.specs.Domain.{Domain}
use Rattle.domain_run.specs.Happened.{logged_by_beginning, logged_by_last_end, logged_by_ticks}
use Rattle.domain_run.specs.Log.{LogView, HasLogged}
use Rattle.domain_run.specs.Switch.{Switch}
use Rattle.domain_run.specs.private.DeferringTimers.{awake, IsBare}
use Rattle.domain_run.proofs.DeferringTimers.{begun_bare}
use Rattle.domain_run.proofs.Logging.{logs_none, logs_more, logs_few}
use Rattle.domain_run.proofs.LoggedFew.{event_few, begun_switches}
use Rattle.domain_run.proofs.state.State.leap_deferring.Goals as goal

pub run_deferring-requires-clause-bare : goal.run_deferring-requires-clause-bare
run_deferring-requires-clause-bare c = subst (λ (x : Domain). All IsBare x.tasks) (sym (c.begin_charging.ensures.ok c.if-not-begin_charging.false)) (begun_bare c.args.self.now c.requires.plain)

pub returns-then-not-begin_charging-clause-logged : goal.returns-then-not-begin_charging-clause-logged
returns-then-not-begin_charging-clause-logged c = subst (λ l. HasLogged c.args.log.now [] l) (sym (c.begin_charging.ensures.unlogged c.if-not-begin_charging.true)) (logs_none c.args.log.now)

pub returns-clause-logged : goal.returns-clause-logged
returns-clause-logged c =
    let d = c.args.self.now in
    let k = c.run_deferring.result in
    let ok = c.begin_charging.ensures.ok c.if-not-begin_charging.false in
    subst (λ (hs : List Happened). HasLogged c.args.log.now hs c.run_deferring.new.log) (sym (c.run_deferring.ensures.quiet d ok c.requires.plain))
    (logs_more (logged_by_beginning d) (logged_by_last_end k d) c.args.log.now c.begin_charging.new.log c.run_deferring.new.log (c.begin_charging.ensures.logged c.if-not-begin_charging.false) (c.run_deferring.ensures.logged d ok))

pub returns-clause-happened : goal.returns-clause-happened
returns-clause-happened c =
    let d = c.args.self.now in
    let k = c.run_deferring.result in
    let ok = c.begin_charging.ensures.ok c.if-not-begin_charging.false in
    let few : length (logged_by_ticks k (awake c.args.lags.now d)) ≤ 2304 = subst (λ (hs : List Happened). length hs ≤ 2304) (sym (c.run_deferring.ensures.quiet d ok c.requires.plain)) (event_few k d c.begin_charging.ensures.domain.steady.listed) in
    logs_few 2304 (logged_by_ticks k (awake c.args.lags.now d)) c.args.log.now c.run_deferring.new.log few (returns-clause-logged c)

pub returns-clause-switches : goal.returns-clause-switches
returns-clause-switches c =
    let d = c.args.self.now in
    let ok = c.begin_charging.ensures.ok c.if-not-begin_charging.false in
    let steady = c.begin_charging.ensures.domain.steady in
    let same = c.run_deferring.ensures.switches ∙ ap (λ (x : Domain). x.switches) ok in
    omega (arith, ap (λ (ss : List Switch). length ss) same, begun_switches d, steady.wide, steady.cpus.1)

pub returns-then-not-begin_charging-clause-switches : goal.returns-then-not-begin_charging-clause-switches
returns-then-not-begin_charging-clause-switches c = omega (arith, ap (λ (x : Domain). length x.switches) (c.begin_charging.ensures.full c.if-not-begin_charging.true))

pub returns-then-not-begin_charging-clause-happened : goal.returns-then-not-begin_charging-clause-happened
returns-then-not-begin_charging-clause-happened c = omega (arith, ap (λ (l : LogView). length l.happened) (c.begin_charging.ensures.unlogged c.if-not-begin_charging.true))
