use Rattle.std.proofs.Common.{◌≡◌, ◌≤◌, List, length, sym, ap, subst, ◌∙◌, arith}
use Rattle.domain_run.specs.declared.happened.Happened.{Happened}
use Rattle.domain_run.specs.Domain.{Domain}
use Rattle.domain_run.specs.Happened.{logged_by_beginning, logged_by_last_end, logged_by_ticks}
use Rattle.domain_run.specs.Keys.{AreKept}
use Rattle.domain_run.specs.Log.{HasLogged}
use Rattle.domain_run.specs.Switch.{Switch}
use Rattle.domain_run.specs.Tick.{ticks}
use Rattle.domain_run.proofs.KeptKeys.{kept_itself, ticks_kept}
use Rattle.domain_run.proofs.Logging.{logs_more, logs_few}
use Rattle.domain_run.proofs.LoggedFew.{event_few, begun_switches}
use Rattle.domain_run.proofs.state.State.leap_once.Goals as goal

pub returns-in_err-begin_charging_anew-clause-keys : goal.returns-in_err-begin_charging_anew-clause-keys
returns-in_err-begin_charging_anew-clause-keys c = subst (λ (d : Domain). AreKept c.args.self.now.tasks d.tasks) (sym c.in_err-begin_charging_anew.ensures.err) (kept_itself c.args.self.now.tasks)

pub returns-clause-keys : goal.returns-clause-keys
returns-clause-keys c =
    let d = c.args.self.now in
    let made = c.run.ensures.domain d c.in_ok-begin_charging_anew.ensures.ok in
    subst (λ (x : Domain). AreKept d.tasks x.tasks) (sym made) (ticks_kept c.run.result d c.in_ok-begin_charging_anew.ensures.domain.steady.numbered)

pub returns-clause-logged : goal.returns-clause-logged
returns-clause-logged c =
    let d = c.args.self.now in
    let k = c.run.result in
    let begun = c.in_ok-begin_charging_anew.ensures in
    subst (λ (hs : List Happened). HasLogged c.args.log.now hs c.run.new.log) (sym (c.run.ensures.quiet d begun.ok))
    (logs_more (logged_by_beginning d) (logged_by_last_end k d) c.args.log.now c.begin_charging_anew.new.log c.run.new.log begun.logged (c.run.ensures.logged d begun.ok))

pub returns-clause-happened : goal.returns-clause-happened
returns-clause-happened c =
    let d = c.args.self.now in
    let k = c.run.result in
    let begun = c.in_ok-begin_charging_anew.ensures in
    let few : length (logged_by_ticks k d) ≤ 2304 = subst (λ (hs : List Happened). length hs ≤ 2304) (sym (c.run.ensures.quiet d begun.ok)) (event_few k d begun.domain.steady.listed) in
    logs_few 2304 (logged_by_ticks k d) c.args.log.now c.run.new.log few (returns-clause-logged c)

pub returns-clause-switches : goal.returns-clause-switches
returns-clause-switches c =
    let d = c.args.self.now in
    let begun = c.in_ok-begin_charging_anew.ensures in
    let same = c.run.ensures.switches ∙ ap (λ (x : Domain). x.switches) begun.ok in
    omega (arith, ap (λ (ss : List Switch). length ss) same, begun_switches d, begun.domain.steady.wide, begun.domain.steady.cpus.1)
