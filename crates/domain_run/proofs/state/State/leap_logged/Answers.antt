use Rattle.std.proofs.Common.{◌≡◌, ◌≤◌, ◌+◌, List, [], length, sym, ap, subst, ◌∙◌, arith}
use Rattle.std.proofs.lemmas.Result.{on_ok_weaker, on_err_weaker, IfOk-weaker}
use Rattle.domain_run.specs.declared.happened.Happened.{Happened}
use Rattle.domain_run.specs.Domain.{Domain}
use Rattle.domain_run.specs.Happened.{logged_by_ticks}
use Rattle.domain_run.specs.Keys.{AreKept}
use Rattle.domain_run.specs.Log.{HasLogged}
use Rattle.domain_run.specs.Tick.{ticks}
use Rattle.domain_run.proofs.KeptKeys.{ticks_kept}
use Rattle.domain_run.proofs.Logging.{logs_more, logs_few}
use Rattle.domain_run.proofs.state.State.leap_logged.Goals as goal

pub returns-then-made-gt0-clause-keys : goal.returns-then-made-gt0-clause-keys
returns-then-made-gt0-clause-keys c =
    let d = c.args.self.now in
    let made = c.defer_long-made in
    subst (λ (x : Domain). AreKept d.tasks x.tasks) (sym made.ensures.ticks) (ticks_kept made.result d made.ensures.domain.steady.numbered)

-- where it made no tick nothing has changed
same : (c : goal.After-leap_once) → c.defer_long-made.new.self ≡ c.args.self.now
same c =
    let made = c.defer_long-made in
    let zero : made.result ≡ 0 = omega arith in
    made.ensures.ticks ∙ ap (λ n. ticks n c.args.self.now) zero

unlogged : (c : goal.After-leap_once) → HasLogged c.args.log.now [] c.defer_long-made.new.log
unlogged c =
    let made = c.defer_long-made in
    let zero : made.result ≡ 0 = omega arith in
    subst (λ n. HasLogged c.args.log.now (logged_by_ticks n c.args.self.now) made.new.log) zero made.ensures.logged

pub returns-clause-logged : goal.returns-clause-logged
returns-clause-logged c =
    let old = c.args.self.now in
    let mid = c.defer_long-made.new in
    IfOk-weaker c.leap_once.result _ _ (λ made logged.
    subst (λ (d : Domain). HasLogged c.args.log.now (logged_by_ticks made d) c.leap_once.new.log) (same c)
    (logs_more [] (logged_by_ticks made mid.self) c.args.log.now mid.log c.leap_once.new.log (unlogged c) logged)) c.leap_once.ensures.logged

pub returns-clause-unlogged : goal.returns-clause-unlogged
returns-clause-unlogged c = on_err_weaker c.leap_once.result (λ logged. logs_more [] [] c.args.log.now c.defer_long-made.new.log c.leap_once.new.log (unlogged c) logged) c.leap_once.ensures.unlogged

pub returns-clause-switches : goal.returns-clause-switches
returns-clause-switches c =
    let before = ap (λ (d : Domain). length d.switches) (same c) in
    on_ok_weaker c.leap_once.result (λ few a b. omega (arith, few, a, before)) c.leap_once.ensures.switches

pub returns-clause-happened : goal.returns-clause-happened
returns-clause-happened c =
    let none : List Happened = [] in
    let before = logs_few 0 none c.args.log.now c.defer_long-made.new.log (omega arith) (unlogged c) in
    on_ok_weaker c.leap_once.result (λ few a b. omega (arith, few, b, before)) c.leap_once.ensures.happened
