use Rattle.std.proofs.Common.{◌≡◌, ◌≤◌, ◌+◌, ◌<◌, List, [], length, sym, ap, subst, ◌∙◌, arith}
use Rattle.domain_run.specs.declared.happened.Happened.{Happened}
use Rattle.domain_run.specs.Domain.{Domain}
use Rattle.domain_run.specs.Happened.{logged_by_ticks}
use Rattle.domain_run.specs.Keys.{AreKept}
use Rattle.domain_run.specs.Log.{HasLogged}
use Rattle.domain_run.specs.Switch.{Switch}
use Rattle.domain_run.specs.Tick.{ticks}
use Rattle.domain_run.proofs.KeptKeys.{ticks_kept}
use Rattle.domain_run.proofs.Logging.{logs_more, logs_few}
use Rattle.domain_run.proofs.state.State.leap_logged_in_room.Goals as goal

pub returns-then-made-gt0-clause-keys : goal.returns-then-made-gt0-clause-keys
returns-then-made-gt0-clause-keys c =
    let d = c.args.self.now in
    let made = c.defer_long-made in
    subst (λ (x : Domain). AreKept d.tasks x.tasks) (sym made.ensures.ticks) (ticks_kept made.result d made.ensures.domain.steady.numbered)

-- where it made no tick nothing has changed
same : (c : goal.After-leap_once_logged_in_room) → c.defer_long-made.new.self ≡ c.args.self.now
same c =
    let made = c.defer_long-made in
    let zero : made.result ≡ 0 = omega arith in
    made.ensures.ticks ∙ ap (λ n. ticks n c.args.self.now) zero

unlogged : (c : goal.After-leap_once_logged_in_room) → HasLogged c.args.log.now [] c.defer_long-made.new.log
unlogged c =
    let made = c.defer_long-made in
    let zero : made.result ≡ 0 = omega arith in
    subst (λ n. HasLogged c.args.log.now (logged_by_ticks n c.args.self.now) made.new.log) zero made.ensures.logged

pub returns-clause-logged : goal.returns-clause-logged
returns-clause-logged c =
    let mid = c.defer_long-made.new in
    let last = c.leap_once_logged_in_room in
    subst (λ (d : Domain). HasLogged c.args.log.now (logged_by_ticks last.result d) last.new.log) (same c)
    (logs_more [] (logged_by_ticks last.result mid.self) c.args.log.now mid.log last.new.log (unlogged c) last.ensures.logged)

pub returns-clause-some : goal.returns-clause-some
returns-clause-some c none room =
    let mid = c.defer_long-made.new in
    let empty : List Happened = [] in
    let more = logs_few 0 empty c.args.log.now mid.log (omega arith) (unlogged c) in
    let still = ap (λ (d : Domain). d.switches) (same c) ∙ none in
    c.leap_once_logged_in_room.ensures.some still (omega (arith, room, more, (unlogged c).room))
