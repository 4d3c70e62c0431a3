use Rattle.std.proofs.Common.{◌≡◌, ◌<◌, ◌≤◌, ◌-◌, ◌+◌, ℕ, length, get_or, sym, arith, inr, Some, None}
use Rattle.recorded_jobs.proofs.Latest.{none_within, latest_is, none_is}
use Rattle.recorded_jobs.proofs.releasing.latest_between.Goals as goal

pub returns-then-count-eq0 : goal.returns-then-count-eq0
returns-then-count-eq0 c =
    sym (none_within c.args.after c.args.start c.args.wakes.now (λ k l. inr (c.count_until-count.ensures.later k (omega arith) l)))

pub returns-then-last-after : goal.returns-then-last-after
returns-then-last-after c =
    let n = c.count_until-count.result in
    let within : n ≤ length c.args.wakes.now = c.count_until-count.ensures.within in
    let place : n - 1 < length c.args.wakes.now = omega arith in
    sym (latest_is c.args.after c.args.start c.args.wakes.now (n - 1) place (c.count_until-count.ensures.before (n - 1) (omega arith)) (λ k less l. c.count_until-count.ensures.later k (omega arith) l) (omega arith))

pub returns-else-last-after : goal.returns-else-last-after
returns-else-last-after c =
    let n = c.count_until-count.result in
    let within : n ≤ length c.args.wakes.now = c.count_until-count.ensures.within in
    let place : n - 1 < length c.args.wakes.now = omega arith in
    sym (none_is c.args.after c.args.start c.args.wakes.now (n - 1) c.requires place (λ k less l. c.count_until-count.ensures.later k (omega arith) l) (omega arith))
