use Rattle.std.proofs.Common.{◌≡◌, List, sym, subst}
use Rattle.domain_run.specs.declared.happened.Happened.{Happened}
use Rattle.domain_run.specs.Happened.{logged_by_beginning, logged_by_last_end}
use Rattle.domain_run.specs.Log.{HasLogged}
use Rattle.domain_run.specs.Domain.{Domain}
use Rattle.domain_run.specs.Tick.{ticks}
use Rattle.domain_run.specs.Keys.{AreKept}
use Rattle.domain_run.proofs.CallerLemmas.{kept_itself, ticks_kept, logs_more}
use Rattle.jump_run.proofs.advancing.jump_with.Goals as goal

pub returns-in_err-begin_logged-clause-keys : goal.returns-in_err-begin_logged-clause-keys
returns-in_err-begin_logged-clause-keys g c = subst (λ (d : Domain). AreKept c.args.state.now.tasks d.tasks) (sym c.in_err-begin_logged.ensures.err) (kept_itself c.args.state.now.tasks)

pub returns-clause-keys : goal.returns-clause-keys
returns-clause-keys g c =
    let d = c.args.state.now in
    let k = c.make-span.result.ticks in
    let made : c.finish_logged.new.self ≡ ticks k d = c.finish_logged.ensures.domain d c.in_ok-begin_logged.ensures.ok in
    subst (λ (x : Domain). AreKept d.tasks x.tasks) (sym made) (ticks_kept k d c.in_ok-begin_logged.ensures.domain.steady.numbered)

pub returns-clause-logged : goal.returns-clause-logged
returns-clause-logged g c =
    let d = c.args.state.now in
    let k = c.make-span.result.ticks in
    let begun = c.in_ok-begin_logged.ensures in
    subst (λ (hs : List Happened). HasLogged c.args.log.now hs c.finish_logged.new.log) (sym (c.finish_logged.ensures.quiet d begun.ok))
    (logs_more (logged_by_beginning d) (logged_by_last_end k d) c.args.log.now c.begin_logged.new.log c.finish_logged.new.log begun.logged (c.finish_logged.ensures.logged d begun.ok))
