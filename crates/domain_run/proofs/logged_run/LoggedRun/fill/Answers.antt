use Rattle.std.proofs.Common.{◌≡◌, ℕ, ◌+◌, ◌-◌, ◌<◌, ◌≤◌, ◌++◌, List, length, refl, sym, ap, subst, ◌∙◌, arith}
use Rattle.std.specs.Prelude.{All}
use Rattle.domain_run.specs.declared.happened.Happened.{Happened}
use Rattle.domain_run.specs.Domain.{Domain}
use Rattle.domain_run.specs.Happened.{logged_by_ticks}
use Rattle.domain_run.specs.LoggedRun.{LoggedRunView}
use Rattle.domain_run.specs.Log.{LogView, HasLogged}
use Rattle.domain_run.specs.Tick.{ticks}
use Rattle.domain_run.proofs.Coming.{to_come_more, to_come_later}
use Rattle.domain_run.proofs.LogTicks.{logged_to_come, logged_until_then, logged_from, logged_wanted}
use Rattle.domain_run.proofs.logged_run.LoggedRun.fill.Goals as goal

pub returns : goal.returns
returns c =
    let old : LoggedRunView = c.args.self.now in
    let e = c.fill_logged.ensures in
    let d = c.fill_logged.new.self in
    let left = c.fill_logged.result in
    let was = c.self.inside in
    let start : was.state ≡ old.domain = ap (λ (v : LoggedRunView). v.domain) c.self.view_is in
    let before : was.log.happened ≡ old.logged = ap (λ (v : LoggedRunView). v.logged) c.self.view_is in
    let made : d ≡ ticks (c.args.n - left) old.domain = e.made ∙ ap (ticks (c.args.n - left)) start in
    let gone = logged_wanted (logged_by_ticks (c.args.n - left) was.state) was.log c.fill_logged.new.log c.self.invariant.wanted e.logged in
    let logged : c.fill_logged.new.log.happened ≡ old.logged ++ logged_by_ticks (c.args.n - left) old.domain
    = gone ∙ ap (λ (hs : List Happened). hs ++ logged_by_ticks (c.args.n - left) was.state) before ∙ ap (λ (x : Domain). old.logged ++ logged_by_ticks (c.args.n - left) x) start in
    let sum : c.args.n - left + left ≡ c.args.n = omega (arith, e.most) in
    record {
      made = made;
      logged = logged;
      most = e.most;
      full = e.full;
      more = to_come_more c.args.n (c.args.n - left) left old.domain d made sum;
      more_logged = logged_to_come c.args.n (c.args.n - left) left old.domain d old.logged c.fill_logged.new.log.happened made sum logged;
      later = to_come_later left d;
      past = λ all. logged_until_then (c.args.n - left) old.domain d old.logged c.fill_logged.new.log.happened made logged all;
      unlogged = logged_from left d;
      keys = subst (λ (x : Domain). Rattle.domain_run.specs.Keys.AreKept x.tasks d.tasks) start e.keys;
    }
