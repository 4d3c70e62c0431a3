-- What is known of a run that is streamed while a period of it is looked for.
use Rattle.std.specs.Prelude.{ℕ, ◌≡◌, [], IfSome}
use Rattle.domain_run.specs.Domain.{Domain}
use Rattle.domain_run.specs.Happened.{logged_by_ticks}
use Rattle.domain_run.specs.Passing.{without_switches}
use Rattle.domain_run.specs.Sound.{IsDomain}
use Rattle.domain_run.specs.Tick.{ticks}
use Rattle.repeat_run.specs.Sight.{SightView, IsSightOf}
use Rattle.run_figures.specs.Accounting.{AccountingView, with_piece}
use Rattle.streamed_run.specs.declared.repeating.Trail.{Trail}
use Rattle.streamed_run.specs.Streamed.{IsStreamedUpTo}

-- this many ticks ago the domain was written down, and the accounting had counted this; since then
-- it streamed all
pub record IsTrail (since : ℕ) (sight : SightView) (counts : AccountingView) (d : Domain)
    (a : AccountingView) : Type 0 where
  pub start : Domain
  pub domain : IsDomain start
  pub forgotten : start.switches ≡ []
  pub written : IsSightOf sight start
  pub up_to : IsStreamedUpTo start [] counts
  pub there : d ≡ without_switches (ticks since start)
  pub streamed : a
      ≡ with_piece counts (logged_by_ticks since start) (ticks since start).switches

-- if anything is written down
abbrev pub KnowsTrail : Trail → Domain → AccountingView → Type 0
KnowsTrail t d a = IfSome t.counts (λ counts. IsTrail t.since t.sight counts d a)
