-- What a task and a domain keep from tick to tick.
use Rattle.std.proofs.Common.{◌≡◌, ℕ, ◌*◌, ◌<◌, ◌≤◌, false, length}
use Rattle.std.specs.Prelude.{ℤ, pos, negsuc, All, IsTrue, IsSome, sum_by}
use Rattle.attr_check.specs.ParamsView.{ParamsView}
use Rattle.cbs_rules.specs.Budget.{budget, above_zero}
use Rattle.domain_run.specs.declared.task.Task.{Task}
use Rattle.domain_run.specs.Conditions.{is_ready, is_contending, is_throttled, has_come}
use Rattle.domain_run.specs.Domain.{Domain}
use Rattle.domain_run.proofs.CallerLemmas.{AreNumbered}
use Rattle.deadline_promise.specs.Reach.{share_up, IsUncrowded}
use Rattle.limits.specs.Limits.{unit}

-- its share covers its budget, its deadline is its period, it does not reclaim
pub record IsShare (p : ParamsView) : Type 0 where
  pub some : 0 < p.period
  pub some_budget : 0 < p.runtime
  pub covers : budget p ≤ share_up p * p.period
  pub whole_period : p.deadline ≡ p.period
  pub plain : p.reclaim ≡ false

-- what is left is so many whole units, at most a whole budget
abbrev pub IsWhole : ParamsView → ℤ → Type 0
IsWhole p (pos n) = (m : ℕ) × (n ≡ m * unit) × (m ≤ p.runtime)
IsWhole p (negsuc n) = ⊥

pub record IsPaced (t : Task) : Type 0 where
  pub share : IsShare t.params
  pub whole : IsWhole t.params t.server.left
  pub dated : IsTrue (is_contending t.condition) → IsSome t.server.deadline

-- ready with something left, throttled with nothing
pub record IsFit (t : Task) : Type 0 where
  pub lifted : IsTrue (is_ready t.condition) → 0 < above_zero t.server.left
  pub spent : IsTrue (is_throttled t.condition) → above_zero t.server.left ≡ 0

-- and, after part 3, throttled until a deadline that is to come
pub record IsSet (time : ℕ) (t : Task) : Type 0 where
  pub fit : IsFit t
  pub ahead : IsTrue (is_throttled t.condition) → has_come time t.server.deadline ≡ false

-- a domain of one CPU, whose shares sum to no more than it
pub record IsCalm (d : Domain) : Type 0 where
  pub one : d.cpus ≡ 1
  pub wide : length d.curr ≡ 1
  pub numbered : AreNumbered d.tasks
  pub paced : All IsPaced d.tasks
  pub fit : All IsFit d.tasks
  pub shares : sum_by (λ (t : Task). share_up t.params) d.tasks ≤ unit
  pub room : IsUncrowded d
