-- A domain with what it logged and nobody forgot yet, and which of what it logs is logged by a time
-- (own).
use Rattle.std.specs.Prelude.{ℕ, ◌≡◌, ◌≢◌, ◌<◌, ◌⊎◌, List}
use Rattle.domain_run.specs.declared.happened.Happened.{Happened}
use Rattle.domain_run.specs.Domain.{Domain}
use Rattle.domain_run.specs.Happened.{kind_rank}

pub record LoggedRunView : Type 0 where
  pub domain : Domain
  pub logged : List Happened

-- no cut; and of an earlier time, or at the end of a tick that ends then
pub record IsLoggedUntil (time : ℕ) (h : Happened) : Type 0 where
  pub shown : kind_rank h.what ≢ 3
  pub past : (h.time < time) ⊎ ((h.time ≡ time) × (kind_rank h.what < 3))

-- no cut; and of a later time, or at the beginning of a tick that begins then
pub record IsLoggedFrom (time : ℕ) (h : Happened) : Type 0 where
  pub shown : kind_rank h.what ≢ 3
  pub later : (time < h.time) ⊎ ((h.time ≡ time) × (3 < kind_rank h.what))
