-- The clients that a session hands out (own).
use Rattle.std.specs.Prelude.{◌≡◌, ◌≢◌, ℕ, ◌-◌, ◌<◌, Bool, true, false, List, [], replicate, length, set, slice_get, Option, Some, None}
use Rattle.session.specs.SessionId.{SessionId}
use Rattle.session.specs.Asks.{ClientView}

-- a client that has entered nothing
pub record IsNew (id : SessionId) (number : ℕ) (c : ClientView) : Type 0 where
  pub numbered : c.number ≡ number
  pub passes : c.passes ≡ replicate (length id.cpu_sets) []

-- whether the clients 1, 2, .. wait, before and after one was asked for. One that waits is handed
-- out, and is new; one that does not is not, and nothing changes
pub record IsGivenOut (id : SessionId) (waiting left : List Bool) (number : ℕ)
    (c : ClientView) : Type 0 where
  pub some : 0 < number
  pub waits : slice_get waiting (number - 1) ≡ Some true
  pub others : left ≡ set waiting (number - 1) false
  pub new : IsNew id number c

pub record IsNotThere (waiting left : List Bool) (number : ℕ) : Type 0 where
  pub absent : 0 < number → slice_get waiting (number - 1) ≢ Some true
  pub same : left ≡ waiting

abbrev pub IsHandedOut : SessionId → List Bool → List Bool → ℕ → Option ClientView → Type 0
IsHandedOut id waiting left number None = IsNotThere waiting left number
IsHandedOut id waiting left number (Some c) = IsGivenOut id waiting left number c
