-- Which CPUs have open charges that are known to be right, for the code's own contracts.
use Rattle.std.specs.Prelude.{ℕ, ◌/◌, ◌<◌, ◌≡◌, ◌≢◌, ◌⊎◌, List, All, slice_index_or, Option, Some, None, IfSome, IsSomeAnd}
use Rattle.std.specs.Int.{bit_at}
use Rattle.grub_rules.specs.Sums.{uinact}
use Rattle.edf_pick.specs.declared.moves.Moved.{Moved}
use Rattle.edf_pick.specs.Places.{Places}
use Rattle.due_times.specs.declared.stale.StaleCharges.{StaleCharges}
use Rattle.due_times.specs.declared.charges.OpenCharge.{OpenCharge}
use Rattle.due_times.specs.declared.charges.Basis.{Basis}
use Rattle.due_times.specs.OpenCharges.{IsOn}
use Rattle.domain_run.specs.declared.task.Task.{Task}
use Rattle.domain_run.specs.Sound.{occupant}
use Rattle.domain_run.specs.Tick.{shares}

-- the task that runs on a CPU has an open charge there, at a rate that it has on this basis, and no
-- other task has one
abbrev pub IsSettled : Option ℕ → Basis → Option OpenCharge → Type 0
IsSettled None basis o = o ≡ None
IsSettled (Some n) basis o = IsSomeAnd o (λ s. (s.number ≡ n) × IfSome s.claim (IsOn basis))

-- what the rates of the tasks of a CPU depend on, with the sum and the limit that are noted
abbrev pub noted_basis : StaleCharges → ℕ → List Task → ℕ → Basis
noted_basis d cpus tasks cpu = record {
  uinact = uinact cpu (shares tasks);
  share = d.sum / cpus;
  limit = d.limit;
}

-- where its CPU has no mark, an open charge keeps nothing of what its rate was worked out from
abbrev pub IsFree : ℕ → Option OpenCharge → Type 0
IsFree mark o = mark ≡ 0 → IfSome o (λ s. s.claim ≡ None)

-- a CPU is stale, or the running task has the right open charge there
abbrev pub IsTrusted : StaleCharges → ℕ → Option ℕ → List (Option OpenCharge) → List Task → ℕ
    → Type 0
IsTrusted d cpus o charges tasks cpu =
    cpu < 64 → bit_at d.cpus cpu ≡ 0
    → IsSettled o (noted_basis d cpus tasks cpu) (slice_index_or charges cpu None)
    × IsFree (bit_at d.rated cpu) (slice_index_or charges cpu None)

-- so it is on each CPU
abbrev pub AreSettled : StaleCharges → ℕ → Places → List (Option OpenCharge) → List Task → Type 0
AreSettled d cpus places charges tasks =
    (cpu : ℕ) → IsTrusted d cpus (occupant places cpu) charges tasks cpu

-- so it is on each CPU but for those that a choice has given to another one
abbrev pub AreSettledBut : List Moved → StaleCharges → ℕ → Places → List (Option OpenCharge)
    → List Task
    → Type 0
AreSettledBut moves d cpus places charges tasks =
    (cpu : ℕ) → All (λ m. m.cpu ≢ cpu) moves
    → IsTrusted d cpus (occupant places cpu) charges tasks cpu

-- who was trusted on another CPU still is
abbrev pub StaysFresh : ℕ → ℕ → StaleCharges → List (Option OpenCharge) → List Task → StaleCharges
    → List (Option OpenCharge)
    → List Task → Type 0
StaysFresh cpus cpu old before was new after now =
    (i : ℕ) → (o : Option ℕ) → i ≢ cpu → IsTrusted old cpus o before was i
    → IsTrusted new cpus o after now i

-- marks have come, and none has gone; on a CPU without one the open charge has not changed, nor the
-- inactive bandwidth, if the open charge keeps what its rate was worked out from
pub record IsMarked (rated old new : ℕ) (before after : List (Option OpenCharge))
    (was now : List Task)
    : Type 0 where
  pub bare : (cpu : ℕ) → bit_at new cpu ≡ 0 → bit_at old cpu ≡ 0
  pub charges : (cpu : ℕ) → cpu < 64 → bit_at new cpu ≡ 0
      → slice_index_or after cpu None ≡ slice_index_or before cpu None
  pub sums : (cpu : ℕ) → cpu < 64 → bit_at new cpu ≡ 0
      → (uinact cpu (shares now) ≡ uinact cpu (shares was)) ⊎ (bit_at rated cpu ≡ 0)
