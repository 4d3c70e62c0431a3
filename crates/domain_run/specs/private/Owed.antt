-- Charges that wait: what a running task owes follows from its open charge, for the code's own
-- contracts.
use Rattle.std.specs.Prelude.{ℕ, pos, ◌-◌, ◌*◌, ◌^◌, ◌<◌, ◌≤◌, ◌<ℤ◌, ◌≤ℤ◌, ◌-ℤ◌, ◌≡◌, ◌≢◌, ◌==◌, true, if◌then◌else◌, List, map, All, slice_index_or, Option, Some, None, IfSome, IsSomeAnd, IsTrue}
use Rattle.cbs_rules.specs.Serving.{charged}
use Rattle.domain_run.specs.declared.task.Task.{Task}
use Rattle.due_times.specs.declared.charges.OpenCharge.{OpenCharge}
use Rattle.due_times.specs.declared.charges.Basis.{Basis}
use Rattle.due_times.specs.declared.charges.Claim.{Claim}
use Rattle.grub_rules.specs.Rate as reclaiming
use Rattle.domain_run.specs.declared.running.Running.{Running}
use Rattle.edf_pick.specs.Places.{Places}
use Rattle.domain_run.specs.Conditions.{is_ready}
use Rattle.domain_run.specs.Sound.{occupant}
use Rattle.domain_run.specs.private.Paying.{ran_until}
use Rattle.due_times.specs.OpenCharges.{OpenChargesView, charge_by, without_charge}

-- the open charge of a task: that of the CPU to which it belongs, where it is the task's
abbrev pub charge_of_task : List (Option OpenCharge) → Task → Option OpenCharge
charge_of_task charges t = charge_by t.number (slice_index_or charges t.cpu None)

-- without that of a task
abbrev pub charges_without : Task → List (Option OpenCharge) → List (Option OpenCharge)
charges_without t charges = without_charge t.cpu t.number charges

-- a task that ran for so many ticks at a rate, in which neither its work nor its budget ended
abbrev pub slid_for : ℕ → ℕ → Task → Task
slid_for ticks rate t = record t { server = charged rate ticks t.server; work = t.work - ticks }

-- a task with what it owes charged, up to a time
abbrev pub owed_by : ℕ → Option OpenCharge → Task → Task
owed_by upto None t = t
owed_by upto (Some s) t = slid_for (upto - s.since) s.rate t

abbrev pub owed : ℕ → List (Option OpenCharge) → Task → Task
owed upto charges t = owed_by upto (charge_of_task charges t) t

-- a task charged by the open charge of a CPU, where it belongs to that
abbrev pub charged_on : ℕ → ℕ → OpenCharge → Task → Task
charged_on cpu upto s t = if t.cpu == cpu then owed_by upto (Some s) t else t

abbrev pub owed_all : OpenChargesView → List Task → List Task
owed_all s tasks = map (owed s.upto s.charges) tasks

-- the rate of a task on a basis
abbrev pub rate_by : Basis → Task → ℕ
rate_by b t = reclaiming.rate_on t.params b.uinact b.share b.limit

-- a rate is that of a task that reclaims, on each basis on which the task has this claim
pub record IsClaimed (k : Claim) (rate : ℕ) (t : Task) : Type 0 where
  pub reclaims : t.params.reclaim ≡ true
  pub bw : k.bw ≡ t.params.bw
  pub is : rate ≡ reclaiming.rate_charged k.charged k.limit

-- a rate is that of a task by a claim that is kept; on every basis, where none is
abbrev pub IsRatedBy : Option Claim → ℕ → Task → Type 0
IsRatedBy None rate t = (b : Basis) → rate ≡ rate_by b t
IsRatedBy (Some k) rate t = IsClaimed k rate t

-- the task of an open charge: it is ready, the open charge has its rate, and neither its work nor
-- its budget ends before the open charge does; its budget is in range
pub record IsOpen (s : OpenCharge) (t : Task) : Type 0 where
  pub ready : IsTrue (is_ready t.condition)
  pub worked : s.end - s.since ≤ t.work
  pub lasted : pos (s.rate * (s.end - s.since - 1)) <ℤ t.server.left
  pub high : t.server.left ≤ℤ pos (2 ^ 52)
  pub turns : 0 < s.rate
  pub rated : IsRatedBy s.claim s.rate t

abbrev pub IsOpenIf : List (Option OpenCharge) → Task → Type 0
IsOpenIf charges t = IfSome (charge_of_task charges t) (λ s. IsOpen s t)

abbrev pub AreOpen : List (Option OpenCharge) → List Task → Type 0
AreOpen charges tasks = All (IsOpenIf charges) tasks

-- a task as a jump sees it, where its CPU has so much inactive bandwidth
abbrev pub runner_of : ℕ → Task → Running
runner_of uinact t =
    record {
      number = t.number;
      params = t.params;
      uinact = uinact;
      left = t.server.left;
      work = t.work;
    }

-- ---- whose charge is to open, and time that goes on

-- a task that may get an open charge: it is ready, and has budget and work left
pub record MayStart (t : Task) : Type 0 where
  pub ready : IsTrue (is_ready t.condition)
  pub busy : 0 < t.work
  pub lifted : pos 0 <ℤ t.server.left
  pub high : t.server.left ≤ℤ pos (2 ^ 52)

-- a task that may get an open charge once it is ready
abbrev pub MayStartIfReady : Task → Type 0
MayStartIfReady t = IsTrue (is_ready t.condition) → MayStart t

-- the task of a number may get an open charge
abbrev pub MayStartOf : List Task → ℕ → Type 0
MayStartOf tasks n = All (λ t. t.number ≡ n → MayStart t) tasks

-- an open charge at a rate
abbrev pub IsAtRate : ℕ → Option OpenCharge → Type 0
IsAtRate rate o = IsSomeAnd o (λ s. s.rate ≡ rate)

-- the occupant of a CPU has an open charge there at its rate, and no other task has one
abbrev pub IsRight : Option ℕ → ℕ → ℕ → Option OpenCharge → Type 0
IsRight None number rate o = o ≡ None
IsRight (Some n) number rate o = (n ≡ number → IsAtRate rate o) × (n ≢ number → o ≡ None)

-- neither its work nor its budget ends before the last of so many ticks at a rate
pub record Lasts (ticks rate : ℕ) (t : Task) : Type 0 where
  pub ready : IsTrue (is_ready t.condition)
  pub worked : ticks ≤ t.work
  pub lasted : pos (rate * (ticks - 1)) <ℤ t.server.left

-- a task once so many ticks have passed, up to a time
abbrev pub passed_by : ℕ → ℕ → Option OpenCharge → Task → Task
passed_by time ticks None t = t
passed_by time ticks (Some s) t = ran_until time ticks (t.server.left -ℤ pos (s.rate * ticks)) t

abbrev pub time_passed : ℕ → ℕ → List (Option OpenCharge) → Task → Task
time_passed time ticks charges t = passed_by time ticks (charge_of_task charges t) t

-- the task that runs on a CPU may have an open charge there
abbrev pub MayStartOn : Places → List Task → Type 0
MayStartOn places tasks =
    (cpu n : ℕ) → occupant places cpu ≡ Some n
    → All (λ t. t.number ≡ n → (t.cpu ≡ cpu) × MayStart t) tasks
