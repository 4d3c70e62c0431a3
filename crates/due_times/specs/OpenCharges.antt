-- Who runs since when, for the code's own contracts.
use Rattle.std.specs.Prelude.{ℕ, ◌-◌, ◌^◌, ◌<◌, ◌≤◌, ◌≡◌, ◌==◌, max, if◌then◌else◌, List, length, map, All, slice_index_or, slice_set, Option, Some, None, IfSome}
use Rattle.due_times.specs.declared.charges.Basis.{Basis}
use Rattle.due_times.specs.declared.charges.Claim.{Claim}
use Rattle.due_times.specs.declared.charges.OpenCharge.{OpenCharge}

-- the time up to which all have run, and the open charge of each CPU
pub record OpenChargesView : Type 0 where
  pub upto : ℕ
  pub charges : List (Option OpenCharge)

-- the last number means a time that never comes
abbrev pub end_of : Option OpenCharge → ℕ
end_of None = 2 ^ 64 - 1
end_of (Some s) = s.end

-- a claim is that of its task on a basis: the tasks of the domain have so much of each CPU, and so
-- much of that is inactive on its own
pub record IsOn (b : Basis) (k : Claim) : Type 0 where
  pub charged : k.charged ≡ max k.bw (b.share - b.uinact)
  pub limit : k.limit ≡ b.limit

-- an open charge has begun and ends later, and no product of its rate is out of range
pub record IsAhead (upto : ℕ) (s : OpenCharge) : Type 0 where
  pub since : s.since ≤ upto
  pub ahead : upto < s.end
  pub soon : s.end ≤ 2 ^ 63
  pub slow : s.rate ≤ 2 ^ 27

-- an open charge that ends at another time
abbrev pub ending_at : ℕ → OpenCharge → OpenCharge
ending_at end s = record s { end = end }

-- what open charges keep: none has ended, the timers have when each does, and there is room for an
-- open charge of each CPU and no more, so they take no more
pub record AreCharges (upto : ℕ) (charges : List (Option OpenCharge)) (ends : List ℕ) (capacity : ℕ)
    : Type 0 where
  pub early : upto ≤ 2 ^ 62
  pub few : length charges ≤ 64
  pub ahead : All (λ o. IfSome o (IsAhead upto)) charges
  pub ends_are : ends ≡ map end_of charges
  pub room : capacity ≡ length charges

-- an open charge, where it is that of a number
abbrev pub charge_by : ℕ → Option OpenCharge → Option OpenCharge
charge_by number None = None
charge_by number (Some s) = if s.number == number then Some s else None

-- the open charges without that of a number on a CPU
abbrev pub left_if : ℕ → List (Option OpenCharge) → Option OpenCharge → List (Option OpenCharge)
left_if cpu charges None = charges
left_if cpu charges (Some s) = slice_set charges cpu None

abbrev pub without_charge : ℕ → ℕ → List (Option OpenCharge) → List (Option OpenCharge)
without_charge cpu number charges = left_if cpu charges
    (charge_by number (slice_index_or charges cpu None))
