-- Running sums of a domain's tasks, and what they count (sched-deadline.rst, "Bandwidth
-- reclaiming").
use Rattle.std.specs.Prelude.{ℕ, ◌+◌, ◌-◌, ◌/◌, ◌<◌, ◌≤◌, ◌≡◌, true, false, if◌then◌else◌, List, length, slice_index, All, sum}
use Rattle.grub_rules.specs.Sums.{Share, total_bw, this_bw, running_bw}

-- for each CPU the bandwidth of its tasks and that of its active ones, and the bandwidth of all
-- tasks, in 1/2^20 of a CPU
pub record AccountsView : Type 0 where
  pub all : List ℕ
  pub active : List ℕ
  pub total : ℕ

-- what every value keeps: two sums for each CPU, the active one within the other, the total of all
-- CPUs, and what that is for each of them; and for both lists the room for so many that they were
-- opened with, so they take no more
pub record IsBalanced (accounts : AccountsView) (each all_capacity active_capacity : ℕ) : Type 0
  where
    pub cpus : length accounts.active ≡ length accounts.all
    pub within : (cpu : ℕ) → slice_index accounts.active cpu ≤ slice_index accounts.all cpu
    pub total : sum accounts.all ≡ accounts.total
    pub share : each ≡ accounts.total / length accounts.all
    pub all_room : all_capacity ≡ length accounts.all
    pub active_room : active_capacity ≡ length accounts.active

-- the sums count these shares and no others: each belongs to a CPU of the domain, and on every CPU
-- the sums are theirs
pub record AreAccounts (accounts : AccountsView) (shares : List Share) : Type 0 where
  pub homes : All (λ s. s.cpu < length accounts.all) shares
  pub all : (cpu : ℕ) → slice_index accounts.all cpu ≡ this_bw cpu shares
  pub active : (cpu : ℕ) → slice_index accounts.active cpu ≡ running_bw cpu shares
  pub total : accounts.total ≡ total_bw shares

-- what is inactive on a CPU
abbrev pub inactive_at : ℕ → AccountsView → ℕ
inactive_at cpu accounts = slice_index accounts.all cpu - slice_index accounts.active cpu

-- the sums have this share to give: it belongs to a CPU of the domain, which has so much bandwidth
-- of its kind, active or not
pub record Holds (accounts : AccountsView) (share : Share) : Type 0 where
  pub home : share.cpu < length accounts.all
  pub bw : share.bw
      ≤ (if share.active then slice_index accounts.active share.cpu
      else inactive_at share.cpu accounts)

-- an active and an inactive share of a CPU
abbrev pub active_share : ℕ → ℕ → Share
active_share cpu bw = record { cpu = cpu; bw = bw; active = true }

abbrev pub inactive_share : ℕ → ℕ → Share
inactive_share cpu bw = record { cpu = cpu; bw = bw; active = false }

-- the new sums are the old ones, less the shares that are gone, and with those that came. So they
-- count every list that the old ones counted, with those in the place of these (`exchanged` in
-- proofs/Exchanging.antt)
pub record Exchanges (old new : AccountsView) (gone came : List Share) : Type 0 where
  pub cpus : length new.all ≡ length old.all
  pub all : (cpu : ℕ)
      → slice_index new.all cpu + this_bw cpu gone ≡ slice_index old.all cpu + this_bw cpu came
  pub active : (cpu : ℕ)
      → slice_index new.active cpu + running_bw cpu gone
      ≡ slice_index old.active cpu + running_bw cpu came
  pub total : new.total + total_bw gone ≡ old.total + total_bw came
