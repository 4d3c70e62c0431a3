-- A bandwidth word carries its cap and what is used of it (own): cap * 2^32 + used, both at most
-- 2^26.
use Rattle.std.specs.Prelude.{ℕ, ◌≡◌, ◌≤◌, ◌+◌, ◌*◌, ◌/◌, ◌%◌, ◌^◌}
use Rattle.bw_gate.specs.declared.terms.Room.{Room}
use Rattle.limits.specs.Limits.{unit, least_limit}

-- what is used, and the cap that the word carries
abbrev pub used_of : ℕ → ℕ
used_of word = word % 2 ^ 32

abbrev pub cap_of : ℕ → ℕ
cap_of word = word / 2 ^ 32

-- the word that carries a cap and what is used of it
abbrev pub word_of : ℕ → ℕ → ℕ
word_of cap used = cap * 2 ^ 32 + used

-- a limit: what each CPU of a domain gives to its tasks, in 1/2^20 of a CPU. It is the ratio of
-- sched_rt_runtime_us to sched_rt_period_us (sched-deadline.rst, "System wide settings"); the least
-- is our own, a hundredth of a CPU
pub record IsLimit (limit : ℕ) : Type 0 where
  pub least : least_limit ≤ limit
  pub most : limit ≤ unit

-- a cap that so many CPUs can have: so many times some limit
pub record IsCap (cpus cap : ℕ) : Type 0 where
  pub limit : ℕ
  pub a_limit : IsLimit limit
  pub product : cap ≡ cpus * limit

-- the word that a domain is opened with, of which nothing is used
abbrev pub first_word : Room → ℕ
first_word room = room.cpus * room.limit * 2 ^ 32

-- a word of a domain of so many CPUs: what is used is at most the cap that it carries, which these
-- CPUs can have
pub record IsWord (cpus word : ℕ) : Type 0 where
  pub within : used_of word ≤ cap_of word
  pub cap : IsCap cpus (cap_of word)
