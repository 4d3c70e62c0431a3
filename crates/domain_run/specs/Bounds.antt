-- What the machine's numbers need: ranges in which 64 bits, and 128 for a budget, hold every number
-- that is formed. No rule of a domain speaks of them; a domain keeps them by itself.
use Rattle.std.specs.Prelude.{ℕ, ◌≤◌, ◌<◌, ◌^◌, ◌+◌, ◌≤ℤ◌, pos, neg_ℤ, IfSome}
use Rattle.cbs_rules.specs.declared.server.Server.{Server}
use Rattle.limits.specs.Limits.{clock_end}

-- a domain's time: 50 days, which is more than 65536 calls of 60000000 ticks
abbrev pub IsEarly : ℕ → Type 0
IsEarly time = time ≤ clock_end

-- a deadline: a budget of at least -2^32 is above 0 after 2^12 + 1 postponements of at least 2^20,
-- each of at most 2^32 us
abbrev pub IsNear : ℕ → ℕ → Type 0
IsNear time deadline = deadline ≤ time + 2 ^ 45

-- a time at which a script is asked again: it is asked before 2^48, and its times are below 2^30
abbrev pub IsSoon : ℕ → Type 0
IsSoon time = time < 2 ^ 49

-- a server. What is left was above 0 before a tick took at most 2^32 of it, and is at most one
-- budget: 2^32 us of 2^20 each
pub record IsServed (time : ℕ) (s : Server) : Type 0 where
  pub near : IfSome s.deadline (IsNear time)
  pub low : neg_ℤ (pos (2 ^ 32)) ≤ℤ s.left
  pub high : s.left ≤ℤ pos (2 ^ 52)
