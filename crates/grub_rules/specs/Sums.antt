-- The bandwidth of a CPU's tasks, and of those that are active (sched-deadline.rst, "Bandwidth
-- reclaiming").
use Rattle.std.specs.Prelude.{ℕ, ◌-◌, ◌==◌, ◌&&◌, List, filter, sum_by}
-- a task as the sums see it: the CPU to which it belongs, its bandwidth, and whether it contends or
-- has a zero-lag time ahead
pub use Rattle.grub_rules.specs.declared.share.Share.{Share}

-- all of a domain
abbrev pub total_bw : List Share → ℕ
total_bw shares = sum_by (λ s. s.bw) shares

abbrev pub this_bw : ℕ → List Share → ℕ
this_bw cpu shares = sum_by (λ s. s.bw) (filter (λ s. s.cpu == cpu) shares)

abbrev pub running_bw : ℕ → List Share → ℕ
running_bw cpu shares = sum_by (λ s. s.bw) (filter (λ s. s.cpu == cpu && s.active) shares)

-- what is inactive on a CPU
abbrev pub uinact : ℕ → List Share → ℕ
uinact cpu shares = this_bw cpu shares - running_bw cpu shares
