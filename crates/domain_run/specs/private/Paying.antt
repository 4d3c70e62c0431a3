-- What many ticks at once do to each task, for the code's own contracts.
use Rattle.std.specs.Prelude.{ℕ, ℤ, pos, neg_ℤ, ◌-◌, ◌^◌, ◌<◌, ◌≤◌, ◌≤ℤ◌, ◌==◌, List, length, position, slice_index_or, Option, Some, None, IsTrue, IfSome}
use Rattle.domain_run.specs.declared.task.Task.{Task}
use Rattle.domain_run.specs.Conditions.{is_ready}
use Rattle.domain_run.specs.Parts.{after_charge}

-- a task that ran for so many ticks until a time, with what they left of its budget
abbrev pub ran_until : ℕ → ℕ → ℤ → Task → Task
ran_until time ticks left t =
    after_charge time (record t { server = record t.server { left = left }; work = t.work - ticks })

-- which of the running tasks a task is
abbrev pub index_of : List ℕ → Task → Option ℕ
index_of running t = position (λ n. n == t.number) running

abbrev pub paid_at : ℕ → ℕ → List ℤ → Option ℕ → Task → Task
paid_at time ticks budgets None t = t
paid_at time ticks budgets (Some i) t = ran_until time ticks (slice_index_or budgets i (pos 0)) t

abbrev pub paid : ℕ → List ℕ → ℕ → List ℤ → Task → Task
paid time running ticks budgets t = paid_at time ticks budgets (index_of running t) t

-- what one that runs on a CPU needs
pub record MayPay (ticks : ℕ) (budgets : List ℤ) (t : Task) (i : ℕ) : Type 0 where
  pub ready : IsTrue (is_ready t.condition)
  pub within : i < length budgets
  pub worked : ticks ≤ t.work
  -- the rate of a task of at most one CPU is at most 2^32
  pub low : t.params.bw ≤ 2 ^ 20 → neg_ℤ (pos (2 ^ 32)) ≤ℤ slice_index_or budgets i (pos 0)
  pub high : slice_index_or budgets i (pos 0) ≤ℤ pos (2 ^ 52)

abbrev pub MayPayIf : List ℕ → ℕ → List ℤ → Task → Type 0
MayPayIf running ticks budgets t = IfSome (index_of running t) (MayPay ticks budgets t)
