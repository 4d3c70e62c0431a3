-- Who the listed tasks are and what bandwidth each has, and what time leaves of this list (own).
use Rattle.std.specs.Prelude.{ℕ, ◌≡◌, ◌==◌, Bool, if◌then◌else◌, List, map, filter}
use Rattle.std.specs.List.{list_any}
use Rattle.domain_run.specs.declared.task.Task.{Task}

-- a task's number and its bandwidth
abbrev pub key_of : Task → ℕ × ℕ
key_of t = (t.number, t.params.bw)

-- those of the listed tasks, in the order of the list
abbrev pub keys : List Task → List (ℕ × ℕ)
keys tasks = map key_of tasks

-- a task of this number is listed
abbrev pub has_task : List Task → ℕ → Bool
has_task tasks number = list_any (λ t. t.number == number) tasks

-- what is left of some keys: those whose tasks are listed still, in their order
abbrev pub listed_keys : List (ℕ × ℕ) → List Task → List (ℕ × ℕ)
listed_keys ks tasks = filter (λ k. has_task tasks k.0) ks

-- KEPT KEYS: tasks may have gone off the list; nobody has come, no bandwidth has changed, and the
-- order is the same
abbrev pub AreKept : List Task → List Task → Type 0
AreKept before after = keys after ≡ listed_keys (keys before) after

-- a key with another bandwidth, where it is that of a number
abbrev pub key_with_bw : ℕ → ℕ → ℕ × ℕ → ℕ × ℕ
key_with_bw number bw k = if k.0 == number then (k.0, bw) else k
