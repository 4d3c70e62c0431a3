-- The names of a domain's tasks.
use Rattle.std.specs.Prelude.{ℕ, ◌≡◌, ◌<◌, ◌≤◌, ◌^◌, ◌+◌, List, [], length, nat_eq, IfSome}
use Rattle.std.specs.Option.{option_map_or}
use Rattle.std.specs.String.{string_bytes}
use Rattle.std.specs.declared.string.String.{String}
use Rattle.std.specs.Global.{Global}
use Rattle.std.specs.declared.hash.FoldHasher.{FoldHasher}
use Rattle.std.specs.declared.hash.BuildHasherDefault.{BuildHasherDefault}
use Rattle.indexmap.specs.IndexMap.{IndexMap, get}
use Rattle.domain_run.specs.Switch.{Switch}
use Rattle.limits.specs.Limits.{clock_end}

-- names by the tasks' numbers
abbrev pub Names : Type 0
Names = IndexMap ℕ (String Global) (BuildHasherDefault FoldHasher)

-- the name of a number
abbrev pub name_of_task : Names → ℕ → List ℕ
name_of_task names number = option_map_or string_bytes (get nat_eq names number) []

-- a name of 1 to 15 bytes stands at the number (the kernel's comm has at most 15)
pub record HasName (names : Names) (number : ℕ) : Type 0 where
  pub some : 0 < length (name_of_task names number)
  pub most : length (name_of_task names number) ≤ 15

-- what has a line: a time below 2^42, a CPU of the machine below 512, and names for who leaves and
-- who comes
pub record HasLine (names : Names) (base : ℕ) (s : Switch) : Type 0 where
  pub time : s.time < clock_end
  pub cpu : base + s.cpu < 512
  pub prev : IfSome s.prev (HasName names)
  pub next : IfSome s.next (HasName names)

-- two ways to name tasks agree on who leaves and who comes
pub record SameNames (f g : ℕ → List ℕ) (s : Switch) : Type 0 where
  pub prev : IfSome s.prev (λ n. f n ≡ g n)
  pub next : IfSome s.next (λ n. f n ≡ g n)
