-- Where a number stands in a list.
use Rattle.std.specs.Prelude.{ℕ, ◌≡◌, ◌≢◌, ◌-◌, ◌<◌, ◌≤◌, ◌==◌, if◌then◌else◌, List, length, slice_index, slice_index_or, All, AllPairs}
use Rattle.limits.specs.Limits.{task_number_end}

-- a place of a number
pub record IsAt (numbers : List ℕ) (n place : ℕ) : Type 0 where
  pub within : place < length numbers
  pub is : (d : ℕ) → slice_index_or numbers place d ≡ n

-- it has none
abbrev pub IsAbsent : List ℕ → ℕ → Type 0
IsAbsent numbers n = (k d : ℕ) → k < length numbers → slice_index_or numbers k d ≢ n

-- the code of a number below 65536 is 0, or its place and one; it is not 0 for the first so many
pub record IsIndex (numbers : List ℕ) (seen : ℕ) (codes : List ℕ) : Type 0 where
  pub wide : length codes ≡ task_number_end
  pub short : (n : ℕ) → n < task_number_end → slice_index codes n ≤ seen
  pub found : (n : ℕ) → n < task_number_end → slice_index codes n ≢ 0
      → slice_index numbers (slice_index codes n - 1) ≡ n
  pub listed : (k : ℕ) → k < seen → slice_index codes (slice_index numbers k) ≢ 0

-- numbers below 65536 that stand once each, and their index
pub record AreIndexed (numbers codes : List ℕ) : Type 0 where
  pub index : IsIndex numbers (length numbers) codes
  pub small : All (λ n. n < task_number_end) numbers
  pub apart : AllPairs (λ a b. a ≢ b) numbers

-- a change of the element of this number alone
abbrev pub if_number : {X : Type 0} → (X → ℕ) → ℕ → (X → X) → X → X
if_number number n f x = if number x == n then f x else x
