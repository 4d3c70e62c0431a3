-- What the calls of a reader or writer answered, one after the other.
use Rattle.std.specs.Prelude.{◌≡◌, ℕ, ◌-◌, ◌^◌, ◌<◌, ◌⊎◌, List, [], ◌∷◌, ◌++◌, length, All, Option, Some, None, IsSomeAnd, Result, Ok, Err}
use Rattle.std.specs.List.{sum_by}
use Rattle.counted_io.specs.declared.call.Call.{Call}
use Rattle.counted_io.specs.declared.fault.ReadFault.{ReadFault}
use Rattle.counted_io.specs.declared.fault.ReadFault.TheVariants.{Failed, Memory}

-- a call that moved some bytes, and how many
abbrev pub Moves : Call → Type 0
Moves call = IsSomeAnd call.answer (λ n. 0 < n)

abbrev pub moved_by : Option ℕ → ℕ
moved_by None = 0
moved_by (Some n) = n

abbrev pub bytes_moved : List Call → ℕ
bytes_moved calls = sum_by (λ c. moved_by c.answer) calls

-- what a write comes to: to take nothing is a fault too
abbrev pub IsTakenBy : Option ℕ → Option ℕ → Type 0
IsTakenBy answer (Some n) = answer ≡ Some n
IsTakenBy answer None = moved_by answer ≡ 0

-- all but the last moved bytes, and that is the one that tells the end, or failed
pub record EndsIn (calls : List Call) (answer : Option ℕ) : Type 0 where
  pub before : List Call
  pub last : Call
  pub whole : calls ≡ before ++ last ∷ []
  pub moves : All Moves before
  pub answered : last.answer ≡ answer

-- reads to the end: up to the one that tells it, or that fails, or 2^32 that did neither
abbrev pub IsReading : {T : Type 0} → List Call → Result T ReadFault → Type 0
IsReading calls (Ok bytes) = EndsIn calls (Some 0)
IsReading calls (Err Failed) = EndsIn calls None ⊎ (All Moves calls × (length calls ≡ 2 ^ 32))
IsReading calls (Err Memory) = All Moves calls × (0 < length calls)

-- each is asked to take all that is left of so many bytes
abbrev pub AskForTheRest : ℕ → List Call → Type 0
AskForTheRest n [] = Unit {0}
AskForTheRest n (call ∷ calls) =
    (call.most ≡ n) × AskForTheRest (n - moved_by call.answer) calls

-- writes of so many bytes, of which so many were taken
pub record IsWriting (n at : ℕ) (calls : List Call) : Type 0 where
  pub moves : All Moves calls
  pub taken : bytes_moved calls ≡ at
  pub asked : AskForTheRest n calls

-- and one more, which took nothing
pub record IsStoppedWriting (n at : ℕ) (calls : List Call) : Type 0 where
  pub before : List Call
  pub last : Call
  pub whole : calls ≡ before ++ last ∷ []
  pub written : IsWriting n at before
  pub asked : last.most ≡ n - at
  pub refused : moved_by last.answer ≡ 0

abbrev pub IsWrittenBy : ℕ → List Call → Result Unit ℕ → Type 0
IsWrittenBy n calls (Ok done) = IsWriting n n calls
IsWrittenBy n calls (Err at) = IsStoppedWriting n at calls
