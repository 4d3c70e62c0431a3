-- What the words of `compare` mean: of the name of a file or an option, clap finds a text, or none.
use Rattle.std.specs.Prelude.{◌≡◌, ◌≢◌, ◌≤◌, ◌^◌, ◌≤ℤ◌, ◌&&◌, ℕ, ℤ, pos, neg_ℤ, Bool, true, false, FitsSigned, IsTrue, List, Option, Some, None, IfSome, codes, min, option_map, string_bytes, unwrap_or}
use Rattle.std.specs.Str.Parse.{IsNumeral, signed_digits_value, without_leading_sign}
use Rattle.std.specs.Int.{w64}
use Rattle.clap.specs.Words.{Row, one_of}
use Rattle.command_line.specs.Found.{IsFlagAt, IsReadAt, IsTextAt}
use Rattle.compare_report.specs.declared.options.CompareOptions.{CompareOptions}
use Rattle.command_line.specs.declared.comparison.Comparison.{Comparison}
use Rattle.command_line.specs.declared.comparison.Source.{Source}
use Rattle.command_line.specs.declared.comparison.Source.TheVariants.{Stdin, File}

-- `-` is standard input, any other text the name of a file
abbrev pub IsSource : List ℕ → Source → Type 0
IsSource text Stdin = text ≡ codes "-"
IsSource text (File name) = (text ≢ codes "-") × (string_bytes name ≡ text)

-- the source at a name; where there is no text, the file of the empty name
pub record IsSourceAt (rows : List Row) (name : List ℕ) (source : Source) : Type 0 where
  pub text : List ℕ
  pub at : IsTextAt rows name text
  pub is : IsSource text source

-- at most 10^9
abbrev pub cut : ℕ → ℕ
cut n = min n 1000000000

-- a time in microseconds, cut; 1000 where there is none
abbrev pub IsTimeAt : List Row → List ℕ → ℕ → Type 0
IsTimeAt rows name n =
    (o : Option ℕ) × IsReadAt rows name o × (n ≡ cut (unwrap_or o 1000))

-- the same, and none where there is none
abbrev pub IsOptionalAt : List Row → List ℕ → Option ℕ → Type 0
IsOptionalAt rows name n = (o : Option ℕ) × IsReadAt rows name o × (n ≡ option_map cut o)

-- at most 100
abbrev pub in_hundred : ℕ → ℕ
in_hundred n = min n 100

-- so many per cent, and none where there is none
abbrev pub IsPercentAt : List Row → List ℕ → Option ℕ → Type 0
IsPercentAt rows name n = (o : Option ℕ) × IsReadAt rows name o × (n ≡ option_map in_hundred o)

-- how far two clocks may be said to be apart
abbrev pub IsShiftWord : ℤ → Type 0
IsShiftWord us = (neg_ℤ (pos (2 ^ 60)) ≤ℤ us) × (us ≤ℤ pos (2 ^ 60))

-- the text is a sign, where it has one, and decimal digits that write the number, which fits 64
-- bits
pub record SpellsSigned (text : List ℕ) (number : ℤ) : Type 0 where
  pub digits : IsNumeral 10 (without_leading_sign text)
  pub value : signed_digits_value 10 text ≡ number
  pub small : FitsSigned w64 number

-- as above, of a number with a sign
pub record IsSignedAt (rows : List Row) (name : List ℕ) (o : Option ℤ) : Type 0 where
  pub absent : one_of name rows ≡ None → o ≡ None
  pub spelled : (text : List ℕ) (v : ℤ) → one_of name rows ≡ Some text → SpellsSigned text v
      → o ≡ Some v
  pub other : (text : List ℕ) → one_of name rows ≡ Some text → ((v : ℤ) → SpellsSigned text v → ⊥)
      → o ≡ None

-- a shift: the number at the option, where it is within its limits
pub record IsShiftAt (rows : List Row) (name : List ℕ) (shift : Option ℤ) : Type 0 where
  pub read : Option ℤ
  pub at : IsSignedAt rows name read
  pub none : read ≡ None → shift ≡ None
  pub some : (v : ℤ) → read ≡ Some v → IsShiftWord v → shift ≡ Some v

-- the numbers are within their limits
pub record AreFit (o : CompareOptions) : Type 0 where
  pub within : o.within ≤ 1000000000
  pub noise : IfSome o.noise (λ us. us ≤ 1000000000)
  pub shift : IfSome o.shift IsShiftWord

-- each number, and the flag, is that of its own name
pub record AreOptionsAt (rows : List Row) (o : CompareOptions) : Type 0 where
  pub within : IsTimeAt rows (codes "within") o.within
  pub noise : IsOptionalAt rows (codes "noise") o.noise
  pub shift : IsShiftAt rows (codes "shift") o.shift
  pub cpus : IsFlagAt rows (codes "cpus") o.cpus

-- and so are each file and the share of the runs that has to match
pub record IsComparisonAt (rows : List Row) (c : Comparison) : Type 0 where
  pub model : IsSourceAt rows (codes "MODEL") c.model
  pub recorded : IsSourceAt rows (codes "RECORDED") c.recorded
  pub options : AreOptionsAt rows c.options
  pub fail_under : IsPercentAt rows (codes "fail-under") c.fail_under

-- standard input is for one of the two
abbrev pub is_stdin : Source → Bool
is_stdin Stdin = true
is_stdin (File name) = false

abbrev pub shares_stdin : Comparison → Bool
shares_stdin c = is_stdin c.model && is_stdin c.recorded

-- the words ask for a comparison of standard input with itself
pub record IsWithItself (rows : List Row) : Type 0 where
  pub comparison : Comparison
  pub found : IsComparisonAt rows comparison
  pub shares : IsTrue (shares_stdin comparison)
