-- How far a recording has been read. No public clause names it.
use Rattle.std.specs.Prelude.{◌≡◌, ℕ, true, false, List, [], ◌∷◌, ◌++◌, length, Option, None, Some}
use Rattle.std.specs.List.{flat_map, list_any}
use Rattle.recorded_text.specs.Line.{SwitchView}
use Rattle.recorded_text.specs.Names.{names_on}
use Rattle.recorded_text.specs.Text.{split_lines, is_bad_line, switches_in_line}
use Rattle.recorded_text.specs.declared.fault.LineFault.{LineFault}
use Rattle.recorded_text.specs.declared.fault.LineFault.TheVariants.{Bad, Memory}

-- no such byte stands in the text
abbrev pub Lacks : ℕ → List ℕ → Type 0
Lacks c [] = Unit {0}
Lacks c (x ∷ xs) = (x ≡ c → ⊥) × Lacks c xs

-- of the whole text so many lines are done, which told these switches, and this is ahead
pub record IsReadSoFar (whole ahead : List ℕ) (count : ℕ) (found : List SwitchView) : Type 0 where
  pub done : List (List ℕ)
  pub parts : split_lines whole ≡ done ++ split_lines ahead
  pub counted : count ≡ length done
  pub good : list_any is_bad_line done ≡ false
  pub shown : found ≡ flat_map switches_in_line done

-- what a fault says of a line
abbrev pub LineFails : LineFault → List ℕ → Type 0
LineFails Bad line = is_bad_line line ≡ true
LineFails Memory line = Unit {0}

-- of what a reader had, as far as it tells its bytes, so many lines are done, and what was kept of
-- the next and what the reader has left are ahead
abbrev pub AreDone : Option (List ℕ) → Option (List ℕ) → List ℕ → ℕ → List SwitchView → Type 0
AreDone None left rest count found = Unit {0}
AreDone (Some whole) None rest count found = ⊥
AreDone (Some whole) (Some left) rest count found = IsReadSoFar whole (rest ++ left) count found

-- the names are the first ones with those that the switches bring
abbrev pub BringsOn : List (List ℕ) → List (List ℕ) → List SwitchView → Type 0
BringsOn first names switches = names ≡ names_on first switches
