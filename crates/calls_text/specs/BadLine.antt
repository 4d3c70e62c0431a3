-- The first bad line of a text that is not accepted (own).
use Rattle.std.specs.Prelude.{◌≡◌, ℕ, ◌+◌, List, [], ◌∷◌, ◌++◌, length}
use Rattle.calls_text.specs.declared.fault.CallsFault.{CallsFault}
use Rattle.calls_text.specs.declared.fault.CallsFault.TheVariants.{BadLine, Memory}
use Rattle.calls_text.specs.SectionView.{SectionView}
use Rattle.calls_text.specs.Spelling.{lines_of, text_of, spelling}
use Rattle.calls_text.specs.Limits.{AreRead}

-- a text is accepted where it is that of sections that are read
abbrev pub IsAccepted : List ℕ → Type 0
IsAccepted text = (sections : List SectionView) × AreRead sections × (text ≡ spelling sections)

-- these are the first lines of some accepted text
abbrev pub BeginsSections : List (List ℕ) → Type 0
BeginsSections lines =
    (sections : List SectionView) × AreRead sections × (more : List (List ℕ))
    × (lines_of sections ≡ lines ++ more)

-- Line n is the first at which the text stops being a front of whole lines of an accepted text: the
-- lines before it begin an accepted text, with line n they begin none, and the text itself is not
-- accepted. So an unfinished last line is bad, and where a text ends too early, the line that is
-- missing. After the header 2, lines with no change of a limit begin an accepted text as long as
-- such a change may follow.
pub record IsBadLine (text : List ℕ) (n : ℕ) : Type 0 where
  -- the lines before line n, and what follows them
  pub front : List (List ℕ)
  pub rest : List ℕ
  pub parts : text ≡ text_of front ++ rest
  pub place : n ≡ length front + 1
  pub before : BeginsSections front
  pub stops : (line after : List ℕ) → rest ≡ line ++ 10 ∷ after
      → BeginsSections (front ++ line ∷ []) → ⊥
  pub refused : IsAccepted text → ⊥

-- what a fault says of a text; memory may run out at any
abbrev pub IsReadFault : List ℕ → CallsFault → Type 0
IsReadFault text (BadLine n) = IsBadLine text n
IsReadFault text Memory = Unit {0}
