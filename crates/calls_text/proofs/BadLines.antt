-- A text has one bad line, and what a reader whose answers are right says to each text.
use Rattle.std.proofs.Common.{◌≡◌, ℕ, ◌+◌, List, ◌++◌, ◌⊎◌, length, Result, Ok, Err, refl, sym, ap, ◌∙◌, append_assoc, inl, inr}
use Rattle.std.specs.Prelude.{IfOk, IfErr, IsErrOf, MatchResult}
use Rattle.std.specs.Global.{Vec}
use Rattle.calls_text.specs.declared.fault.CallsFault.{CallsFault}
use Rattle.calls_text.specs.declared.fault.CallsFault.TheVariants as faults
use Rattle.calls_text.specs.SectionView.{SectionView}
use Rattle.calls_text.specs.Spelling.{spelling}
use Rattle.calls_text.specs.Limits.{AreRead}
use Rattle.calls_text.specs.BadLine.{BeginsSections, IsBadLine, IsReadFault}
use Rattle.calls_text.proofs.Fronts.{GoesOn, compared}
use Rattle.calls_text.proofs.Sections.{same_sections}
use Rattle.calls_text.proofs.Stops.{begun_lines}

-- the shorter front goes on as an accepted text does
never_longer : (text : List ℕ) (n : ℕ) (bad : IsBadLine text n) (other : List (List ℕ)) → BeginsSections other → GoesOn bad.front other bad.rest → ⊥
never_longer text n bad other begins g =
    bad.stops g.line g.after g.rest_is (begins.0, begins.1, g.more ++ begins.2, begins.3 ∙ ap (λ (ls : List (List ℕ)). ls ++ begins.2) g.other_is ∙ simp append_assoc)

pub one_bad_line : (text : List ℕ) (m n : ℕ) → IsBadLine text m → IsBadLine text n → m ≡ n
one_bad_line text m n p q =
    elim (compared p.front q.front p.rest q.rest (begun_lines p.front p.before) (begun_lines q.front q.before) (sym p.parts ∙ q.parts)) [
      | inl same ↦ p.place ∙ ap (λ (f : List (List ℕ)). length f + 1) same ∙ sym q.place
      | inr (inl g) ↦ absurd (never_longer text m p q.front q.before g)
      | inr (inr g) ↦ absurd (never_longer text n q p.front p.before g)
    ]

-- what is said of a text whose answer is right
pub record IsAnswer (text : List ℕ) (r : Result (Vec SectionView) CallsFault) : Type 0 where
  pub found : IfOk r (λ v. AreRead v.items × (text ≡ spelling v.items))
  pub fault : IfErr r (IsReadFault text)

-- sections that the text spells are read, unless memory runs out
pub only_answer : (text : List ℕ) (r : Result (Vec SectionView) CallsFault) → IsAnswer text r → (sections : List SectionView) → AreRead sections → text ≡ spelling sections → MatchResult r (λ v. v.items ≡ sections) (λ e. e ≡ faults.Memory)
only_answer text (Ok v) is sections are same = same_sections v.items sections is.found.0 are (sym is.found.1 ∙ same)
only_answer text (Err (faults.BadLine n)) is sections are same = absurd (is.fault.refused (sections, are, same))
only_answer text (Err faults.Memory) is sections are same = refl

-- a text with a bad line is refused with this line, unless memory runs out
pub bad_answer : (text : List ℕ) (r : Result (Vec SectionView) CallsFault) → IsAnswer text r → (n : ℕ) → IsBadLine text n → IsErrOf r (faults.BadLine n) ⊎ IsErrOf r faults.Memory
bad_answer text (Ok v) is n bad = absurd (bad.refused (v.items, is.found.0, is.found.1))
bad_answer text (Err (faults.BadLine m)) is n bad = inl (ap (λ (k : ℕ). Err (faults.BadLine k)) (one_bad_line text m n is.fault bad))
bad_answer text (Err faults.Memory) is n bad = inr refl
