-- The table under a gate, and the rule that holds between any two steps on it (own): what each word
-- carries as used is the sum of the bandwidths of the tickets of its domain, and at most the cap
-- that it carries, which is one that the domain's CPUs can have; of a domain whose limit no step
-- has set, this cap is still that of the limit that it was opened with; and there are exactly as
-- many pieces as there were at the start, so that all pieces at home leave no bandwidth elsewhere.
use Rattle.std.specs.Prelude.{ℕ, ◌≡◌, ◌<◌, ◌*◌, ◌==◌, if◌then◌else◌, List, [], length, replicate, sum_by, slice_index, All}
use Rattle.bw_gate.specs.declared.view.Piece.{Piece}
use Rattle.bw_gate.specs.declared.view.Piece.TheVariants.{Blank, Ticket}
use Rattle.bw_gate.specs.declared.view.View.{View}
use Rattle.bw_gate.specs.Terms.{TermsView, cpus_in, limit_in}
use Rattle.bw_gate.specs.Word.{used_of, cap_of, IsWord}

-- what a piece holds of a domain's word
abbrev pub held : ℕ → Piece → ℕ
held d Blank = 0
held d (Ticket e bw) = if e == d then bw else 0

-- what a view's pieces hold of it: one piece while it is in somebody's hand, none once it is spent,
-- and several while pieces are dealt or gathered
abbrev pub held_by : ℕ → View → ℕ
held_by d v = sum_by (held d) v.pieces

-- what the pieces of all views hold of it, and how many pieces there are
abbrev pub held_by_all : ℕ → List View → ℕ
held_by_all d views = sum_by (held_by d) views

abbrev pub pieces_of_all : List View → ℕ
pieces_of_all views = sum_by (λ v. length v.pieces) views

-- how often the steps of a view, and of all views, have set the limit of a domain
abbrev pub limits_by : ℕ → View → ℕ
limits_by d v = sum_by (λ e. if e == d then 1 else 0) v.limited_in

abbrev pub limits_by_all : ℕ → List View → ℕ
limits_by_all d views = sum_by (limits_by d) views

-- a view with a piece carries the terms
abbrev pub Carries : TermsView → View → Type 0
Carries terms v = 0 < length v.pieces → v.terms ≡ terms

-- the rule
pub record IsTableKept (terms : TermsView) (words : List ℕ) (views : List View) : Type 0 where
  pub count : length words ≡ length terms.cpus
  pub exact : (d : ℕ) → used_of (slice_index words d) ≡ held_by_all d views
  pub sound : (d : ℕ) → d < length terms.cpus → IsWord (cpus_in terms d) (slice_index words d)
  pub opened : (d : ℕ) → d < length terms.cpus → limits_by_all d views ≡ 0
      → cap_of (slice_index words d) ≡ cpus_in terms d * limit_in terms d
  pub pieces : pieces_of_all views ≡ terms.pieces
  pub carried : All (Carries terms) views

-- the first view has all pieces, and they are blank
abbrev pub blank_table : TermsView → View
blank_table terms = record {
  pieces = replicate terms.pieces Blank;
  found = [];
  limited_in = [];
  terms = terms;
}
