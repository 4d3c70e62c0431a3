-- Lines at the front of a text.
use Rattle.std.proofs.Common.{◌≡◌, ℕ, Bool, true, false, List, [], ◌∷◌, ◌++◌, ◌⊎◌, length, map, refl, sym, ap, subst, ◌∙◌, append_assoc, append-nil, inl, inr, arith, length-append}
use Rattle.std.specs.Prelude.{codes}
use Rattle.std.specs.List.{AllByRecursion, flat_map}
use Rattle.std.proofs.lemmas.Option.{some_pair_parts}
use Rattle.calls_text.specs.declared.section.Entry.{Entry}
use Rattle.calls_text.specs.SectionView.{SectionView}
use Rattle.calls_text.specs.Spelling.{entry_line, section_lines, has_later, header_line, lines_of, text_of}
use Rattle.calls_text.specs.ReadSoFar.{IsEntryRead, IsSectionRead}
use Rattle.calls_text.specs.private.Reading.{cut_at}
use Rattle.calls_text.proofs.Cuts.{Lacks, Lacks-written, cut_again}
use Rattle.calls_text.proofs.Lines.{line_lacks, domain_lacks}

-- lines without a line break
abbrev pub AreLines : List (List ℕ) → Type 0
AreLines lines = AllByRecursion (Lacks 10) lines

both_lines : (a b : List (List ℕ)) → AreLines a → AreLines b → AreLines (a ++ b)
both_lines [] b la lb = lb
both_lines (x ∷ a) b la lb = (la.0, both_lines a b la.1 lb)

entry_lines : (entries : List Entry) → AllByRecursion IsEntryRead entries → AreLines (map entry_line entries)
entry_lines [] each = tt
entry_lines (e ∷ entries) each = (line_lacks e.client e.call each.0.within.client each.0.within.call, entry_lines entries each.1)

body_lines : (sections : List SectionView) → AllByRecursion IsSectionRead sections → AreLines (flat_map section_lines sections)
body_lines [] each = tt
body_lines (s ∷ sections) each = both_lines (section_lines s) (flat_map section_lines sections) (domain_lacks s.cpus s.limit each.0.most each.0.high, entry_lines s.entries each.0.each) (body_lines sections each.1)

pub header_lacks : (later : Bool) → Lacks 10 (header_line later)
header_lacks false = Lacks-written 10 (codes "dlcalls 1") refl
header_lacks true = Lacks-written 10 (codes "dlcalls 2") refl

-- the lines of sections, after either header
pub headed_lines : (later : Bool) (sections : List SectionView) → AllByRecursion IsSectionRead sections → AreLines (header_line later ∷ flat_map section_lines sections)
headed_lines later sections each = (header_lacks later, body_lines sections each)

pub sections_lines : (sections : List SectionView) → AllByRecursion IsSectionRead sections → AreLines (lines_of sections)
sections_lines sections each = headed_lines (has_later sections) sections each

pub front_lines : (front more : List (List ℕ)) → AreLines (front ++ more) → AreLines front
front_lines [] more all = tt
front_lines (l ∷ front) more all = (all.0, front_lines front more all.1)

-- a further line stands after the shorter of two fronts
pub record GoesOn (front other : List (List ℕ)) (rest : List ℕ) : Type 0 where
  pub line : List ℕ
  pub after : List ℕ
  pub more : List (List ℕ)
  pub other_is : other ≡ front ++ line ∷ more
  pub rest_is : rest ≡ line ++ 10 ∷ after

line_first : (l t r : List ℕ) → ((l ++ (10 ∷ [])) ++ t) ++ r ≡ l ++ (10 ∷ (t ++ r))
line_first l t r = simp append_assoc

longer : (x : List ℕ) (front other : List (List ℕ)) (rest : List ℕ) → GoesOn front other rest → GoesOn (x ∷ front) (x ∷ other) rest
longer x front other rest g = record { line = g.line; after = g.after; more = g.more; other_is = ap (λ (ls : List (List ℕ)). x ∷ ls) g.other_is; rest_is = g.rest_is }

both_longer : (x : List ℕ) (a b : List (List ℕ)) (r s : List ℕ) → (a ≡ b) ⊎ (GoesOn a b r ⊎ GoesOn b a s) → (x ∷ a ≡ x ∷ b) ⊎ (GoesOn (x ∷ a) (x ∷ b) r ⊎ GoesOn (x ∷ b) (x ∷ a) s)
both_longer x a b r s (inl same) = inl (ap (λ (ls : List (List ℕ)). x ∷ ls) same)
both_longer x a b r s (inr (inl g)) = inr (inl (longer x a b r g))
both_longer x a b r s (inr (inr g)) = inr (inr (longer x b a s g))

-- two fronts of one text are equal, or one goes on where the other ends
pub compared : (a b : List (List ℕ)) (r s : List ℕ) → AreLines a → AreLines b → text_of a ++ r ≡ text_of b ++ s → (a ≡ b) ⊎ (GoesOn a b r ⊎ GoesOn b a s)
compared [] [] r s la lb e = inl refl
compared [] (y ∷ b) r s la lb e = inr (inl (record { line = y; after = text_of b ++ s; more = b; other_is = refl; rest_is = e ∙ line_first y (text_of b) s }))
compared (x ∷ a) [] r s la lb e = inr (inr (record { line = x; after = text_of a ++ r; more = a; other_is = refl; rest_is = sym e ∙ line_first x (text_of a) r }))
compared (x ∷ a) (y ∷ b) r s la lb e =
    let same : x ++ (10 ∷ (text_of a ++ r)) ≡ y ++ (10 ∷ (text_of b ++ s)) = sym (line_first x (text_of a) r) ∙ e ∙ line_first y (text_of b) s in
    let cuts = sym (cut_again 10 x (text_of a ++ r) la.0) ∙ ap (cut_at 10) same ∙ cut_again 10 y (text_of b ++ s) lb.0 in
    let p = some_pair_parts x y (text_of a ++ r) (text_of b ++ s) cuts in
    subst (λ (z : List ℕ). (x ∷ a ≡ z ∷ b) ⊎ (GoesOn (x ∷ a) (z ∷ b) r ⊎ GoesOn (z ∷ b) (x ∷ a) s)) p.0 (both_longer x a b r s (compared a b r s la.1 lb.1 p.1))

-- no line stands at the end of a text
pub no_line : (line after : List ℕ) → [] ≡ line ++ 10 ∷ after → ⊥
no_line line after e = omega (arith, ap length e, length-append line (10 ∷ after))

-- lines with one text are the same
pub same_lines : (a b : List (List ℕ)) → AreLines a → AreLines b → text_of a ≡ text_of b → a ≡ b
same_lines a b la lb e =
    elim (compared a b [] [] la lb (append-nil (text_of a) ∙ e ∙ sym (append-nil (text_of b)))) [
      | inl same ↦ same
      | inr (inl g) ↦ absurd (no_line g.line g.after g.rest_is)
      | inr (inr g) ↦ absurd (no_line g.line g.after g.rest_is)
    ]
