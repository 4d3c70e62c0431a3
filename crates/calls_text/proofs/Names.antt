-- Names.
use Rattle.std.proofs.Common.{◌≡◌, ℕ, Bool, true, false, ◌&&◌, ltb, leb, List, length, Some, None, refl, ap, subst, sym, ◌∙◌, inl, inr, arith}
use Rattle.std.specs.List.{list_all}
use Rattle.std.specs.Str.{IsUtf8}
use Rattle.std.proofs.lemmas.Bool.{lt-ltb, ltb-true, le-leb, leb-true, and_from, and_parts, cases_Bool, cases_lt}
use Rattle.std.proofs.lemmas.List.{get_or_past}
use Rattle.std.proofs.lemmas.List.Sums.{AllPass-from_list_all, list_all-from_AllPass}
use Rattle.std.proofs.lemmas.Option.{cond_some}
use Rattle.std.proofs.lemmas.Str.{IsUtf8-from_ascii}
use Rattle.task_script.specs.NameView.{IsName}
use Rattle.calls_text.specs.private.Reading.{is_short_name, name_at}

abbrev in_range : ℕ → Bool
in_range b = leb 33 b && leb b 126

is_name-from : (text : List ℕ) → IsName text → is_short_name text ≡ true
is_name-from text h =
    and_from (ltb 0 (length text) && leb (length text) 15) (list_all in_range text) (and_from _ _ (lt-ltb _ _ h.some) (le-leb _ _ h.most))
    (list_all-from_AllPass in_range text (λ k d lt. let b = h.bytes k d lt in and_from _ _ (le-leb _ _ b.0) (le-leb _ _ b.1)))

from-is_name : (text : List ℕ) → is_short_name text ≡ true → IsName text
from-is_name text e =
    let p = and_parts (ltb 0 (length text) && leb (length text) 15) (list_all in_range text) e in
    let q = and_parts (ltb 0 (length text)) (leb (length text) 15) p.0 in
    record {
      some = ltb-true _ _ q.0;
      most = leb-true _ _ q.1;
      bytes = λ k d lt. let r = and_parts _ _ (AllPass-from_list_all in_range text p.1 k d lt) in (leb-true _ _ r.0, leb-true _ _ r.1);
    }

pub name_yes : (text : List ℕ) → IsName text → name_at text ≡ Some text
unfolding name_at
name_yes text h = rw (is_name-from text h) refl

pub name_no : (text : List ℕ) → (IsName text → ⊥) → name_at text ≡ None
unfolding name_at
name_no text h =
    elim (cases_Bool (is_short_name text)) [
      | inl is ↦ absurd (h (from-is_name text is))
      | inr isnt ↦ rw isnt refl
    ]

pub name_takes : (text name : List ℕ) → name_at text ≡ Some name → (text ≡ name) × IsName text
unfolding name_at
name_takes text name e = let both = cond_some (is_short_name text) text name e in (both.1, from-is_name text both.0)

-- a name is text
pub name_is_utf8 : (text : List ℕ) → IsName text → IsUtf8 text
name_is_utf8 text h = IsUtf8-from_ascii text (λ i.
    elim (cases_lt i (length text)) [
      | inl lt ↦ omega (arith, h.bytes i 0 lt)
      | inr past ↦ rw (get_or_past text i 0 past) (omega arith)
    ])

-- what a copy of the text says of it
pub name_given : (text copied name : List ℕ) → copied ≡ text → IsName copied → name ≡ copied → name_at text ≡ Some name
name_given text copied name e h same = name_yes text (subst IsName e h) ∙ ap (λ (n : List ℕ). Some n) (sym (same ∙ e))

pub name_refused : (text copied : List ℕ) → copied ≡ text → (IsName copied → false ≡ true) → name_at text ≡ None
name_refused text copied e h = name_no text (λ n. absurd (let f = h (subst IsName (sym e) n) in cc))
