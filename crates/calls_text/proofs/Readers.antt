-- A reader of a calls text, step by step.
use Rattle.std.proofs.Common.{◌≡◌, ℕ, ◌+◌, ◌≤◌, ◌<◌, Bool, true, false, ◌||◌, eqb, List, [], ◌∷◌, ◌++◌, length, get_or, set, replicate, cond, Option, Some, None, Ok, refl, sym, ap, subst, ◌∙◌, arith, inl, inr, length-append, length-set, get_or-set_same, get_or-set_other}
use Rattle.std.proofs.lemmas.Bool.{cases_eq, cases_lt}
use Rattle.std.proofs.lemmas.List.{length-map, get_or_past, get_or-replicate}
use Rattle.std.proofs.lemmas.List.Folds.{list_any-append}
use Rattle.calls_text.specs.declared.section.Entry.{Entry}
use Rattle.calls_text.specs.SectionView.{SectionView}
use Rattle.calls_text.specs.Spelling.{entry_line, is_later, some_later, has_later, spelling}
use Rattle.calls_text.specs.Limits.{IsSection, AreRead}
use Rattle.calls_text.specs.BadLine.{IsBadLine}
use Rattle.calls_text.specs.declared.calls_reader.CallsReader.TheInside.{Inside}
use Rattle.calls_text.specs.Reader.{ReaderView, IsAfter, IsWithin, IsNextDomain, IsNextEntry}
use Rattle.calls_text.specs.ReadSoFar.{IsSectionRead, LacksEntry, last_full}
use Rattle.calls_text.specs.private.Reading.{cut_at, AreSectionsOf, IsFirstSection, LacksDomain, bad_place, is_whole_text}
use Rattle.calls_text.proofs.Cuts.{cut_takes}
use Rattle.calls_text.proofs.Sections.{is_section}
use Rattle.calls_text.proofs.Stops.{sections_found, sections_stop}
use Rattle.calls_text.proofs.SectionSteps.{first_section, section_more, count_more}

-- a reader, from its fields
abbrev pub view_of : Inside → ReaderView
view_of r = record { rest = r.rest.now; later = r.later; found_later = r.found_later; sections = r.sections; lines = r.lines; calls = r.calls; made = r.made }

-- ---- what a reader counts

or_false : (b : Bool) → (b || false) ≡ b
or_false true = refl
or_false false = refl

or_assoc : (a b c : Bool) → ((a || b) || c) ≡ (a || (b || c))
or_assoc true b c = refl
or_assoc false b c = refl

pub none_yet : (b : Bool) → b ≡ (b || false)
none_yet b = sym (or_false b)

has_more : (before : List SectionView) (s : SectionView) → has_later (before ++ s ∷ []) ≡ (has_later before || some_later s.entries)
has_more before s = list_any-append (λ (x : SectionView). some_later x.entries) before (s ∷ []) ∙ ap (λ (b : Bool). has_later before || b) (or_false (some_later s.entries))

-- with one entry more
pub found_more : (a b : Bool) (entries : List Entry) (e : Entry) → a ≡ (b || some_later entries) → (a || is_later e.call) ≡ (b || some_later (entries ++ e ∷ []))
found_more a b entries e same =
    ap (λ (x : Bool). x || is_later e.call) same ∙ or_assoc b (some_later entries) (is_later e.call)
    ∙ ap (λ (x : Bool). b || (some_later entries || x)) (sym (or_false (is_later e.call)))
    ∙ ap (λ (x : Bool). b || x) (sym (list_any-append (λ (x : Entry). is_later x.call) entries (e ∷ [])))

last_full_more : (before : List SectionView) (s : SectionView) → last_full (before ++ s ∷ []) ≡ eqb (length s.entries) 65536
last_full_more [] s = refl
last_full_more (t ∷ []) s = refl
last_full_more (t ∷ u ∷ before) s = last_full_more (u ∷ before) s

-- no client made more calls than there are
pub fewer_more : (made : List ℕ) (n i v : ℕ) → ((k : ℕ) → get_or made k 0 ≤ n) → v ≤ n + 1 → (k : ℕ) → get_or (set made i v) k 0 ≤ n + 1
fewer_more made n i v each most k =
    elim (cases_eq k i) [
      | inl same ↦
          elim (cases_lt i (length made)) [
            | inl lt ↦ rw (same, get_or-set_same made i v 0 lt) most
            | inr past ↦ let long = length-set made i v in rw (get_or_past (set made i v) k 0 (omega (arith, long, same, past))) (omega arith)
          ]
      | inr other ↦ let h = each k in rw (get_or-set_other made i k v 0 other) (omega (arith, h))
    ]

pub none_made : (k : ℕ) → get_or {A = ℕ} (replicate {A = ℕ} 64 0) k 0 ≤ 0
none_made k =
    elim (cases_lt k 64) [
      | inl lt ↦ rw (get_or-replicate {A = ℕ} 64 k 0 0 lt) (omega arith)
      | inr past ↦
          let zeros : List ℕ = replicate 64 0 in
          let long : length zeros ≡ 64 = refl in
          rw (get_or_past {X = ℕ} zeros k 0 (omega (arith, long, past))) (omega arith)
    ]

-- after a line less is left
pub cut_less : (text line after : List ℕ) → cut_at 10 text ≡ Some (line, after) → length after < length text
cut_less text line after cut = let e = ap length (cut_takes 10 text (line, after) cut) in omega (arith, e, length-append line (10 ∷ after))

-- the bad line, as it is reckoned
pub bad_is : (lines n : ℕ) (b stuck : Bool) → lines ≡ n → b ≡ stuck → lines + cond b 1 2 ≡ n + cond stuck 1 2
bad_is lines n b stuck same is = ap (λ (m : ℕ). m + cond b 1 2) same ∙ ap (λ (x : Bool). n + cond x 1 2) is

-- ---- where no section follows

are_sections : (text : List ℕ) (done : List SectionView) (r : ReaderView) (b : IsAfter text done r) → (length done < 8 → LacksDomain r.rest) → AreSectionsOf r.later b.body r.rest done
are_sections text done r b ends = record { so_far = b.so_far; most = b.few; ends = ends }

pub whole_at_end : (text : List ℕ) (done : List SectionView) (r : ReaderView) → IsAfter text done r → (length done < 8 → LacksDomain r.rest) → is_whole_text r.later r.rest done ≡ true → AreRead done × (text ≡ spelling done)
whole_at_end text done r b ends whole = sections_found r.later text b.body r.rest done b.header (are_sections text done r b ends) whole

pub bad_at_end : (text : List ℕ) (done : List SectionView) (r : ReaderView) (n : ℕ) → IsAfter text done r → (length done < 8 → LacksDomain r.rest) → is_whole_text r.later r.rest done ≡ false → n ≡ bad_place r.later done → IsBadLine text n
bad_at_end text done r n b ends part place = subst (IsBadLine text) (sym place) (sections_stop r.later text b.body r.rest done b.header (are_sections text done r b ends) part)

-- ---- at the end of a section

read_so_far : (text : List ℕ) (before : List SectionView) (s : SectionView) (r : ReaderView) → IsWithin text before s r → IsSectionRead s
read_so_far text before s r w = record { some = w.some; most = w.most; low = w.low; high = w.high; few = w.short; each = w.entries.each; numbered = w.entries.numbered }

pub after_from : (text : List ℕ) (before : List SectionView) (s : SectionView) (r : ReaderView) → IsWithin text before s r → (length s.entries < 65536 → LacksEntry r.later r.rest) → IsAfter text (before ++ s ∷ []) r
after_from text before s r w stops =
    let first : IsFirstSection r.later w.from r.rest s = first_section r.later w.from w.after r.rest s (read_so_far text before s r w) w.domain w.entries stops in
    record {
      body = w.body;
      header = w.header;
      so_far = section_more r.later w.body w.from r.rest before s w.so_far first;
      found = w.found ∙ sym (has_more before s);
      few = omega (arith, w.few, length-append before (s ∷ []));
      count = omega (arith, w.count, length-append before (s ∷ []));
      lines = omega (arith, w.lines, count_more before s, length-map s.entries entry_line);
      full = ap (λ (n : ℕ). eqb n 65536) w.calls ∙ sym (last_full_more before s);
    }

-- the section that is being read
pub section_within : (text : List ℕ) (before : List SectionView) (s : SectionView) (r : ReaderView) → IsWithin text before s r → IsSection s
section_within text before s r w = is_section s (read_so_far text before s r w)

-- where no entry came
pub after_none : (text : List ℕ) (before : List SectionView) (s : SectionView) (r : ReaderView) (found : Option Entry) → found ≡ None → IsNextEntry text before s r (Ok found) → IsAfter text (before ++ s ∷ []) r
after_none text before s r found none next = subst (λ (o : Option Entry). IsNextEntry text before s r (Ok o)) none next

-- where no section came
pub whole_none : (text : List ℕ) (done : List SectionView) (r : ReaderView) (found : Option (ℕ × ℕ)) → found ≡ None → IsNextDomain text done r (Ok found) → AreRead done × (text ≡ spelling done)
whole_none text done r found none next = subst (λ (o : Option (ℕ × ℕ)). IsNextDomain text done r (Ok o)) none next
