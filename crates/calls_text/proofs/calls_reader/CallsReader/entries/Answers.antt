use Rattle.std.proofs.Common.{◌≡◌, ◌∙◌, ◌∷◌, ◌++◌, [], ℕ, List, Option, Some, Ok, append_assoc, sym, ap, subst, arith}
use Rattle.calls_text.specs.SectionView.{SectionView}
use Rattle.calls_text.specs.declared.section.Entry.{Entry}
use Rattle.calls_text.specs.Reader.{ReaderView, IsWithin, IsNextEntry, section_with_entries}
use Rattle.calls_text.proofs.Readers.{after_none}
use Rattle.calls_text.proofs.calls_reader.CallsReader.entries.Goals as goal

-- a term in place of a search, which takes seconds
within_more : (text : List ℕ) (before : List SectionView) (s : SectionView) (r : ReaderView) (xs ys : List Entry) (e : Entry) (found : Option Entry) → found ≡ Some e → ys ≡ xs ++ e ∷ [] → IsNextEntry text before (section_with_entries s xs) r (Ok found) → IsWithin text before (section_with_entries s ys) r
within_more text before s r xs ys e found is more next =
    let one : IsWithin text before (section_with_entries (section_with_entries s xs) (e ∷ [])) r = subst (λ (x : Option Entry). IsNextEntry text before (section_with_entries s xs) r (Ok x)) is next in
    subst (λ (es : List Entry). IsWithin text before (record s { entries = es }) r) (append_assoc s.entries xs (e ∷ []) ∙ ap (λ (zs : List Entry). s.entries ++ zs) (sym more)) one

pub entries-preserved : goal.entries-preserved
entries-preserved c = record {
  so_far = λ text before s w.
      let xs = c.entries.entries.items in
      within_more text before s c.next_entry.new.self xs c.push.new.self.items c.in-Ok-Some.entry c.in-Ok-Some.field-0 c.in-Ok-Some.field-0-is c.in-Ok.ensures.items (c.in-Ok-Some.ensures.next text before (section_with_entries s xs) (c.entries.invariant.so_far text before s w));
  never_more = omega (arith, c.next_entry.ensures.never_more, c.entries.invariant.never_more);
}

pub returns-in-Ok-None-clause-next : goal.returns-in-Ok-None-clause-next
returns-in-Ok-None-clause-next c = λ text before s w.
    after_none text before (section_with_entries s c.entries.entries.items) c.next_entry.new.self c.in-Ok-None.field-0 c.in-Ok-None.field-0-is (c.in-Ok-None.ensures.next text before (section_with_entries s c.entries.entries.items) (c.entries.invariant.so_far text before s w))
