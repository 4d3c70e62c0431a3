-- The sections of a text, line by line.
use Rattle.std.proofs.Common.{◌≡◌, ℕ, ◌≤◌, ◌<◌, true, List, [], ◌∷◌, ◌++◌, ◌⊎◌, length, map, All, Option, None, refl, sym, ap, subst, ◌∙◌, append_assoc, append-nil, inl, inr, arith}
use Rattle.std.specs.List.{AllByRecursion, flat_map}
use Rattle.std.proofs.lemmas.Grind.{flat_map-append}
use Rattle.std.proofs.lemmas.Option.{some_pair_parts}
use Rattle.std.proofs.lemmas.List.Elements.{All-from_recursion, recursion_from_All, All-weaker}
use Rattle.domain_run.specs.declared.call.Call.{Call}
use Rattle.domain_run.specs.declared.call.Call.TheVariants.{Admit, Regrade, Wake, Leave, Advance, Limit, Depart, Arrive}
use Rattle.domain_run.specs.declared.call.Reply.{Reply}
use Rattle.calls_text.specs.declared.section.Entry.{Entry}
use Rattle.calls_text.specs.SectionView.{SectionView}
use Rattle.calls_text.specs.Spelling.{line_of, call_fields, entry_line, domain_line, section_lines, is_later, some_later, has_later, header_line, lines_of, spelling}
use Rattle.calls_text.specs.OwnCalls.{IsNumberedAfter, count_made_by}
use Rattle.calls_text.specs.Limits.{IsEntry, IsSection, AreRead}
use Rattle.calls_text.specs.ReadSoFar.{IsEntryRead, IsSectionRead, LastHasRoom}
use Rattle.calls_text.specs.private.Reading.{call_at, domain_at}
use Rattle.calls_text.proofs.Flags.{by_first, by_second}
use Rattle.calls_text.proofs.Lines.{call_again, domain_again}
use Rattle.calls_text.proofs.Fronts.{same_lines, sections_lines}

-- ---- sections that are read

pub is_section : (s : SectionView) → IsSectionRead s → IsSection s
is_section s is = record {
  some_cpus = is.some;
  most_cpus = is.most;
  least_limit = is.low;
  most_limit = is.high;
  most_entries = is.few;
  entries = All-weaker IsEntryRead IsEntry (λ e h. h.within) s.entries (All-from_recursion IsEntryRead s.entries is.each);
  numbered = is.numbered;
}

has_no_replies : (s : SectionView) → IsSectionRead s → All (λ (e : Entry). e.reply ≡ None) s.entries
has_no_replies s is = All-weaker IsEntryRead (λ e. e.reply ≡ None) (λ e h. h.no_reply) s.entries (All-from_recursion IsEntryRead s.entries is.each)

pub are_read : (sections : List SectionView) → AllByRecursion IsSectionRead sections → 0 < length sections → length sections ≤ 8 → AreRead sections
are_read sections each some most =
    let all = All-from_recursion IsSectionRead sections each in
    record {
      within = record { some = some; most = most; each = All-weaker IsSectionRead IsSection is_section sections all };
      no_replies = All-weaker IsSectionRead (λ (s : SectionView). All (λ (e : Entry). e.reply ≡ None) s.entries) has_no_replies sections all;
    }

section_read : (s : SectionView) → IsSection s → All (λ (e : Entry). e.reply ≡ None) s.entries → IsSectionRead s
section_read s is replies = record {
  some = is.some_cpus;
  most = is.most_cpus;
  low = is.least_limit;
  high = is.most_limit;
  few = is.most_entries;
  each = recursion_from_All IsEntryRead s.entries (λ k d lt. record { within = is.entries k d lt; no_reply = replies k d lt });
  numbered = is.numbered;
}

pub each_read : (sections : List SectionView) → AreRead sections → AllByRecursion IsSectionRead sections
each_read sections are = recursion_from_All IsSectionRead sections (λ k d lt. section_read _ (are.within.each k d lt) (are.no_replies k d lt))

-- one section more
pub each_more : (sections : List SectionView) (s : SectionView) → AllByRecursion IsSectionRead sections → IsSectionRead s → AllByRecursion IsSectionRead (sections ++ s ∷ [])
each_more [] s each is = (is, tt)
each_more (t ∷ sections) s each is = (each.0, each_more sections s each.1 is)

-- ---- the lines of sections

pub lines_more : (sections : List SectionView) (s : SectionView) → flat_map section_lines (sections ++ s ∷ []) ≡ flat_map section_lines sections ++ section_lines s
lines_more sections s = flat_map-append section_lines sections (s ∷ []) ∙ ap (λ (ls : List (List ℕ)). flat_map section_lines sections ++ ls) (append-nil (section_lines s))

abbrev pub section_from : ℕ → ℕ → List Entry → SectionView
section_from cpus limit entries = record { cpus = cpus; limit = limit; entries = entries }

abbrev second_byte : List ℕ → ℕ
second_byte [] = 0
second_byte (c ∷ []) = 0
second_byte (c ∷ d ∷ ds) = d

-- the line of a call has another second byte than `domain`
other_second : (client : ℕ) (call : Call) → 111 ≡ second_byte (line_of (call_fields client call)) → ⊥
other_second client (Admit number name params delay script) e = let f : 111 ≡ 100 = e in omega (arith, f)
other_second client (Regrade number params word) e = let f : 111 ≡ 101 = e in omega (arith, f)
other_second client (Wake number) e = let f : 111 ≡ 97 = e in omega (arith, f)
other_second client (Leave number) e = let f : 111 ≡ 101 = e in omega (arith, f)
other_second client (Advance ticks) e = let f : 111 ≡ 100 = e in omega (arith, f)
other_second client (Limit limit word) e = let f : 111 ≡ 105 = e in omega (arith, f)
other_second client (Depart number) e = let f : 111 ≡ 101 = e in omega (arith, f)
other_second client (Arrive number name params script) e = let f : 111 ≡ 114 = e in omega (arith, f)

-- so it is not that of a domain
other_line : (s : SectionView) (e : Entry) → domain_line s ≡ entry_line e → ⊥
other_line s e same = other_second e.client e.call (ap second_byte same)

-- lines that do not begin with an entry's
abbrev StartsAnew : List (List ℕ) → Type 0
StartsAnew [] = Unit {0}
StartsAnew (line ∷ lines) = (e : Entry) → line ≡ entry_line e → ⊥

sections_anew : (sections : List SectionView) → StartsAnew (flat_map section_lines sections)
sections_anew [] = tt
sections_anew (s ∷ sections) = λ e same. other_line s e same

not_anew : (lines more : List (List ℕ)) (e : Entry) → StartsAnew lines → entry_line e ∷ more ≡ lines → ⊥
not_anew [] more e anew same = cc
not_anew (line ∷ lines) more e anew same = let first : line ≡ entry_line e = cc in anew e first

-- the entries of one list end before those of another, and lines follow that go on with the other
record Longer (xs ys : List Entry) (lines : List (List ℕ)) : Type 0 where
  entry : Entry
  is : IsEntryRead entry
  more : List (List ℕ)
  next : lines ≡ entry_line entry ∷ more
  within : length xs < length ys
  among : is_later entry.call ≡ true → some_later ys ≡ true

record SameLines (xs ys : List Entry) (a b : List (List ℕ)) : Type 0 where
  entries : map entry_line xs ≡ map entry_line ys
  rest : a ≡ b

one_longer : (x y : Entry) (xs ys : List Entry) (a b : List (List ℕ)) → entry_line x ≡ entry_line y → SameLines xs ys a b ⊎ Longer xs ys a → SameLines (x ∷ xs) (y ∷ ys) a b ⊎ Longer (x ∷ xs) (y ∷ ys) a
one_longer x y xs ys a b first (inl same) = inl (record { entries = let more = same.entries in cc; rest = same.rest })
one_longer x y xs ys a b first (inr longer) = inr (record { entry = longer.entry; is = longer.is; more = longer.more; next = longer.next; within = omega (arith, longer.within); among = λ yes. by_second (is_later y.call) (some_later ys) (longer.among yes) })

compared_entries : (xs ys : List Entry) (a b : List (List ℕ)) → AllByRecursion IsEntryRead ys → StartsAnew b → map entry_line xs ++ a ≡ map entry_line ys ++ b → SameLines xs ys a b ⊎ Longer xs ys a
compared_entries [] [] a b each anew e = inl (record { entries = refl; rest = e })
compared_entries [] (y ∷ ys) a b each anew e = inr (record { entry = y; is = each.0; more = map entry_line ys ++ b; next = e; within = omega arith; among = λ yes. by_first (is_later y.call) (some_later ys) yes })
compared_entries (x ∷ xs) [] a b each anew e = absurd (not_anew b (map entry_line xs ++ a) x anew e)
compared_entries (x ∷ xs) (y ∷ ys) a b each anew e =
    let first : entry_line x ≡ entry_line y = cc in
    let more : map entry_line xs ++ a ≡ map entry_line ys ++ b = cc in
    one_longer x y xs ys a b first (compared_entries xs ys a b each.1 anew more)

-- a line that may follow sections: an entry's, where the last of them has room for it
pub record EntryFollows (sections others : List SectionView) (line : List ℕ) : Type 0 where
  pub entry : Entry
  pub is : IsEntryRead entry
  pub line_is : line ≡ entry_line entry
  pub room : LastHasRoom sections
  pub among : is_later entry.call ≡ true → has_later others ≡ true

-- or a domain's, where there are not yet as many sections as in the text
pub record DomainFollows (sections others : List SectionView) (line : List ℕ) : Type 0 where
  pub section : SectionView
  pub is : IsSectionRead section
  pub line_is : line ≡ domain_line section
  pub within : length sections < length others

pub more_room : (s : SectionView) (sections : List SectionView) → LastHasRoom sections → LastHasRoom (s ∷ sections)
more_room s [] room = absurd room
more_room s (t ∷ sections) room = room

follows_later : (s t : SectionView) (ss ts : List SectionView) (line : List ℕ) → EntryFollows ss ts line ⊎ DomainFollows ss ts line → EntryFollows (s ∷ ss) (t ∷ ts) line ⊎ DomainFollows (s ∷ ss) (t ∷ ts) line
follows_later s t ss ts line (inl f) = inl (record { entry = f.entry; is = f.is; line_is = f.line_is; room = more_room s ss f.room; among = λ yes. by_second (some_later t.entries) (has_later ts) (f.among yes) })
follows_later s t ss ts line (inr f) = inr (record { section = f.section; is = f.is; line_is = f.line_is; within = omega (arith, f.within) })

-- the last section's entries end, and the text goes on with an entry
follows_here : (s t : SectionView) (ss ts : List SectionView) (line : List ℕ) (more : List (List ℕ)) → length t.entries ≤ 65536 → Longer s.entries t.entries (flat_map section_lines ss ++ (line ∷ more)) → EntryFollows (s ∷ ss) (t ∷ ts) line
follows_here s t [] ts line more few longer =
    let next : line ∷ more ≡ entry_line longer.entry ∷ longer.more = longer.next in
    record { entry = longer.entry; is = longer.is; line_is = cc; room = omega (arith, longer.within, few); among = λ yes. by_first (some_later t.entries) (has_later ts) (longer.among yes) }
follows_here s t (u ∷ ss) ts line more few longer =
    let next : domain_line u ∷ ((map entry_line u.entries ++ flat_map section_lines ss) ++ (line ∷ more)) ≡ entry_line longer.entry ∷ longer.more = longer.next in
    let first : domain_line u ≡ entry_line longer.entry = cc in
    absurd (other_line u longer.entry first)

-- the entries of the first section, and what follows them
body_tail : (s t : SectionView) (ss ts : List SectionView) (rest : List (List ℕ)) → flat_map section_lines (t ∷ ts) ≡ flat_map section_lines (s ∷ ss) ++ rest → map entry_line s.entries ++ (flat_map section_lines ss ++ rest) ≡ map entry_line t.entries ++ flat_map section_lines ts
body_tail s t ss ts rest e =
    let whole : domain_line t ∷ (map entry_line t.entries ++ flat_map section_lines ts) ≡ domain_line s ∷ ((map entry_line s.entries ++ flat_map section_lines ss) ++ rest) = e in
    let tail : map entry_line t.entries ++ flat_map section_lines ts ≡ (map entry_line s.entries ++ flat_map section_lines ss) ++ rest = cc in
    sym (append_assoc (map entry_line s.entries) (flat_map section_lines ss) rest) ∙ sym tail

-- where the lines of sections go on as those of other sections do
pub follows : (ss ts : List SectionView) (line : List ℕ) (more : List (List ℕ)) → AllByRecursion IsSectionRead ts → flat_map section_lines ts ≡ flat_map section_lines ss ++ (line ∷ more) → EntryFollows ss ts line ⊎ DomainFollows ss ts line
follows [] [] line more each e = absurd cc
follows [] (t ∷ ts) line more each e = inr (record { section = t; is = each.0; line_is = cc; within = omega arith })
follows (s ∷ ss) [] line more each e = absurd cc
follows (s ∷ ss) (t ∷ ts) line more each e =
    elim (compared_entries s.entries t.entries (flat_map section_lines ss ++ (line ∷ more)) (flat_map section_lines ts) each.0.each (sections_anew ts) (body_tail s t ss ts (line ∷ more) e)) [
      | inl same ↦ follows_later s t ss ts line (follows ss ts line more each.1 (sym same.rest))
      | inr longer ↦ inl (follows_here s t ss ts line more each.0.few longer)
    ]

-- ---- one spelling

entry_from : ℕ → ℕ → Call → Option Reply → Entry
entry_from client seq call reply = record { client = client; seq = seq; call = call; reply = reply }

same_entry : (e f : Entry) → e.client ≡ f.client → e.seq ≡ f.seq → e.call ≡ f.call → e.reply ≡ f.reply → e ≡ f
unfolding entry_from
same_entry e f a b c d =
    ap (λ (x : ℕ). entry_from x e.seq e.call e.reply) a ∙ ap (λ (x : ℕ). entry_from f.client x e.call e.reply) b ∙ ap (λ (x : Call). entry_from f.client f.seq x e.reply) c ∙ ap (λ (x : Option Reply). entry_from f.client f.seq f.call x) d

same_line : (e f : Entry) (before : List Entry) → IsEntryRead e → IsEntryRead f → e.seq ≡ count_made_by e.client before → f.seq ≡ count_made_by f.client before → entry_line e ≡ entry_line f → e ≡ f
same_line e f before is is' seq seq' same =
    let again = sym (call_again e.client e.call is.within.client is.within.call) ∙ ap call_at same ∙ call_again f.client f.call is'.within.client is'.within.call in
    let p = some_pair_parts e.client f.client e.call f.call again in
    same_entry e f p.0 (seq ∙ ap (λ (c : ℕ). count_made_by c before) p.0 ∙ sym seq') p.1 (is.no_reply ∙ sym is'.no_reply)

same_entries : (before entries others : List Entry) → AllByRecursion IsEntryRead entries → AllByRecursion IsEntryRead others → IsNumberedAfter before entries → IsNumberedAfter before others → map entry_line entries ≡ map entry_line others → entries ≡ others
same_entries before [] [] each each' numbered numbered' e = refl
same_entries before [] (y ∷ others) each each' numbered numbered' e = absurd cc
same_entries before (x ∷ entries) [] each each' numbered numbered' e = absurd cc
same_entries before (x ∷ entries) (y ∷ others) each each' numbered numbered' e =
    let line : entry_line x ≡ entry_line y = cc in
    let lines : map entry_line entries ≡ map entry_line others = cc in
    let first = same_line x y before each.0 each'.0 numbered.0 numbered'.0 line in
    let moved : IsNumberedAfter (before ++ x ∷ []) others = subst (λ (z : Entry). IsNumberedAfter (before ++ z ∷ []) others) (sym first) numbered'.1 in
    ap (λ (z : Entry). z ∷ entries) first ∙ ap (λ (es : List Entry). y ∷ es) (same_entries (before ++ x ∷ []) entries others each.1 each'.1 numbered.1 moved lines)

same_section : (s t : SectionView) → IsSectionRead s → IsSectionRead t → domain_line s ≡ domain_line t → map entry_line s.entries ≡ map entry_line t.entries → s ≡ t
same_section s t is is' domains lines =
    let again = sym (domain_again s.cpus s.limit is.some is.most is.low is.high) ∙ ap domain_at domains ∙ domain_again t.cpus t.limit is'.some is'.most is'.low is'.high in
    let p = some_pair_parts s.cpus t.cpus s.limit t.limit again in
    let entries = same_entries [] s.entries t.entries is.each is'.each is.numbered is'.numbered lines in
    ap (λ (c : ℕ). section_from c s.limit s.entries) p.0 ∙ ap (λ (l : ℕ). section_from t.cpus l s.entries) p.1 ∙ ap (section_from t.cpus t.limit) entries

pub same_bodies : (ss ts : List SectionView) → AllByRecursion IsSectionRead ss → AllByRecursion IsSectionRead ts → flat_map section_lines ss ≡ flat_map section_lines ts → ss ≡ ts
same_bodies [] [] each each' e = refl
same_bodies [] (t ∷ ts) each each' e = absurd cc
same_bodies (s ∷ ss) [] each each' e = absurd cc
same_bodies (s ∷ ss) (t ∷ ts) each each' e =
    let whole : domain_line s ∷ (map entry_line s.entries ++ flat_map section_lines ss) ≡ domain_line t ∷ (map entry_line t.entries ++ flat_map section_lines ts) = e in
    let domains : domain_line s ≡ domain_line t = cc in
    let tails : map entry_line s.entries ++ flat_map section_lines ss ≡ map entry_line t.entries ++ flat_map section_lines ts = cc in
    elim (compared_entries s.entries t.entries (flat_map section_lines ss) (flat_map section_lines ts) each'.0.each (sections_anew ts) tails) [
      | inl same ↦
          let first = same_section s t each.0 each'.0 domains same.entries in
          ap (λ (x : SectionView). x ∷ ss) first ∙ ap (λ (xs : List SectionView). t ∷ xs) (same_bodies ss ts each.1 each'.1 same.rest)
      | inr longer ↦ absurd (not_anew (flat_map section_lines ss) longer.more longer.entry (sections_anew ss) (sym longer.next))
    ]

-- the lines after the first
pub following : (x y : List ℕ) (a b : List (List ℕ)) → x ∷ a ≡ y ∷ b → a ≡ b
following x y a b e = cc

pub same_sections : (ss ts : List SectionView) → AreRead ss → AreRead ts → spelling ss ≡ spelling ts → ss ≡ ts
same_sections ss ts are are' e =
    let each = each_read ss are in
    let each' = each_read ts are' in
    let lines : header_line (has_later ss) ∷ flat_map section_lines ss ≡ header_line (has_later ts) ∷ flat_map section_lines ts = same_lines (lines_of ss) (lines_of ts) (sections_lines ss each) (sections_lines ts each') e in
    let bodies : flat_map section_lines ss ≡ flat_map section_lines ts = following (header_line (has_later ss)) (header_line (has_later ts)) (flat_map section_lines ss) (flat_map section_lines ts) lines in
    same_bodies ss ts each each' bodies
