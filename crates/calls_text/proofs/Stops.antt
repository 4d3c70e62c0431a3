-- The first bad line of a text that is no sections'.
use Rattle.std.proofs.Common.{◌≡◌, ℕ, zero, suc, ◌+◌, ◌-◌, ◌≤◌, ◌<◌, Bool, true, false, not, eqb, cond, ◌&&◌, ◌||◌, List, [], ◌∷◌, ◌++◌, ◌⊎◌, length, get_or, map, Some, None, refl, sym, ap, subst, ◌∙◌, append_assoc, append-nil, inl, inr, arith, length-append}
use Rattle.std.specs.Prelude.{codes}
use Rattle.std.specs.List.{AllByRecursion, flat_map}
use Rattle.std.specs.Str.{bytes_eq}
use Rattle.std.proofs.lemmas.Bool.{and_parts, eqb-true, eqb-false, eq-eqb, ne_eqb}
use Rattle.std.proofs.lemmas.List.{map-append}
use Rattle.std.proofs.lemmas.List.Folds.{list_any-append}
use Rattle.std.proofs.lemmas.Slice.Eq.{bytes_eq-Decides}
use Rattle.std.proofs.lemmas.Option.{some_pair_parts}
use Rattle.domain_run.specs.declared.call.Call.TheVariants.{Limit}
use Rattle.calls_text.specs.declared.section.Entry.{Entry}
use Rattle.calls_text.specs.SectionView.{SectionView}
use Rattle.calls_text.specs.Spelling.{entry_line, domain_line, section_lines, is_later, some_later, has_later, header_line, lines_of, text_of, spelling}
use Rattle.calls_text.specs.OwnCalls.{IsNumberedAfter, count_made_by}
use Rattle.calls_text.specs.Limits.{AreRead}
use Rattle.calls_text.specs.BadLine.{IsAccepted, BeginsSections, IsBadLine}
use Rattle.calls_text.specs.ReadSoFar.{KnowsLater, IsEntryRead, IsSectionRead, LacksEntry, LastHasRoom, sections_text, last_full}
use Rattle.calls_text.specs.private.Reading.{cut_at, header_at, LacksDomain, AreSectionsOf, is_full, is_stuck, bad_place, is_whole_text}
use Rattle.calls_text.proofs.Flags.{by_second}
use Rattle.calls_text.proofs.Cuts.{cut_takes, cut_again}
use Rattle.calls_text.proofs.Lines.{line_lacks}
use Rattle.calls_text.proofs.Entries.{each_more as entries_more, numbered_more}
use Rattle.calls_text.proofs.Fronts.{AreLines, compared, front_lines, no_line, header_lacks, headed_lines, sections_lines}
use Rattle.calls_text.proofs.Sections.{section_from, are_read, each_read, each_more, lines_more, following, follows, same_bodies, more_room}

abbrev body : List SectionView → List (List ℕ)
body sections = flat_map section_lines sections

-- the lines of sections after a header
abbrev headed : Bool → List SectionView → List (List ℕ)
headed later sections = header_line later ∷ body sections

-- ---- headers

header_same : (a b : Bool) → header_line a ≡ header_line b → a ≡ b
header_same false false e = refl
header_same false true e = let f : 49 ≡ 50 = ap (λ (l : List ℕ). get_or l 8 0) e in absurd (omega (arith, f))
header_same true false e = let f : 50 ≡ 49 = ap (λ (l : List ℕ). get_or l 8 0) e in absurd (omega (arith, f))
header_same true true e = refl

first_same : (x y : List ℕ) (a b : List (List ℕ)) → x ∷ a ≡ y ∷ b → x ≡ y
first_same x y a b e = cc

header_again : (later : Bool) → header_at (header_line later) ≡ Some later
unfolding header_at
header_again false = refl
header_again true = refl

header_by : (line : List ℕ) (later one two : Bool) → bytes_eq line (codes "dlcalls 1") ≡ one → bytes_eq line (codes "dlcalls 2") ≡ two → cond one (Some false) (cond two (Some true) None) ≡ Some later → line ≡ header_line later
header_by line false true two is e h = (bytes_eq-Decides line (codes "dlcalls 1")).0 is
header_by line true true two is e h = absurd cc
header_by line true false true e is h = (bytes_eq-Decides line (codes "dlcalls 2")).0 is
header_by line false false true e is h = absurd cc
header_by line later false false e f h = absurd cc

header_takes : (line : List ℕ) (later : Bool) → header_at line ≡ Some later → line ≡ header_line later
unfolding header_at
header_takes line later h = header_by line later (bytes_eq line (codes "dlcalls 1")) (bytes_eq line (codes "dlcalls 2")) refl refl h

header_cut : (later : Bool) (rest : List ℕ) → cut_at 10 (header_line later ++ (10 ∷ rest)) ≡ Some (header_line later, rest)
header_cut later rest = cut_again 10 (header_line later) rest (header_lacks later)

-- the text of the header and of sections
headed_text : (later : Bool) (sections : List SectionView) (rest : List ℕ) → header_line later ++ (10 ∷ (sections_text sections ++ rest)) ≡ text_of (headed later sections) ++ rest
headed_text later sections rest = simp append_assoc

spelled : (sections : List SectionView) → spelling sections ≡ header_line (has_later sections) ++ (10 ∷ sections_text sections)
spelled sections = append_assoc (header_line (has_later sections)) (codes "\n") (sections_text sections)

-- ---- sections that go on so that the limit changes

abbrev change : ℕ → Entry
change seq = record { client = 1; seq = seq; call = Limit 10485 None; reply = None }

change_is : (seq : ℕ) → IsEntryRead (change seq)
change_is seq = record { within = record { client = (omega arith, omega arith); call = (omega arith, omega arith, tt) }; no_reply = refl }

-- sections whose lines go on after those of others, and in which the limit changes
record Changed (sections : List SectionView) : Type 0 where
  others : List SectionView
  each : AllByRecursion IsSectionRead others
  most : length others ≤ 8
  more : List (List ℕ)
  lines : body others ≡ body sections ++ more
  has : has_later others ≡ true

-- by a section of one such call
changed_sample : SectionView
changed_sample = section_from 1 1048576 (change 0 ∷ [])

changed_is : IsSectionRead changed_sample
unfolding changed_sample
changed_is = record { some = omega arith; most = omega arith; low = omega arith; high = omega arith; few = omega arith; each = (change_is 0, tt); numbered = (refl, tt) }

changed_has : has_later (changed_sample ∷ []) ≡ true
unfolding changed_sample
changed_has = refl

changed_after : (sections : List SectionView) → AllByRecursion IsSectionRead sections → length sections < 8 → Changed sections
changed_after sections each few = record {
  others = sections ++ changed_sample ∷ [];
  each = each_more sections changed_sample each changed_is;
  most = omega (arith, few, length-append sections (changed_sample ∷ []));
  more = section_lines changed_sample;
  lines = lines_more sections changed_sample;
  has = list_any-append (λ (x : SectionView). some_later x.entries) sections (changed_sample ∷ []) ∙ by_second (has_later sections) (has_later (changed_sample ∷ [])) changed_has;
}

-- by a call after those of the last section
abbrev longer_by : SectionView → Entry → SectionView
longer_by s e = section_from s.cpus s.limit (s.entries ++ e ∷ [])

longer_read : (s : SectionView) (e : Entry) → IsSectionRead s → IsEntryRead e → e.seq ≡ count_made_by e.client s.entries → length s.entries < 65536 → IsSectionRead (longer_by s e)
longer_read s e is read seq few = record {
  some = is.some;
  most = is.most;
  low = is.low;
  high = is.high;
  few = omega (arith, few, length-append s.entries (e ∷ []));
  each = entries_more s.entries e is.each read;
  numbered = numbered_more [] s.entries e is.numbered seq;
}

longer_lines : (s : SectionView) (e : Entry) → body (longer_by s e ∷ []) ≡ body (s ∷ []) ++ entry_line e ∷ []
longer_lines s e =
    ap (λ (ls : List (List ℕ)). (domain_line s ∷ ls) ++ []) (map-append entry_line s.entries (e ∷ [])) ∙ append-nil (domain_line s ∷ (map entry_line s.entries ++ entry_line e ∷ []))
    ∙ ap (λ (ls : List (List ℕ)). ls ++ entry_line e ∷ []) (sym (append-nil (section_lines s)))

longer_has : (s : SectionView) (e : Entry) → is_later e.call ≡ true → has_later (longer_by s e ∷ []) ≡ true
longer_has s e is =
    ap (λ (b : Bool). b || false) (list_any-append (λ (x : Entry). is_later x.call) s.entries (e ∷ []) ∙ by_second (some_later s.entries) (is_later e.call || false) (ap (λ (b : Bool). b || false) is))

record ChangedLast (sections : List SectionView) : Type 0 where
  others : List SectionView
  each : AllByRecursion IsSectionRead others
  count : length others ≡ length sections
  more : List (List ℕ)
  lines : body others ≡ body sections ++ more
  has : has_later others ≡ true

changed_last : (sections : List SectionView) → AllByRecursion IsSectionRead sections → LastHasRoom sections → ChangedLast sections
changed_last [] each room = absurd room
changed_last (s ∷ []) each room =
    let e = change (count_made_by 1 s.entries) in
    record {
      others = longer_by s e ∷ [];
      each = (longer_read s e each.0 (change_is (count_made_by 1 s.entries)) refl room, tt);
      count = refl;
      more = entry_line e ∷ [];
      lines = longer_lines s e;
      has = longer_has s e refl;
    }
changed_last (s ∷ t ∷ sections) each room =
    let r = changed_last (t ∷ sections) each.1 room in
    record {
      others = s ∷ r.others;
      each = (each.0, r.each);
      count = ap suc r.count;
      more = r.more;
      lines = ap (λ (ls : List (List ℕ)). section_lines s ++ ls) r.lines ∙ sym (append_assoc (section_lines s) (body (t ∷ sections)) r.more);
      has = by_second (some_later s.entries) (has_later r.others) r.has;
    }

in_last : (sections : List SectionView) → AllByRecursion IsSectionRead sections → length sections ≤ 8 → LastHasRoom sections → Changed sections
in_last sections each most room =
    let r = changed_last sections each room in
    record { others = r.others; each = r.each; most = omega (arith, r.count, most); more = r.more; lines = r.lines; has = r.has }

-- the last section has room, or it is full
room_by : (n : ℕ) (full : Bool) → eqb n 65536 ≡ full → n ≤ 65536 → (n < 65536) ⊎ (full ≡ true)
room_by n true e few = inr refl
room_by n false e few = inl (let differ = eqb-false n 65536 e in omega (arith, differ, few))

has_room : (sections : List SectionView) → AllByRecursion IsSectionRead sections → 0 < length sections → LastHasRoom sections ⊎ (last_full sections ≡ true)
has_room [] each some = absurd (omega (arith, some))
has_room (s ∷ []) each some = room_by (length s.entries) (eqb (length s.entries) 65536) refl each.0.few
has_room (s ∷ t ∷ sections) each some = has_room (t ∷ sections) each.1 (omega arith)

no_room : (sections : List SectionView) → last_full sections ≡ true → LastHasRoom sections → ⊥
no_room [] full room = room
no_room (s ∷ []) full room = let n = eqb-true (length s.entries) 65536 full in omega (arith, n, room)
no_room (s ∷ t ∷ sections) full room = no_room (t ∷ sections) full room

-- ---- which lines begin an accepted text

begins_by : (later : Bool) (sections others : List SectionView) (more : List (List ℕ)) → AllByRecursion IsSectionRead others → 0 < length others → length others ≤ 8 → has_later others ≡ later → body others ≡ body sections ++ more → BeginsSections (headed later sections)
begins_by later sections others more each some most has lines =
    (others, are_read others each some most, more, ap (λ (b : Bool). headed b others) has ∙ ap (λ (ls : List (List ℕ)). header_line later ∷ ls) lines)

some_where : (sections : List SectionView) → has_later sections ≡ true → 0 < length sections
some_where [] has = absurd cc
some_where (s ∷ sections) has = omega arith

changed_begins : (sections : List SectionView) → Changed sections → BeginsSections (headed true sections)
changed_begins sections c = begins_by true sections c.others c.more c.each (some_where c.others c.has) c.most c.has c.lines

itself_begins : (later : Bool) (sections : List SectionView) → AllByRecursion IsSectionRead sections → 0 < length sections → length sections ≤ 8 → has_later sections ≡ later → BeginsSections (headed later sections)
itself_begins later sections each some most has = begins_by later sections sections [] each some most has (sym (append-nil (body sections)))

empty_is : IsSectionRead (section_from 1 1048576 [])
empty_is = record { some = omega arith; most = omega arith; low = omega arith; high = omega arith; few = omega arith; each = tt; numbered = tt }

header_begins : BeginsSections (headed false [])
header_begins = begins_by false [] (section_from 1 1048576 [] ∷ []) (body (section_from 1 1048576 [] ∷ [])) (empty_is, tt) (omega arith) (omega arith) refl refl

plain_begins : (sections : List SectionView) → AllByRecursion IsSectionRead sections → length sections ≤ 8 → has_later sections ≡ false → BeginsSections (headed false sections)
plain_begins [] each most has = header_begins
plain_begins (s ∷ sections) each most has = itself_begins false (s ∷ sections) each (omega arith) most has

may_change : (sections : List SectionView) (eight : Bool) → eqb (length sections) 8 ≡ eight → AllByRecursion IsSectionRead sections → length sections ≤ 8 → (eight && last_full sections) ≡ false → Changed sections
may_change sections false e each most free = changed_after sections each (let differ = eqb-false (length sections) 8 e in omega (arith, differ, most))
may_change sections true e each most free =
    elim (has_room sections each (let n = eqb-true (length sections) 8 e in omega (arith, n))) [
      | inl room ↦ in_last sections each most room
      | inr full ↦ absurd (let f = sym full ∙ free in cc)
    ]

begins_headed : (later has : Bool) (sections : List SectionView) → has_later sections ≡ has → AllByRecursion IsSectionRead sections → length sections ≤ 8 → KnowsLater later has → (later && not has && (eqb (length sections) 8 && last_full sections)) ≡ false → BeginsSections (headed later sections)
begins_headed false has sections e each most knows free = plain_begins sections each most (e ∙ knows refl)
begins_headed true true sections e each most knows free = itself_begins true sections each (some_where sections e) most e
begins_headed true false sections e each most knows free = changed_begins sections (may_change sections (eqb (length sections) 8) refl each most free)

-- ---- what follows such lines

-- a text that begins so goes on after these sections, or is theirs
record Follows (later : Bool) (sections : List SectionView) (more : List (List ℕ)) : Type 0 where
  others : List SectionView
  each : AllByRecursion IsSectionRead others
  most : length others ≤ 8
  has : has_later others ≡ later
  lines : body others ≡ body sections ++ more

follows_from : (later : Bool) (sections : List SectionView) (more : List (List ℕ)) (others : List SectionView) → AreRead others → lines_of others ≡ headed later sections ++ more → Follows later sections more
follows_from later sections more others are e =
    let whole : header_line (has_later others) ∷ body others ≡ header_line later ∷ (body sections ++ more) = e in
    record {
      others = others;
      each = each_read others are;
      most = are.within.most;
      has = header_same (has_later others) later (first_same (header_line (has_later others)) (header_line later) (body others) (body sections ++ more) whole);
      lines = following (header_line (has_later others)) (header_line later) (body others) (body sections ++ more) whole;
    }

-- no line after these sections goes on as in an accepted text
abbrev NoLineFollows : Bool → List ℕ → List SectionView → Type 0
NoLineFollows later rest sections = (line after : List ℕ) → rest ≡ line ++ 10 ∷ after → BeginsSections (headed later sections ++ line ∷ []) → ⊥

not_true : (b : Bool) → (b ≡ true → ⊥) → b ≡ false
not_true false never = refl
not_true true never = absurd (never refl)

never_true : (b : Bool) → b ≡ false → b ≡ true → ⊥
never_true b is isnt = let f = sym is ∙ isnt in cc

no_line_follows : (later : Bool) (rest : List ℕ) (sections : List SectionView) → (LastHasRoom sections → LacksEntry later rest) → (length sections < 8 → LacksDomain rest) → NoLineFollows later rest sections
no_line_follows later rest sections stops ends = λ line after same begins.
    let f = follows_from later sections (line ∷ begins.2) begins.0 begins.1 (begins.3 ∙ append_assoc (headed later sections) (line ∷ []) begins.2) in
    elim (follows sections f.others line begins.2 f.each f.lines) [
      | inl g ↦
          let knows : KnowsLater later (is_later g.entry.call) = λ no. not_true (is_later g.entry.call) (λ yes. never_true (has_later f.others) (f.has ∙ no) (g.among yes)) in
          stops g.room g.entry after g.is knows (same ∙ ap (λ (l : List ℕ). l ++ 10 ∷ after) g.line_is)
      | inr g ↦ ends (omega (arith, g.within, f.most)) g.section after g.is (same ∙ ap (λ (l : List ℕ). l ++ 10 ∷ after) g.line_is)
    ]

-- nothing follows where the last section is full and all sections are there, so these lines are a
-- text's only where the limit changes in them
full_ends : (later : Bool) (sections : List SectionView) (more : List (List ℕ)) → AllByRecursion IsSectionRead sections → length sections ≡ 8 → last_full sections ≡ true → Follows later sections more → has_later sections ≡ later
full_ends later sections [] each eight full f = ap has_later (sym (same_bodies f.others sections f.each each (f.lines ∙ append-nil (body sections)))) ∙ f.has
full_ends later sections (line ∷ more) each eight full f =
    elim (follows sections f.others line more f.each f.lines) [
      | inl g ↦ absurd (no_room sections full g.room)
      | inr g ↦ absurd (let most = f.most in omega (arith, g.within, most, eight))
    ]

-- ---- the first bad line after sections

-- the text is not accepted where nothing goes on and these sections are not what the header says
never_accepted : (later : Bool) (text rest : List ℕ) (sections : List SectionView) → text ≡ text_of (headed later sections) ++ rest → AllByRecursion IsSectionRead sections → (length rest ≡ 0 → 0 < length sections → has_later sections ≡ later → ⊥) → NoLineFollows later rest sections → IsAccepted text → ⊥
unfolding follows_from
never_accepted later text rest sections parts each unfit none accepted =
    let others = accepted.0 in
    let same : text_of (headed later sections) ++ rest ≡ text_of (lines_of others) ++ [] = sym parts ∙ accepted.2 ∙ sym (append-nil (spelling others)) in
    elim (compared (headed later sections) (lines_of others) rest [] (headed_lines later sections each) (sections_lines others (each_read others accepted.1)) same) [
      | inl lines ↦
          let texts = ap length (ap text_of lines) in
          let long = ap length same in
          let f = follows_from later sections [] others accepted.1 (sym lines ∙ sym (append-nil (headed later sections))) in
          let is : others ≡ sections = same_bodies others sections f.each each (f.lines ∙ append-nil (body sections)) in
          let some = accepted.1.within.some in
          unfit (omega (arith, texts, long, length-append (text_of (headed later sections)) rest, length-append (text_of (lines_of others)) [])) (omega (arith, some, ap length is)) (ap has_later (sym is) ∙ f.has)
      | inr (inl g) ↦ none g.line g.after g.rest_is (others, accepted.1, g.more, g.other_is ∙ sym (append_assoc (headed later sections) (g.line ∷ []) g.more))
      | inr (inr g) ↦ no_line g.line g.after g.rest_is
    ]

bad_next : (later : Bool) (text text_body rest : List ℕ) (sections : List SectionView) (n : ℕ) → text ≡ header_line later ++ (10 ∷ text_body) → AreSectionsOf later text_body rest sections → (length rest ≡ 0 → 0 < length sections → has_later sections ≡ later → ⊥) → is_stuck later sections ≡ false → n ≡ length (body sections) + 2 → IsBadLine text n
bad_next later text text_body rest sections n header are unfit free place =
    let parts : text ≡ text_of (headed later sections) ++ rest = header ∙ ap (λ (b : List ℕ). header_line later ++ (10 ∷ b)) are.so_far.parts ∙ headed_text later sections rest in
    let stops = no_line_follows later rest sections are.so_far.stops are.ends in
    record {
      front = headed later sections;
      rest = rest;
      parts = parts;
      place = omega (arith, place);
      before = begins_headed later (has_later sections) sections refl are.so_far.each are.most are.so_far.known free;
      stops = stops;
      refused = never_accepted later text rest sections parts are.so_far.each unfit stops;
    }

-- ---- the last line of sections

record LastEntry (entries : List Entry) : Type 0 where
  front : List Entry
  last : Entry
  parts : entries ≡ front ++ last ∷ []

last_entry : (entries : List Entry) → 0 < length entries → LastEntry entries
last_entry [] some = absurd (omega (arith, some))
last_entry (e ∷ []) some = record { front = []; last = e; parts = refl }
last_entry (e ∷ f ∷ entries) some =
    let r = last_entry (f ∷ entries) (omega arith) in
    record { front = e ∷ r.front; last = r.last; parts = ap (λ (es : List Entry). e ∷ es) r.parts }

each_before : (entries : List Entry) (e : Entry) → AllByRecursion IsEntryRead (entries ++ e ∷ []) → AllByRecursion IsEntryRead entries × IsEntryRead e
each_before [] e each = (tt, each.0)
each_before (x ∷ entries) e each = let r = each_before entries e each.1 in ((each.0, r.0), r.1)

numbered_before : (before entries : List Entry) (e : Entry) → IsNumberedAfter before (entries ++ e ∷ []) → IsNumberedAfter before entries
numbered_before before [] e is = tt
numbered_before before (x ∷ entries) e is = (is.0, numbered_before (before ++ x ∷ []) entries e is.1)

-- sections whose last line is that of a call, without it
record Shorter (sections : List SectionView) : Type 0 where
  front : List SectionView
  last : Entry
  is : IsEntryRead last
  each : AllByRecursion IsSectionRead front
  count : length front ≡ length sections
  room : LastHasRoom front
  lines : body sections ≡ body front ++ entry_line last ∷ []

one_shorter : (cpus limit : ℕ) (front : List Entry) (last : Entry) → IsSectionRead (section_from cpus limit (front ++ last ∷ [])) → Shorter (section_from cpus limit (front ++ last ∷ []) ∷ [])
one_shorter cpus limit front last is =
    let split = each_before front last is.each in
    let few = is.few in
    let count = length-append front (last ∷ []) in
    let s = section_from cpus limit front in
    let before : IsSectionRead s = record { some = is.some; most = is.most; low = is.low; high = is.high; few = omega (arith, few, count); each = split.0; numbered = numbered_before [] front last is.numbered } in
    record { front = s ∷ []; last = last; is = split.1; each = (before, tt); count = refl; room = omega (arith, few, count); lines = longer_lines s last }

shorter : (sections : List SectionView) → AllByRecursion IsSectionRead sections → last_full sections ≡ true → Shorter sections
shorter [] each full = absurd cc
shorter (s ∷ []) each full =
    let n = eqb-true (length s.entries) 65536 full in
    let r = last_entry s.entries (omega (arith, n)) in
    let is : section_from s.cpus s.limit s.entries ≡ section_from s.cpus s.limit (r.front ++ r.last ∷ []) = ap (section_from s.cpus s.limit) r.parts in
    subst (λ (t : SectionView). Shorter (t ∷ [])) (sym is) (one_shorter s.cpus s.limit r.front r.last (subst IsSectionRead is each.0))
shorter (s ∷ t ∷ sections) each full =
    let r = shorter (t ∷ sections) each.1 full in
    record {
      front = s ∷ r.front;
      last = r.last;
      is = r.is;
      each = (each.0, r.each);
      count = ap suc r.count;
      room = more_room s r.front r.room;
      lines = ap (λ (ls : List (List ℕ)). section_lines s ++ ls) r.lines ∙ sym (append_assoc (section_lines s) (body r.front) (entry_line r.last ∷ []));
    }

last_text : (front : List (List ℕ)) (line rest : List ℕ) → text_of (front ++ line ∷ []) ++ rest ≡ text_of front ++ (line ++ 10 ∷ rest)
last_text [] line rest = simp append_assoc
last_text (x ∷ front) line rest = append_assoc (x ++ codes "\n") (text_of (front ++ line ∷ [])) rest ∙ ap (λ (t : List ℕ). (x ++ codes "\n") ++ t) (last_text front line rest) ∙ sym (append_assoc (x ++ codes "\n") (text_of front) (line ++ 10 ∷ rest))

-- no change of the limit can follow all of these lines
never_begins : (sections : List SectionView) → AllByRecursion IsSectionRead sections → length sections ≡ 8 → last_full sections ≡ true → has_later sections ≡ false → BeginsSections (headed true sections) → ⊥
never_begins sections each eight full none begins =
    never_true (has_later sections) none (full_ends true sections begins.2 each eight full (follows_from true sections begins.2 begins.0 begins.1 begins.3))

accepted_begins : (text rest : List ℕ) (front : List (List ℕ)) → AreLines front → text ≡ text_of front ++ rest → IsAccepted text → BeginsSections front
accepted_begins text rest front lines parts accepted =
    let others = accepted.0 in
    let same : text_of front ++ rest ≡ text_of (lines_of others) ++ [] = sym parts ∙ accepted.2 ∙ sym (append-nil (spelling others)) in
    elim (compared front (lines_of others) rest [] lines (sections_lines others (each_read others accepted.1)) same) [
      | inl is ↦ (others, accepted.1, [], sym is ∙ sym (append-nil front))
      | inr (inl g) ↦ (others, accepted.1, g.line ∷ g.more, g.other_is)
      | inr (inr g) ↦ absurd (no_line g.line g.after g.rest_is)
    ]

-- the last of the lines of a front has no line break
last_lacks : (front : List (List ℕ)) (line : List ℕ) → AreLines (front ++ line ∷ []) → AreLines (line ∷ [])
last_lacks [] line lines = lines
last_lacks (x ∷ front) line lines = last_lacks front line lines.1

-- the lines at the front of an accepted text
pub begun_lines : (front : List (List ℕ)) → BeginsSections front → AreLines front
begun_lines front begins = front_lines front begins.2 (subst AreLines begins.3 (sections_lines begins.0 (each_read begins.0 begins.1)))

bad_last : (text text_body rest : List ℕ) (sections : List SectionView) (n : ℕ) → text ≡ header_line true ++ (10 ∷ text_body) → AreSectionsOf true text_body rest sections → length sections ≡ 8 → last_full sections ≡ true → has_later sections ≡ false → n ≡ length (body sections) + 1 → IsBadLine text n
bad_last text text_body rest sections n header are eight full none place =
    let each = are.so_far.each in
    let s = shorter sections each full in
    let line = entry_line s.last in
    let front = headed true s.front in
    let all : headed true sections ≡ front ++ line ∷ [] = ap (λ (ls : List (List ℕ)). header_line true ∷ ls) s.lines in
    let parts : text ≡ text_of (headed true sections) ++ rest = header ∙ ap (λ (b : List ℕ). header_line true ++ (10 ∷ b)) are.so_far.parts ∙ headed_text true sections rest in
    let never = never_begins sections each eight full none in
    let count = ap length s.lines ∙ length-append (body s.front) (line ∷ []) in
    record {
      front = front;
      rest = line ++ 10 ∷ rest;
      parts = parts ∙ ap (λ (ls : List (List ℕ)). text_of ls ++ rest) all ∙ last_text front line rest;
      place = omega (arith, place, count);
      before = changed_begins s.front (in_last s.front s.each (let c = s.count in omega (arith, c, eight)) s.room);
      stops = λ other after same begins.
          let lacks = last_lacks front other (begun_lines (front ++ other ∷ []) begins) in
          let cuts = sym (cut_again 10 line rest (line_lacks s.last.client s.last.call s.is.within.client s.is.within.call)) ∙ ap (cut_at 10) same ∙ cut_again 10 other after lacks.0 in
          let is = (some_pair_parts line other rest after cuts).0 in
          never (subst BeginsSections (sym all) (subst (λ (l : List ℕ). BeginsSections (front ++ l ∷ [])) (sym is) begins));
      refused = λ accepted. never (accepted_begins text rest (headed true sections) (headed_lines true sections each) parts accepted);
    }

bad_by : (later has eight full : Bool) (text text_body rest : List ℕ) (sections : List SectionView) (n : ℕ) → has_later sections ≡ has → eqb (length sections) 8 ≡ eight → last_full sections ≡ full → text ≡ header_line later ++ (10 ∷ text_body) → AreSectionsOf later text_body rest sections
    → (length rest ≡ 0 → 0 < length sections → has_later sections ≡ later → ⊥) → n ≡ length (body sections) + cond (later && not has && (eight && full)) 1 2 → is_stuck later sections ≡ (later && not has && (eight && full)) → IsBadLine text n
bad_by true false true true text text_body rest sections n a b c header are unfit place stuck = bad_last text text_body rest sections n header are (eqb-true (length sections) 8 b) c a place
bad_by true false true false text text_body rest sections n a b c header are unfit place stuck = bad_next true text text_body rest sections n header are unfit stuck place
bad_by true false false full text text_body rest sections n a b c header are unfit place stuck = bad_next true text text_body rest sections n header are unfit stuck place
bad_by true true eight full text text_body rest sections n a b c header are unfit place stuck = bad_next true text text_body rest sections n header are unfit stuck place
bad_by false has eight full text text_body rest sections n a b c header are unfit place stuck = bad_next false text text_body rest sections n header are unfit stuck place

-- the bad line of a text that goes on after these sections, or has none, or not the changes that
-- its header has
bad_after : (later : Bool) (text text_body rest : List ℕ) (sections : List SectionView) → text ≡ header_line later ++ (10 ∷ text_body) → AreSectionsOf later text_body rest sections → (length rest ≡ 0 → 0 < length sections → has_later sections ≡ later → ⊥) → IsBadLine text (bad_place later sections)
bad_after later text text_body rest sections header are unfit =
    bad_by later (has_later sections) (eqb (length sections) 8) (last_full sections) text text_body rest sections (bad_place later sections) refl refl refl header are unfit refl refl

-- ---- the header

bad_header : (text : List ℕ) → ((later : Bool) (after : List ℕ) → text ≡ header_line later ++ (10 ∷ after) → ⊥) → IsBadLine text 1
bad_header text other = record {
  front = [];
  rest = text;
  parts = refl;
  place = refl;
  before = (header_begins.0, header_begins.1, lines_of header_begins.0, refl);
  stops = λ line after same begins.
      let first = first_same (header_line (has_later begins.0)) line (body begins.0) begins.2 begins.3 in
      other (has_later begins.0) after (same ∙ ap (λ (l : List ℕ). l ++ 10 ∷ after) (sym first));
  refused = λ accepted. other (has_later accepted.0) (sections_text accepted.0) (accepted.2 ∙ spelled accepted.0);
}

pub no_header : (text : List ℕ) → cut_at 10 text ≡ None → IsBadLine text 1
no_header text cut = bad_header text (λ later after same. absurd (let f = sym cut ∙ ap (cut_at 10) same ∙ header_cut later after in cc))

pub other_header : (text header rest : List ℕ) → cut_at 10 text ≡ Some (header, rest) → header_at header ≡ None → IsBadLine text 1
other_header text header rest cut other = bad_header text
    (λ later after same.
    let is = (some_pair_parts header (header_line later) rest after (sym cut ∙ ap (cut_at 10) same ∙ header_cut later after)).0 in
    absurd (let f = sym other ∙ ap header_at is ∙ header_again later in cc))

pub header_first : (text header rest : List ℕ) (later : Bool) → cut_at 10 text ≡ Some (header, rest) → header_at header ≡ Some later → text ≡ header_line later ++ (10 ∷ rest)
header_first text header rest later cut read = cut_takes 10 text (header, rest) cut ∙ ap (λ (h : List ℕ). h ++ (10 ∷ rest)) (header_takes header later read)

-- ---- a whole text

-- what the header says of the sections
fits_by : (later has : Bool) → KnowsLater later has → (not later || has) ≡ true → has ≡ later
fits_by false has knows fits = knows refl
fits_by true has knows fits = fits

unfits_by : (later has : Bool) → has ≡ later → (not later || has) ≡ true
unfits_by false has same = refl
unfits_by true has same = same

some_by : (sections : List SectionView) → not (eqb (length sections) 0) ≡ true → 0 < length sections
some_by [] some = absurd cc
some_by (s ∷ sections) some = omega arith

-- sections after the header that they ask for are what the text spells
spelled_all : (later : Bool) (text text_body rest : List ℕ) (sections : List SectionView) → text ≡ header_line later ++ (10 ∷ text_body) → AreSectionsOf later text_body rest sections → length rest ≡ 0 → 0 < length sections → has_later sections ≡ later → AreRead sections × (text ≡ spelling sections)
spelled_all later text text_body [] sections header are none some has =
    let parts : text ≡ text_of (headed later sections) ++ [] = header ∙ ap (λ (b : List ℕ). header_line later ++ (10 ∷ b)) are.so_far.parts ∙ headed_text later sections [] in
    (are_read sections are.so_far.each some are.most, parts ∙ append-nil (text_of (headed later sections)) ∙ ap (λ (b : Bool). text_of (headed b sections)) (sym has))
spelled_all later text text_body (c ∷ rest) sections header are none some has = absurd (omega (arith, none))

pub sections_found : (later : Bool) (text text_body rest : List ℕ) (sections : List SectionView) → text ≡ header_line later ++ (10 ∷ text_body) → AreSectionsOf later text_body rest sections → is_whole_text later rest sections ≡ true → AreRead sections × (text ≡ spelling sections)
sections_found later text text_body rest sections header are whole =
    let a = and_parts (eqb (length rest) 0 && not (eqb (length sections) 0)) (not later || has_later sections) whole in
    let b = and_parts (eqb (length rest) 0) (not (eqb (length sections) 0)) a.0 in
    spelled_all later text text_body rest sections header are (eqb-true (length rest) 0 b.0) (some_by sections b.1) (fits_by later (has_later sections) are.so_far.known a.1)

whole_by : (later : Bool) (rest : List ℕ) (sections : List SectionView) → length rest ≡ 0 → 0 < length sections → has_later sections ≡ later → is_whole_text later rest sections ≡ true
whole_by later rest sections none some has =
    rw (eq-eqb (length rest) 0 none, ne_eqb (length sections) 0 (λ same. omega (arith, same, some))) (unfits_by later (has_later sections) has)

-- else they stop at the bad line
pub sections_stop : (later : Bool) (text text_body rest : List ℕ) (sections : List SectionView) → text ≡ header_line later ++ (10 ∷ text_body) → AreSectionsOf later text_body rest sections → is_whole_text later rest sections ≡ false → IsBadLine text (bad_place later sections)
sections_stop later text text_body rest sections header are part =
    bad_after later text text_body rest sections header are (λ none some has. never_true (is_whole_text later rest sections) part (whole_by later rest sections none some has))

-- ---- the last section

last_at : (sections : List SectionView) (n : ℕ) (d : SectionView) → length sections ≡ suc n → last_full sections ≡ eqb (length (get_or sections n d).entries) 65536
last_at [] n d e = absurd (omega (arith, e))
last_at (s ∷ []) zero d e = refl
last_at (s ∷ []) (suc n) d e = absurd (omega (arith, e))
last_at (s ∷ t ∷ sections) zero d e = absurd (omega (arith, e))
last_at (s ∷ t ∷ sections) (suc n) d e = last_at (t ∷ sections) n d (omega (arith, e))

pub full_by : (n : ℕ) (sections : List SectionView) (s d : SectionView) → length sections ≡ 8 → s ≡ get_or sections (length sections - 1) d → n ≡ length s.entries → eqb n 65536 ≡ is_full sections
full_by n sections s d eight at len =
    ap (λ (m : ℕ). eqb m 65536) (len ∙ ap (λ (t : SectionView). length t.entries) at) ∙ sym (last_at sections (length sections - 1) d (omega (arith, eight)))
    ∙ ap (λ (b : Bool). b && last_full sections) (sym (eq-eqb (length sections) 8 eight))
