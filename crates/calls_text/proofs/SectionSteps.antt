-- Sections one after the other.
use Rattle.std.proofs.Common.{◌≡◌, ℕ, ◌+◌, ◌<◌, Bool, false, List, [], ◌∷◌, ◌++◌, length, Some, None, refl, sym, ap, ◌∙◌, append_assoc, length-append}
use Rattle.std.specs.Prelude.{codes}
use Rattle.std.specs.List.{flat_map}
use Rattle.std.proofs.lemmas.Grind.{flat_map-append}
use Rattle.std.proofs.lemmas.List.Folds.{list_any-append}
use Rattle.std.proofs.lemmas.Option.{some_pair_parts}
use Rattle.calls_text.specs.declared.fault.PartFault.{PartFault}
use Rattle.calls_text.specs.declared.fault.PartFault.TheVariants.{Bad, Memory}
use Rattle.calls_text.specs.SectionView.{SectionView}
use Rattle.calls_text.specs.Spelling.{domain_line, section_lines, some_later, has_later, text_of}
use Rattle.calls_text.specs.ReadSoFar.{KnowsLater, entries_text, SoFar, LacksEntry, IsSectionRead, sections_text, LastHasRoom, SectionsSoFar}
use Rattle.calls_text.specs.private.Reading.{cut_at, domain_at, PartFails, IsFirstSection, LacksDomain, IsNoSection}
use Rattle.calls_text.proofs.Cuts.{cut_takes, cut_again}
use Rattle.calls_text.proofs.Lines.{domain_text, domain_takes, domain_again, domain_lacks}
use Rattle.calls_text.proofs.Flags.{none_of}
use Rattle.calls_text.proofs.Sections.{each_more, lines_more}

-- ---- one section

grouped : (d t r : List ℕ) → ((d ++ (10 ∷ [])) ++ t) ++ r ≡ d ++ (10 ∷ (t ++ r))
grouped d t r = simp append_assoc

pub first_section : (later : Bool) (text after rest : List ℕ) (s : SectionView) → IsSectionRead s → text ≡ domain_line s ++ (10 ∷ after) → SoFar later after rest s.entries → (length s.entries < 65536 → LacksEntry later rest) → IsFirstSection later text rest s
first_section later text after rest s is first so_far stops = record {
  parts = first ∙ ap (λ (b : List ℕ). domain_line s ++ (10 ∷ b)) so_far.parts ∙ sym (grouped (domain_line s) (entries_text s.entries) rest);
  is = is;
  known = so_far.known;
  stops = stops;
}

-- the line of a domain, where one was read
pub domain_found : (text line after : List ℕ) (d : ℕ × ℕ) (s : SectionView) → s.cpus ≡ d.0 → s.limit ≡ d.1 → cut_at 10 text ≡ Some (line, after) → domain_at line ≡ Some d → text ≡ domain_line s ++ (10 ∷ after)
domain_found text line after d s same alike cut read =
    cut_takes 10 text (line, after) cut ∙ ap (λ (l : List ℕ). l ++ (10 ∷ after)) ((domain_takes line d read).line_is ∙ ap (λ (c : ℕ). domain_text c d.1) (sym same) ∙ ap (λ (l : ℕ). domain_text s.cpus l) (sym alike))

domain_cut : (s : SectionView) (rest : List ℕ) → IsSectionRead s → cut_at 10 (domain_line s ++ (10 ∷ rest)) ≡ Some (domain_line s, rest)
domain_cut s rest is = cut_again 10 (domain_line s) rest (domain_lacks s.cpus s.limit is.most is.high)

-- an unfinished line is no domain's
pub domain_unfinished : (text : List ℕ) → cut_at 10 text ≡ None → LacksDomain text
domain_unfinished text none = λ s after is same. absurd (let f = sym none ∙ ap (cut_at 10) same ∙ domain_cut s after is in cc)

-- nor is a line that is read as none
domain_bad : (text line rest : List ℕ) → cut_at 10 text ≡ Some (line, rest) → domain_at line ≡ None → LacksDomain text
domain_bad text line rest cut none = λ s after is same.
    let line_is = (some_pair_parts line (domain_line s) rest after (sym cut ∙ ap (cut_at 10) same ∙ domain_cut s after is)).0 in
    absurd (let f = sym none ∙ ap domain_at line_is ∙ domain_again s.cpus s.limit is.some is.most is.low is.high in cc)

pub no_section : (text line rest : List ℕ) (fault : PartFault) → cut_at 10 text ≡ Some (line, rest) → PartFails fault (domain_at line) → IsNoSection text fault
no_section text line rest Bad cut none = domain_bad text line rest cut none
no_section text line rest Memory cut none = tt

-- ---- one section more

last_room : (sections : List SectionView) (s : SectionView) → LastHasRoom (sections ++ s ∷ []) → length s.entries < 65536
last_room [] s room = room
last_room (t ∷ []) s room = room
last_room (t ∷ u ∷ sections) s room = last_room (u ∷ sections) s room

pub count_more : (sections : List SectionView) (s : SectionView) → length (flat_map section_lines (sections ++ s ∷ [])) ≡ length (flat_map section_lines sections) + length (section_lines s)
count_more sections s = ap length (lines_more sections s) ∙ length-append (flat_map section_lines sections) (section_lines s)

text_more : (sections : List SectionView) (s : SectionView) → sections_text (sections ++ s ∷ []) ≡ sections_text sections ++ text_of (section_lines s)
text_more sections s = ap text_of (lines_more sections s) ∙ flat_map-append (λ (line : List ℕ). line ++ codes "\n") (flat_map section_lines sections) (section_lines s)

parts_more : (later : Bool) (text rest after : List ℕ) (sections : List SectionView) (s : SectionView) → SectionsSoFar later text rest sections → IsFirstSection later rest after s → text ≡ sections_text (sections ++ s ∷ []) ++ after
parts_more later text rest after sections s so_far first =
    so_far.parts ∙ ap (λ (r : List ℕ). sections_text sections ++ r) first.parts ∙ sym (append_assoc (sections_text sections) (text_of (section_lines s)) after) ∙ ap (λ (t : List ℕ). t ++ after) (sym (text_more sections s))

known_more : (later : Bool) (sections : List SectionView) (s : SectionView) → KnowsLater later (has_later sections) → KnowsLater later (some_later s.entries) → KnowsLater later (has_later (sections ++ s ∷ []))
known_more later sections s knows more =
    λ no. list_any-append (λ (x : SectionView). some_later x.entries) sections (s ∷ []) ∙ none_of (has_later sections) (has_later (s ∷ [])) (knows no) (none_of (some_later s.entries) false (more no) refl)

pub section_more : (later : Bool) (text rest after : List ℕ) (sections : List SectionView) (s : SectionView) → SectionsSoFar later text rest sections → IsFirstSection later rest after s → SectionsSoFar later text after (sections ++ s ∷ [])
section_more later text rest after sections s so_far first = record {
  parts = parts_more later text rest after sections s so_far first;
  each = each_more sections s so_far.each first.is;
  known = known_more later sections s so_far.known first.known;
  stops = λ room. first.stops (last_room sections s room);
}

-- before the first section
pub sections_start : (later : Bool) (text : List ℕ) → SectionsSoFar later text text []
sections_start later text = record { parts = refl; each = tt; known = λ no. refl; stops = λ room. absurd room }
