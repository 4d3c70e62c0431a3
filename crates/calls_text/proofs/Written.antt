-- A text that grows piece by piece.
use Rattle.std.proofs.Common.{◌≡◌, ℕ, ◌+◌, ◌-◌, ◌<◌, ◌≤◌, Bool, true, ◌||◌, List, [], ◌∷◌, ◌++◌, length, get_or, map, take, drop, Option, Some, None, Result, Ok, Err, refl, sym, ap, ◌∙◌, arith}
use Rattle.std.specs.Prelude.{codes, IfOk, OnOk}
use Rattle.std.specs.Fmt.{digits, signed_decimal}
use Rattle.std.specs.List.{flat_map, join_with_byte}
use Rattle.std.proofs.lemmas.Grind.{flat_map-append}
use Rattle.std.proofs.lemmas.List.{append-nil, take_all, take_more}
use Rattle.calls_text.specs.declared.section.Entry.{Entry}
use Rattle.calls_text.specs.SectionView.{SectionView}
use Rattle.task_script.specs.declared.phase.Event.{Event}
use Rattle.task_script.specs.script.Segments.{loops_of}
use Rattle.calls_text.specs.Spelling.{event_text, events_text, loops_text, entry_line, domain_line, section_lines, is_later, some_later, has_later, header_line, text_of, spelling}
use Rattle.calls_text.specs.Limits.{AreRead}
use Rattle.calls_text.specs.ReadSoFar.{entries_text}
use Rattle.calls_text.specs.RoundTrip.{without_reply, without_replies, IsReadAs}
use Rattle.draft.specs.Draft.{DraftView, Adds}
use Rattle.draft.proofs.CallerLemmas.{joined, as_text, more_lines}
use Rattle.calls_text.proofs.Cuts.{rest_is}
use Rattle.calls_text.proofs.Sections.{same_sections}

-- the first item, and each of the others with a comma before it
pub joined_first : {X : Type 0} (spell : X → List ℕ) (x : X) (xs : List X) → join_with_byte 44 (map spell (x ∷ xs)) ≡ spell x ++ flat_map (λ y. 44 ∷ spell y) xs
joined_first spell x [] = sym (append-nil (spell x))
joined_first spell x (y ∷ ys) = ap (λ (r : List ℕ). spell x ++ (44 ∷ r)) (joined_first spell y ys)

-- the first event and the others, as they were put after what stood before
pub events_put : (events : List Event) (d : Event) (before begun out : DraftView) (i : ℕ) → 1 ≤ length events → Adds before begun (event_text (get_or events 0 d)) → length (take (length events - 1) (drop 1 events)) ≤ i
    → Adds begun out (flat_map (λ e. 44 ∷ event_text e) (take i (take (length events - 1) (drop 1 events)))) → Adds before out (events_text events)
events_put [] d before begun out i some first past e = absurd (omega arith)
events_put (x ∷ xs) d before begun out i some first past e =
    let others : take i (take (length (x ∷ xs) - 1) (drop 1 (x ∷ xs))) ≡ xs = take_all i (take (length (x ∷ xs) - 1) (drop 1 (x ∷ xs))) past ∙ rest_is 1 (x ∷ xs) in
    as_text before out _ _
    (ap (λ (ys : List Event). event_text x ++ flat_map (λ e. 44 ∷ event_text e) ys) others ∙ sym (joined_first event_text x xs))
    (joined before begun out _ _ first e)

abbrev line_break : List ℕ → List ℕ
line_break line = line ++ codes "\n"

-- one more section
pub headed_more : (later : Bool) (sections : List SectionView) (s : SectionView) → text_of (header_line later ∷ flat_map section_lines (sections ++ s ∷ [])) ≡ text_of (header_line later ∷ flat_map section_lines sections) ++ text_of (section_lines s)
headed_more later sections s =
    ap (λ (ls : List (List ℕ)). text_of (header_line later ∷ ls)) (flat_map-append section_lines sections (s ∷ []) ∙ ap (λ (ls : List (List ℕ)). flat_map section_lines sections ++ ls) (append-nil (section_lines s)))
    ∙ flat_map-append line_break (header_line later ∷ flat_map section_lines sections) (section_lines s)

entries_flat : (entries : List Entry) → entries_text entries ≡ flat_map (λ e. line_break (entry_line e)) entries
entries_flat [] = refl
entries_flat (e ∷ entries) = ap (λ (r : List ℕ). line_break (entry_line e) ++ r) (entries_flat entries)

pub entry_more : (entries : List Entry) (i : ℕ) (e : Entry) (old before after : DraftView) → i < length entries → e ≡ get_or entries i e → Adds old before (entries_text (take i entries)) → Adds before after (line_break (entry_line e)) → Adds old after (entries_text (take (i + 1) entries))
entry_more entries i e old before after within is so_far put =
    let line : Entry → List ℕ = λ x. line_break (entry_line x) in
    as_text old after _ _ (sym (entries_flat (take (i + 1) entries)))
    (more_lines line entries i e old before after within (as_text old before _ _ (entries_flat (take i entries)) so_far) (as_text before after _ _ (ap line is) put))

pub section_more : (later : Bool) (sections : List SectionView) (i : ℕ) (s : SectionView) (now more : List ℕ) → i < length sections → s ≡ get_or sections i s → now ≡ text_of (header_line later ∷ flat_map section_lines (take i sections)) → more ≡ now ++ text_of (section_lines s)
    → more ≡ text_of (header_line later ∷ flat_map section_lines (take (i + 1) sections))
section_more later sections i s now more within is so_far put =
    put ∙ ap (λ (b : List ℕ). b ++ text_of (section_lines s)) so_far ∙ sym (headed_more later (take i sections) s)
    ∙ ap (λ (ss : List SectionView). text_of (header_line later ∷ flat_map section_lines ss)) (ap (λ (y : SectionView). take i sections ++ y ∷ []) is ∙ sym (take_more sections i s within))

-- the text that a draft of the spelling gives at its end
pub spelled : {V E : Type 0} (items : V → List ℕ) (r : Result V E) (out : DraftView) (sections : List SectionView) (i : ℕ) → length sections ≤ i → (out.whole ≡ true → out.text ≡ text_of (header_line (has_later sections) ∷ flat_map section_lines (take i sections)))
    → IfOk r (λ v. items v ≡ out.text) → OnOk r (out.whole ≡ true) → IfOk r (λ v. items v ≡ spelling sections)
spelled items (Ok v) out sections i past so_far is whole =
    is ∙ so_far whole ∙ ap (λ (ss : List SectionView). text_of (header_line (has_later sections) ∷ flat_map section_lines ss)) (take_all i sections past)
spelled items (Err e) out sections i past so_far is whole = tt

-- the loop count, as a signed number
pub loops_said : (rounds : Option ℕ) → signed_decimal (loops_of rounds) ≡ loops_text rounds
unfolding digits
loops_said None = refl
loops_said (Some n) = refl

-- ---- replies

entries_bare : (entries : List Entry) → map entry_line (map without_reply entries) ≡ map entry_line entries
entries_bare [] = refl
entries_bare (e ∷ entries) = ap (λ (ls : List (List ℕ)). entry_line e ∷ ls) (entries_bare entries)

lines_bare : (sections : List SectionView) → flat_map section_lines (map without_replies sections) ≡ flat_map section_lines sections
lines_bare [] = refl
lines_bare (s ∷ sections) =
    ap (λ (ls : List (List ℕ)). (domain_line s ∷ ls) ++ flat_map section_lines (map without_replies sections)) (entries_bare s.entries)
    ∙ ap (λ (ls : List (List ℕ)). section_lines s ++ ls) (lines_bare sections)

some_bare : (entries : List Entry) → some_later (map without_reply entries) ≡ some_later entries
some_bare [] = refl
some_bare (e ∷ entries) = ap (λ (b : Bool). is_later e.call || b) (some_bare entries)

has_bare : (sections : List SectionView) → has_later (map without_replies sections) ≡ has_later sections
has_bare [] = refl
has_bare (s ∷ sections) = ap (λ (b : Bool). b || has_later (map without_replies sections)) (some_bare s.entries) ∙ ap (λ (b : Bool). some_later s.entries || b) (has_bare sections)

-- no reply is written
spelling_bare : (sections : List SectionView) → spelling (map without_replies sections) ≡ spelling sections
spelling_bare sections =
    ap (λ (b : Bool). text_of (header_line b ∷ flat_map section_lines (map without_replies sections))) (has_bare sections) ∙ ap (λ (ls : List (List ℕ)). text_of (header_line (has_later sections) ∷ ls)) (lines_bare sections)

-- what is written is read as what was written
pub read_as : (text : List ℕ) (sections : List SectionView) → text ≡ spelling sections → AreRead (map without_replies sections) → IsReadAs text (map without_replies sections)
read_as text sections e are =
    let spelled : text ≡ spelling (map without_replies sections) = e ∙ sym (spelling_bare sections) in
    record { accepted = are; spelled = spelled; alone = λ others are' same. same_sections others (map without_replies sections) are' are (sym same ∙ spelled) }
