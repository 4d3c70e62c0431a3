-- Lines of calls with their replies, put behind one another.
use Rattle.std.proofs.Common.{◌≡◌, ℕ, List, [], ◌∷◌, ◌++◌, map, Option, Some, refl, sym, ap, ◌∙◌, append_assoc}
use Rattle.std.specs.Prelude.{codes}
use Rattle.std.specs.List.{flat_map}
use Rattle.std.proofs.lemmas.Grind.{flat_map-append}
use Rattle.std.proofs.lemmas.List.{append-nil}
use Rattle.domain_run.specs.declared.call.Reply.{Reply}
use Rattle.domain_run.specs.Domain.{Domain, empty_domain}
use Rattle.domain_run.specs.Calls.{reply_to, after_call}
use Rattle.domain_run.specs.Passing.{without_switches}
use Rattle.domain_run.specs.Run.{replies_to}
use Rattle.calls_text.specs.declared.section.Entry.{Entry}
use Rattle.calls_text.specs.SectionView.{SectionView}
use Rattle.calls_text.specs.Spelling.{domain_line, text_of}
use Rattle.calls_text.specs.Histories.{calls_of}
use Rattle.reply_text.specs.Replies.{answered_line, answered_lines, section_replies, replies_of}
use Rattle.reply_text.specs.private.Recorded.{line_with, recorded_lines}
use Rattle.reply_text.proofs.Forgetting.{same_lines}

-- one more call was made, and its line put down
pub made_more : (d then : Domain) (e : Entry) (entries left : List Entry) (out more all : List ℕ) → left ≡ e ∷ entries → without_switches then ≡ without_switches (after_call d e.call) → more ≡ out ++ (answered_line e (reply_to d e.call) ++ codes "\n")
    → out ++ text_of (answered_lines d left) ≡ all → more ++ text_of (answered_lines then entries) ≡ all
made_more d then e entries left out more all first made put was =
    let line : List ℕ = answered_line e (reply_to d e.call) ++ codes "\n" in
    ap (λ (x : List ℕ). x ++ text_of (answered_lines then entries)) put
    ∙ ap (λ (ls : List (List ℕ)). (out ++ line) ++ text_of ls) (same_lines then (after_call d e.call) entries made)
    ∙ append_assoc out line (text_of (answered_lines (after_call d e.call) entries))
    ∙ sym (ap (λ (es : List Entry). out ++ text_of (answered_lines d es)) first)
    ∙ was

-- legal entries have the replies that they get
pub recorded_is : (d : Domain) (entries : List Entry) → map (λ e. e.reply) entries ≡ map Some (replies_to d (calls_of entries)) → recorded_lines entries ≡ text_of (answered_lines d entries)
recorded_is d [] legal = refl
recorded_is d (e ∷ entries) legal =
    let first : e.reply ≡ Some (reply_to d e.call) = cc in
    let others : map (λ x. x.reply) entries ≡ map Some (replies_to (after_call d e.call) (calls_of entries)) = cc in
    ap (λ (r : Option Reply). line_with e r ++ recorded_lines entries) first
    ∙ ap (λ (ls : List ℕ). (answered_line e (reply_to d e.call) ++ codes "\n") ++ ls) (recorded_is (after_call d e.call) entries others)

-- a section's first line, a line break, and the lines of its calls
pub headed : (s : SectionView) (lines : List ℕ) → lines ≡ text_of (answered_lines (empty_domain s.cpus s.limit) s.entries) → domain_line s ++ (codes "\n" ++ lines) ≡ text_of (section_replies s)
headed s lines others =
    sym (append_assoc (domain_line s) (codes "\n") lines)
    ∙ ap (λ (x : List ℕ). (domain_line s ++ codes "\n") ++ x) others

abbrev line_break : List ℕ → List ℕ
line_break line = line ++ codes "\n"

-- one more section was written
pub section_more : (s : SectionView) (sections left : List SectionView) (out more all : List ℕ) → left ≡ s ∷ sections → more ≡ out ++ text_of (section_replies s) → out ++ replies_of left ≡ all → more ++ replies_of sections ≡ all
section_more s sections left out more all first put was =
    ap (λ (x : List ℕ). x ++ replies_of sections) put
    ∙ append_assoc out (text_of (section_replies s)) (replies_of sections)
    ∙ ap (λ (x : List ℕ). out ++ x) (sym (flat_map-append line_break (section_replies s) (flat_map section_replies sections)))
    ∙ sym (ap (λ (ss : List SectionView). out ++ replies_of ss) first)
    ∙ was

pub history_more : (s : SectionView) (sections : List SectionView) (out more : List ℕ) → out ≡ replies_of sections → more ≡ out ++ text_of (section_replies s) → more ≡ replies_of (sections ++ s ∷ [])
history_more s sections out more was put =
    put ∙ ap (λ (x : List ℕ). x ++ text_of (section_replies s)) was
    ∙ sym (flat_map-append line_break (flat_map section_replies sections) (section_replies s))
    ∙ sym (ap text_of (flat_map-append section_replies sections (s ∷ []) ∙ ap (λ (ls : List (List ℕ)). flat_map section_replies sections ++ ls) (append-nil (section_replies s))))

-- the lines of a section's calls, on the domain and of the entries that are the section's
pub lines_of : (s : SectionView) (d : Domain) (entries : List Entry) → d ≡ empty_domain s.cpus s.limit → entries ≡ s.entries → text_of (answered_lines d entries) ≡ text_of (answered_lines (empty_domain s.cpus s.limit) s.entries)
lines_of s d entries domain all =
    ap (λ (x : Domain). text_of (answered_lines x entries)) domain
    ∙ ap (λ (es : List Entry). text_of (answered_lines (empty_domain s.cpus s.limit) es)) all
