-- Calls with their replies, as a text (own).
use Rattle.std.specs.Prelude.{ℕ, List, [], ◌∷◌, ◌++◌, codes, decimal}
use Rattle.std.specs.List.{flat_map}
use Rattle.domain_run.specs.declared.call.Reply.{Reply}
use Rattle.domain_run.specs.declared.call.Reply.TheVariants.{Admitted, Changed, Woken, Left, Done, Set, Departed, Full, Twice, Busy, NotListed, NotWaiting}
use Rattle.domain_run.specs.Domain.{Domain, empty_domain}
use Rattle.domain_run.specs.Calls.{reply_to, after_call}
use Rattle.calls_text.specs.declared.section.Entry.{Entry}
use Rattle.calls_text.specs.SectionView.{SectionView}
use Rattle.calls_text.specs.Spelling.{entry_line, domain_line, text_of}

-- a reply: what was done, or the error and its number (those of sched_setattr(2) where it has one)
abbrev pub reply_text : Reply → List ℕ
reply_text Admitted = codes "Admitted"
reply_text Changed = codes "Changed"
reply_text Woken = codes "Woken"
reply_text Left = codes "Left"
reply_text (Done ticks) = codes "Done " ++ decimal ticks
reply_text Set = codes "Set"
reply_text Departed = codes "Departed"
reply_text Full = codes "Full 40"
reply_text Twice = codes "Twice 41"
reply_text (Busy seen) = codes "EBUSY 16 seen " ++ decimal seen
reply_text NotListed = codes "ESRCH 3"
reply_text NotWaiting = codes "NotWaiting 42"

-- the line of a call, as calls text has it, and its reply
abbrev pub answered_line : Entry → Reply → List ℕ
answered_line e reply = entry_line e ++ (codes " = " ++ reply_text reply)

-- the calls on a domain, one after another, each with the reply that it gets there
abbrev pub answered_lines : Domain → List Entry → List (List ℕ)
answered_lines d [] = []
answered_lines d (e ∷ entries) =
    answered_line e (reply_to d e.call) ∷ answered_lines (after_call d e.call) entries

-- a section: the line of its domain, and its calls from the domain's opening on
abbrev pub section_replies : SectionView → List (List ℕ)
section_replies s = domain_line s ∷ answered_lines (empty_domain s.cpus s.limit) s.entries

-- every line ends with LF, the last one too; there is no header, as it is not read again
abbrev pub replies_of : List SectionView → List ℕ
replies_of sections = text_of (flat_map section_replies sections)
