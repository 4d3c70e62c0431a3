-- The calls of a section, from its first entry on.
use Rattle.std.proofs.Common.{◌≡◌, ℕ, List, [], ◌∷◌, ◌++◌, refl, ◌∙◌}
use Rattle.std.proofs.lemmas.List.{map-append}
use Rattle.domain_run.specs.declared.call.Call.{Call}
use Rattle.domain_run.specs.Domain.{Domain}
use Rattle.domain_run.specs.Calls.{after_call}
use Rattle.domain_run.specs.Run.{after_calls}
use Rattle.calls_text.specs.declared.section.Entry.{Entry}
use Rattle.calls_text.specs.SectionView.{SectionView}
use Rattle.calls_text.specs.Reader.{section_with_entries}
use Rattle.calls_trace.specs.Replay.{calls_in_section, names_of, names_after}

-- ---- one call more

pub after_push : (d : Domain) (cs : List Call) (c : Call) → after_calls d (cs ++ c ∷ []) ≡ after_call (after_calls d cs) c
after_push d [] c = refl
after_push d (x ∷ cs) c = after_push (after_call d x) cs c

pub names_push : (d : Domain) (cs : List Call) (c : Call) (names : ℕ → List ℕ) → names_of d (cs ++ c ∷ []) names ≡ names_after (after_calls d cs) c (names_of d cs names)
names_push d [] c names = refl
names_push d (x ∷ cs) c names = names_push (after_call d x) cs c (names_after d x names)

pub calls_push : (s : SectionView) (e : Entry) → calls_in_section (section_with_entries s (e ∷ [])) ≡ calls_in_section s ++ e.call ∷ []
calls_push s e = map-append (λ (x : Entry). x.call) s.entries (e ∷ [])
