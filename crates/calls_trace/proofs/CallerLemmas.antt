-- The calls text of a run's histories can be replayed, to the same trace; and their switches are
-- few enough to be written.
use Rattle.std.proofs.Common.{◌≡◌, ℕ, eqb, cond, ◌+◌, ◌^◌, ◌≤◌, ◌<◌, None, List, [], ◌∷◌, ◌++◌, length, map, get_or, All, refl, sym, ap, subst, ◌∙◌, arith}
use Rattle.std.proofs.lemmas.List.{map-append, length-map}
use Rattle.std.proofs.lemmas.List.Sums.{sum_by-cons}
use Rattle.std.proofs.lemmas.List.Elements.{All-nil, All-cons, All-head, All-tail, All-from_get_or}
use Rattle.domain_run.specs.declared.call.Call.{Call}
use Rattle.domain_run.specs.Domain.{empty_domain}
use Rattle.domain_run.specs.Run.{run_of}
use Rattle.calls_text.specs.declared.section.Entry.{Entry}
use Rattle.calls_text.specs.SectionView.{SectionView}
use Rattle.calls_text.specs.OwnCalls.{count_made_by, IsNumberedAfter}
use Rattle.calls_text.specs.Limits.{IsEntry, IsSection, AreRead}
use Rattle.calls_text.specs.RoundTrip.{without_reply, without_replies}
use Rattle.switch_text.specs.Trace.{SwitchesView, trace_of}
use Rattle.calls_trace.specs.Replay.{names_of, no_names, run_view, runs_from, trace_of_sections}
use Rattle.calls_trace.specs.DomainEvents.{domain_of}
use Rattle.calls_trace.proofs.Rising.{section_trace}
use Rattle.calls_trace.proofs.LoggedLines.{section_time}
pub use Rattle.calls_trace.proofs.Leading.{all_few}
pub use Rattle.calls_trace.proofs.LoggedLines.{logged_lines, logged_rises}

-- the switches of a section are at most 2 ^ 48
pub switches_few : (s : SectionView) → IsSection s → length (domain_of s).switches ≤ 2 ^ 48
switches_few s is = omega (arith, (section_trace s is).few, section_time s is)

-- ---- entries without their replies

made_bare : (client : ℕ) (es : List Entry) → count_made_by client (map without_reply es) ≡ count_made_by client es
made_bare client [] = refl
made_bare client (e ∷ es) =
    let one : Entry → ℕ = λ (e : Entry). cond (eqb e.client client) 1 0 in
    sum_by-cons one (without_reply e) (map without_reply es) ∙ ap (λ (n : ℕ). one e + n) (made_bare client es) ∙ sym (sum_by-cons one e es)

numbered_bare : (before es : List Entry) → IsNumberedAfter before es → IsNumberedAfter (map without_reply before) (map without_reply es)
numbered_bare before [] is = tt
numbered_bare before (e ∷ es) is = (
  is.0 ∙ sym (made_bare e.client before),
  subst (λ (bs : List Entry). IsNumberedAfter bs (map without_reply es)) (map-append without_reply before (e ∷ [])) (numbered_bare (before ++ e ∷ []) es is.1),
)

entries_bare : (es : List Entry) → All IsEntry es → All IsEntry (map without_reply es)
entries_bare [] all = All-nil IsEntry
entries_bare (e ∷ es) all =
    let first = All-head IsEntry e es all in
    All-cons IsEntry (without_reply e) (map without_reply es) (record { client = first.client; call = first.call }) (entries_bare es (All-tail IsEntry e es all))

no_replies : (es : List Entry) → All (λ (e : Entry). e.reply ≡ None) (map without_reply es)
no_replies [] = All-nil (λ (e : Entry). e.reply ≡ None)
no_replies (e ∷ es) = All-cons (λ (e : Entry). e.reply ≡ None) (without_reply e) (map without_reply es) refl (no_replies es)

section_bare : (s : SectionView) → IsSection s → IsSection (without_replies s)
section_bare s is = record {
  some_cpus = is.some_cpus;
  most_cpus = is.most_cpus;
  least_limit = is.least_limit;
  most_limit = is.most_limit;
  most_entries = let same = length-map s.entries without_reply in omega (arith, same, is.most_entries);
  entries = entries_bare s.entries is.entries;
  numbered = numbered_bare [] s.entries is.numbered;
}

sections_bare : (ss : List SectionView) → All IsSection ss → All IsSection (map without_replies ss)
sections_bare [] all = All-nil IsSection
sections_bare (s ∷ ss) all = All-cons IsSection (without_replies s) (map without_replies ss) (section_bare s (All-head IsSection s ss all)) (sections_bare ss (All-tail IsSection s ss all))

all_bare : (ss : List SectionView) → All (λ (s : SectionView). All (λ (e : Entry). e.reply ≡ None) s.entries) (map without_replies ss)
all_bare [] = All-nil (λ (s : SectionView). All (λ (e : Entry). e.reply ≡ None) s.entries)
all_bare (s ∷ ss) = All-cons (λ (s : SectionView). All (λ (e : Entry). e.reply ≡ None) s.entries) (without_replies s) (map without_replies ss) (no_replies s.entries) (all_bare ss)

pub read_again : (ss : List SectionView) → 0 < length ss → length ss ≤ 8 → ((d : ℕ) (x : SectionView) → d < length ss → IsSection (get_or ss d x)) → AreRead (map without_replies ss)
read_again ss some most each =
    let same = length-map ss without_replies in
    let none : SectionView = record { cpus = 0; limit = 0; entries = [] } in
    record {
      within = record {
        some = omega (arith, same, some);
        most = omega (arith, same, most);
        each = sections_bare ss (All-from_get_or IsSection ss none (λ d inside. each d none inside));
      };
      no_replies = all_bare ss;
    }

-- ---- their trace

calls_bare : (es : List Entry) → map (λ (e : Entry). e.call) (map without_reply es) ≡ map (λ (e : Entry). e.call) es
calls_bare [] = refl
calls_bare (e ∷ es) = ap (λ (cs : List Call). e.call ∷ cs) (calls_bare es)

runs_bare : (base : ℕ) (ss : List SectionView) → runs_from base (map without_replies ss) ≡ runs_from base ss
runs_bare base [] = refl
runs_bare base (s ∷ ss) =
    let made : List Call → SwitchesView = λ calls. record { base = base; names = names_of (empty_domain s.cpus s.limit) calls no_names; switches = (run_of s.cpus s.limit calls).switches } in
    ap (λ (r : SwitchesView). r ∷ runs_from (base + s.cpus) (map without_replies ss)) (ap made (calls_bare s.entries))
    ∙ ap (λ (rs : List SwitchesView). run_view base s ∷ rs) (runs_bare (base + s.cpus) ss)

pub same_trace : (ss : List SectionView) → trace_of_sections (map without_replies ss) ≡ trace_of_sections ss
same_trace ss = ap trace_of (runs_bare 0 ss)
