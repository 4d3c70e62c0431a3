-- THE ORDER OF ADMISSIONS: the trace of a run is that of its admitted tasks entered in their order,
-- and then the advance.
use Rattle.std.proofs.Common.{◌≡◌, ℕ, suc, ◌+◌, ◌<◌, List, [], ◌∷◌, ◌++◌, length, map, get_or, refl, sym, ap, ◌∙◌, subst, arith}
use Rattle.std.specs.Prelude.{All}
use Rattle.std.proofs.lemmas.List.{map-append, get_or-map, length-map}
use Rattle.domain_run.specs.declared.call.Call.{Call}
use Rattle.domain_run.specs.Domain.{empty_domain}
use Rattle.domain_run.specs.Switch.{Switch}
use Rattle.domain_run.specs.Run.{run_of}
use Rattle.rtapp_scenario.specs.ScenarioView.{TaskSpecView}
use Rattle.calls_text.specs.SectionView.{SectionView}
use Rattle.calls_text.specs.declared.section.Entry.{Entry}
use Rattle.call_book.specs.Book.{IsMember, own_entries}
use Rattle.switch_text.specs.Trace.{SwitchesView, trace_of}
use Rattle.session.specs.declared.refusal.Refusal.{Refusal}
use Rattle.session.specs.SessionId.{SessionId, IsDomainIndex, cpu_set_of}
use Rattle.session.specs.Asks.{Asked, Made, made_in, entries_from}
use Rattle.dl_session.specs.ScenarioAnswers.{AnswersScenario, history_of}
use Rattle.session.specs.RunEnd.{EndsWith, advance_of}
use Rattle.session.specs.Admissions.{own_asked}
use Rattle.calls_trace.specs.Replay.{calls_in_section, names_of, no_names, run_view, runs_from, trace_of_sections}
use Rattle.session.specs.Report.{IsHistoryOf}
use Rattle.dl_session.specs.InOrder.{granted_in, section_in_order, sections_from, sections_in_order}
use Rattle.dl_session.proofs.OrderRuns.{opened_listing}
use Rattle.dl_session.proofs.OrderEntries.{calls_in, granted_are}
use Rattle.dl_session.proofs.OrderVerdicts.{others_most}
use Rattle.dl_session.proofs.OrderSplit.{last_calls, IsSplit, split, ShowSame, shows_same}

-- ---- one domain

entry_calls : (client seq : ℕ) (made : List Made) → map (λ (e : Entry). e.call) (entries_from client seq made) ≡ map (λ (m : Made). m.call) made
entry_calls client seq [] = refl
entry_calls client seq (m ∷ made) = ap (λ (cs : List Call). m.call ∷ cs) (entry_calls client (seq + 1) made)

section_calls : (id : SessionId) (asked : List Asked) (duration d : ℕ) (cpus : List ℕ) → calls_in_section (section_in_order id asked duration d cpus) ≡ calls_in id d asked ++ last_calls duration
section_calls id asked duration d cpus =
    entry_calls 1 0 (granted_in id d asked ++ advance_of duration 1) ∙ map-append (λ (m : Made). m.call) (granted_in id d asked) (advance_of duration 1)

-- two sections show the same, wherever their CPUs begin
pub record AreSameRuns (s t : SectionView) : Type 0 where
  pub cpus : s.cpus ≡ t.cpus
  pub view : (base : ℕ) → run_view base s ≡ run_view base t

same_runs : (s t : SectionView) → s.cpus ≡ t.cpus → s.limit ≡ t.limit → ShowSame (empty_domain s.cpus s.limit) (calls_in_section s) (calls_in_section t) → AreSameRuns s t
same_runs s t cpus limit shows =
    let named : names_of (empty_domain s.cpus s.limit) (calls_in_section s) no_names ≡ names_of (empty_domain t.cpus t.limit) (calls_in_section t) no_names =
    shows.named no_names
    ∙ ap (λ (n : ℕ). names_of (empty_domain n s.limit) (calls_in_section t) no_names) cpus
    ∙ ap (λ (n : ℕ). names_of (empty_domain t.cpus n) (calls_in_section t) no_names) limit in
    let switches : (run_of s.cpus s.limit (calls_in_section s)).switches ≡ (run_of t.cpus t.limit (calls_in_section t)).switches =
    shows.switches
    ∙ ap (λ (n : ℕ). (run_of n s.limit (calls_in_section t)).switches) cpus
    ∙ ap (λ (n : ℕ). (run_of t.cpus n (calls_in_section t)).switches) limit in
    record {
      cpus = cpus;
      view = λ base.
          ap (λ (names : ℕ → List ℕ). record { base = base; names = names; switches = (run_of s.cpus s.limit (calls_in_section s)).switches }) named
          ∙ ap (λ (all : List Switch). record { base = base; names = names_of (empty_domain t.cpus t.limit) (calls_in_section t) no_names; switches = all }) switches;
    }

-- ---- all domains

runs_same : (id : SessionId) (asked : List Asked) (duration d base : ℕ) (sets : List (List ℕ)) (hs : List SectionView) → length hs ≡ length sets
    → ((j : ℕ) (x : SectionView) → j < length sets → AreSameRuns (get_or hs j x) (section_in_order id asked duration (d + j) (get_or sets j [])))
    → runs_from base hs ≡ runs_from base (sections_from id asked duration d sets)
runs_same id asked duration d base [] [] count each = refl
runs_same id asked duration d base [] (h ∷ hs) count each = absurd (omega (arith, count))
runs_same id asked duration d base (cpus ∷ sets) [] count each = absurd (omega (arith, count))
runs_same id asked duration d base (cpus ∷ sets) (h ∷ hs) count each =
    let here : d + 0 ≡ d = omega arith in
    let some : 0 < length (cpus ∷ sets) = omega arith in
    let first : AreSameRuns h (section_in_order id asked duration d cpus) = subst (λ (n : ℕ). AreSameRuns h (section_in_order id asked duration n cpus)) here (each 0 h some) in
    let fewer : length hs ≡ length sets = omega (arith, count) in
    let rest : runs_from (base + h.cpus) hs ≡ runs_from (base + h.cpus) (sections_from id asked duration (d + 1) sets) =
    runs_same id asked duration (d + 1) (base + h.cpus) sets hs fewer
    (λ j x inside.
    let place : d + suc j ≡ d + 1 + j = omega arith in
    let within : suc j < length (cpus ∷ sets) = omega (arith, inside) in
    subst (λ (n : ℕ). AreSameRuns (get_or hs j x) (section_in_order id asked duration n (get_or sets j []))) place (each (suc j) x within)) in
    let next = sections_from id asked duration (d + 1) sets in
    ap (λ (r : SwitchesView). r ∷ runs_from (base + h.cpus) hs) (first.view base)
    ∙ ap (λ (rs : List SwitchesView). run_view base (section_in_order id asked duration d cpus) ∷ rs) (rest ∙ ap (λ (n : ℕ). runs_from (base + n) next) first.cpus)

-- ---- the law

-- each history of a run is its admissions, and then the advance
pub split_of : (id : SessionId) (clients : ℕ) (tasks : List TaskSpecView) (duration : ℕ) (histories : List SectionView) (refused : List (ℕ × Refusal))
    → length histories ≡ length id.cpu_sets
    → ((d : ℕ) (x : SectionView) → IsDomainIndex id d → IsHistoryOf id d [] (get_or histories d x))
    → AnswersScenario id clients tasks duration (map (λ h. h.entries) histories) refused
    → (j : ℕ) (x : SectionView) → j < length id.cpu_sets
    → IsSplit (empty_domain (get_or histories j x).cpus (get_or histories j x).limit) duration (get_or histories j x).entries
split_of id clients tasks duration histories refused count legal answers j x inside =
    let h = get_or histories j x in
    let within : j < length histories = omega (arith, inside, count) in
    let there : j < length (map (λ (s : SectionView). s.entries) histories) = omega (arith, within, length-map histories (λ (s : SectionView). s.entries)) in
    let entries : history_of (map (λ (s : SectionView). s.entries) histories) j ≡ h.entries = get_or-map (λ (s : SectionView). s.entries) histories j x [] within in
    let members = subst (λ (es : List Entry). All (λ e. IsMember clients e.client) es) entries (answers.members j there) in
    let own = λ (i : ℕ) (below : i < clients). subst (λ (es : List Entry). own_entries (i + 1) es ≡ entries_from (i + 1) 0 (made_in id j (own_asked clients i answers.asked) ++ advance_of duration (i + 1))) entries (answers.entries j i there below) in
    split (empty_domain h.cpus h.limit) duration h.entries (others_most id clients j duration answers.asked h.entries answers.lawful members own) (subst (EndsWith duration) entries (answers.ends j there)) (legal j x inside).legal

pub in_order : (id : SessionId) (clients : ℕ) (tasks : List TaskSpecView) (duration : ℕ) (histories : List SectionView) (refused : List (ℕ × Refusal)) → 0 < clients
    → length histories ≡ length id.cpu_sets
    → ((d : ℕ) (x : SectionView) → IsDomainIndex id d → IsHistoryOf id d [] (get_or histories d x))
    → (answers : AnswersScenario id clients tasks duration (map (λ h. h.entries) histories) refused)
    → trace_of_sections histories ≡ trace_of_sections (sections_in_order id answers.asked duration)
in_order id clients tasks duration histories refused some count legal answers =
    ap trace_of (runs_same id answers.asked duration 0 0 id.cpu_sets histories count each)
  where
    each : (j : ℕ) (x : SectionView) → j < length id.cpu_sets → AreSameRuns (get_or histories j x) (section_in_order id answers.asked duration (0 + j) (get_or id.cpu_sets j []))
    each j x inside =
        let h = get_or histories j x in
        let asked = answers.asked in
        let is = legal j x inside in
        let within : j < length histories = omega (arith, inside, count) in
        let there : j < length (map (λ (s : SectionView). s.entries) histories) = omega (arith, within, length-map histories (λ (s : SectionView). s.entries)) in
        let entries : history_of (map (λ (s : SectionView). s.entries) histories) j ≡ h.entries = get_or-map (λ (s : SectionView). s.entries) histories j x [] within in
        let members = subst (λ (es : List Entry). All (λ e. IsMember clients e.client) es) entries (answers.members j there) in
        let own = λ (i : ℕ) (below : i < clients). subst (λ (es : List Entry). own_entries (i + 1) es ≡ entries_from (i + 1) 0 (made_in id j (own_asked clients i asked) ++ advance_of duration (i + 1))) entries (answers.entries j i there below) in
        let start = empty_domain h.cpus h.limit in
        let parts = split_of id clients tasks duration histories refused count legal answers j x inside in
        let order = granted_are id clients j duration asked h.entries some members own in
        let section = section_in_order id asked duration j (cpu_set_of id j) in
        let shows : ShowSame start (calls_in_section h) (calls_in_section section) =
        subst (ShowSame start (calls_in_section h)) (sym (section_calls id asked duration j (cpu_set_of id j)))
        (shows_same start duration h.entries (calls_in id j asked) (opened_listing h.cpus h.limit) parts order) in
        let place : j ≡ 0 + j = omega arith in
        subst (λ (n : ℕ). AreSameRuns h (section_in_order id asked duration n (get_or id.cpu_sets j []))) place (same_runs h section is.cpus is.limit shows)
