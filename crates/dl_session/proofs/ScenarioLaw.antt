-- From the steps of a run to the answers of a scenario.
use Rattle.std.proofs.Common.{◌≡◌, ℕ, false, Some, None, zero, suc, ◌+◌, ◌<◌, List, [], ◌∷◌, ◌++◌, length, map, replicate, get_or, All, refl, sym, ap, subst, ◌∙◌, arith}
use Rattle.std.proofs.lemmas.List.{get_or-map, length-map, length-replicate}
use Rattle.std.proofs.lemmas.List.Elements.{All-get_or}
use Rattle.rtapp_scenario.specs.ScenarioView.{TaskSpecView}
use Rattle.calls_text.specs.SectionView.{SectionView}
use Rattle.calls_text.specs.declared.section.Entry.{Entry}
use Rattle.call_book.specs.Book.{own_entries}
use Rattle.calls_text.specs.Histories.{IsLegal}
use Rattle.session.specs.declared.refusal.Refusal.{Refusal}
use Rattle.session.specs.SessionId.{SessionId, IsDomainIndex, cpu_set_of}
use Rattle.session.specs.Asks.{ClientView, Asked, Made, Makes, client_pass_in, made_in, entries_from}
use Rattle.session.specs.Clients.{IsNew}
use Rattle.session.specs.Admissions.{AreNew, AllAsked}
use Rattle.session.specs.Report.{IsHistoryOf}
use Rattle.dl_session.specs.ScenarioAnswers.{AnswersScenario, history_of}
use Rattle.session.specs.RunEnd.{EndsWith, advance_of}
use Rattle.session.specs.Admissions.{own_asked}
use Rattle.dl_session.specs.FullBook.{AnswersTasks}
use Rattle.dl_session.specs.RunAnswer.{with_reclaim}
use Rattle.dl_session.proofs.ByCap.{by_cap, by_cap_alone}
use Rattle.session.specs.RunEnd.{HaveAdvanced}

-- ---- entries after entries

length_entries : (client seq : ℕ) (made : List Made) → length (entries_from client seq made) ≡ length made
length_entries client seq [] = refl
length_entries client seq (m ∷ made) = ap suc (length_entries client (seq + 1) made)

entries_append : (client seq : ℕ) (xs ys : List Made)
    → entries_from client seq (xs ++ ys) ≡ entries_from client seq xs ++ entries_from client (seq + length xs) ys
entries_append client seq [] ys = ap (λ (n : ℕ). entries_from client n ys) (omega arith)
entries_append client seq (x ∷ xs) ys =
    let more : seq + 1 + length xs ≡ seq + suc (length xs) = omega arith in
    ap (λ (es : List Entry). record { client = client; seq = seq; call = x.call; reply = Some x.reply } ∷ es) (entries_append client (seq + 1) xs ys ∙ ap (λ (n : ℕ). entries_from client (seq + 1) xs ++ entries_from client n ys) more)

-- ---- a client, from its first entry to its last

abbrev nothing : List Entry
nothing = []

empty_pass : (n d : ℕ) → get_or (replicate n nothing) d nothing ≡ nothing
empty_pass zero d = refl
empty_pass (suc n) zero = refl
empty_pass (suc n) (suc d) = empty_pass n d

pass_of_new : (id : SessionId) (number : ℕ) (c : ClientView) (d : ℕ) → IsNew id number c → client_pass_in c d ≡ []
pass_of_new id number c d new = ap (λ (ps : List (List Entry)). get_or ps d []) new.passes ∙ empty_pass (length id.cpu_sets) d

-- what it makes when it has entered nothing
first_made : (c e : ClientView) (made : ℕ → List Made) (d number : ℕ) → Makes c e made → d < length c.passes → client_pass_in c d ≡ [] → c.number ≡ number
    → client_pass_in e d ≡ entries_from number 0 (made d)
first_made c e made d number makes inside empty is =
    makes.passes d inside
    ∙ ap (λ (es : List Entry). es ++ entries_from c.number (length es) (made d)) empty
    ∙ ap (λ (n : ℕ). entries_from n 0 (made d)) is

then_made : (e f : ClientView) (more : ℕ → List Made) (made : List Made) (d number : ℕ) → Makes e f more → d < length e.passes → client_pass_in e d ≡ entries_from number 0 made → e.number ≡ number
    → client_pass_in f d ≡ entries_from number 0 (made ++ more d)
then_made e f more made d number makes inside was is =
    makes.passes d inside
    ∙ ap (λ (n : ℕ). client_pass_in e d ++ entries_from n (length (client_pass_in e d)) (more d)) is
    ∙ ap (λ (es : List Entry). es ++ entries_from number (length es) (more d)) was
    ∙ ap (λ (n : ℕ). entries_from number 0 made ++ entries_from number n (more d)) (length_entries number 0 made)
    ∙ ap (λ (n : ℕ). entries_from number 0 made ++ entries_from number n (more d)) (omega arith)
    ∙ sym (entries_append number 0 made (more d))

-- ---- the law

no_section : SectionView
no_section = record { cpus = 0; limit = 0; entries = [] }

history_is : (hs : List SectionView) (d : ℕ) → d < length hs → history_of (map (λ h. h.entries) hs) d ≡ (get_or hs d no_section).entries
history_is hs d inside = get_or-map (λ (h : SectionView). h.entries) hs d no_section nothing inside

no_client : ClientView
no_client = record { number = 0; passes = []; hand = None }

-- the client at a place, once all tasks were asked: it has entered those of its own tasks that were
-- answered, and nothing else
record HasAsked (id : SessionId) (asked : List Asked) (n i : ℕ) (e : ClientView) : Type 0 where
  pub number : e.number ≡ i + 1
  pub domains : length e.passes ≡ length id.cpu_sets
  pub passes : (d : ℕ) → IsDomainIndex id d → client_pass_in e d ≡ entries_from (i + 1) 0 (made_in id d (own_asked n i asked))

has_asked : (id : SessionId) (tasks : List TaskSpecView) (cs es : List ClientView) (refused : List (ℕ × Refusal)) (new : AreNew id cs) (all : AllAsked id tasks cs es refused) (i : ℕ)
    → i < id.clients → HasAsked id all.asked id.clients i (get_or es i no_client)
has_asked id tasks cs es refused new all i below =
    let c = get_or cs i no_client in
    let e = get_or es i no_client in
    let at : i < length cs = omega (arith, below, new.count) in
    let is_new = new.each i no_client at in
    let asks = (all.each i no_client at).made in
    let of_c : length c.passes ≡ length id.cpu_sets = ap length is_new.passes ∙ length-replicate (length id.cpu_sets) nothing in
    record {
      number = asks.number ∙ is_new.numbered;
      domains = asks.domains ∙ of_c;
      passes = λ d place.
          first_made c e (λ d. made_in id d (own_asked (length cs) i all.asked)) d (i + 1) asks (omega (arith, place, of_c)) (pass_of_new id (i + 1) c d is_new) is_new.numbered
          ∙ ap (λ (n : ℕ). entries_from (i + 1) 0 (made_in id d (own_asked n i all.asked))) new.count;
    }

-- a client's entries in a history that shows what the clients have entered
shown_own : (d i : ℕ) (history : List Entry) (fs : List ClientView) → i < length fs → (get_or fs i no_client).number ≡ i + 1
    → All (λ (c : ClientView). client_pass_in c d ≡ own_entries c.number history) fs → own_entries (i + 1) history ≡ client_pass_in (get_or fs i no_client) d
shown_own d i history fs inside number own =
    sym (ap (λ (n : ℕ). own_entries n history) number) ∙ sym (All-get_or (λ (c : ClientView). client_pass_in c d ≡ own_entries c.number history) fs i no_client inside own)

-- legal by the CPUs and the limit of the session
legal_of : (id : SessionId) (d : ℕ) (h : SectionView) (cs : List ClientView) → IsHistoryOf id d cs h → IsLegal (length (cpu_set_of id d)) id.limit h.entries
legal_of id d h cs is =
    subst (λ (n : ℕ). IsLegal n id.limit h.entries) is.cpus (subst (λ (n : ℕ). IsLegal h.cpus n h.entries) is.limit is.legal)

pub answers_all : (id : SessionId) (tasks : List TaskSpecView) (duration : ℕ) (cs es fs : List ClientView) (refused : List (ℕ × Refusal)) (hs : List SectionView)
    → 0 < id.clients → AreNew id cs → AllAsked id tasks cs es refused → HaveAdvanced duration es fs
    → length hs ≡ length id.cpu_sets
    → ((d : ℕ) (x : SectionView) → IsDomainIndex id d → IsHistoryOf id d fs (get_or hs d x))
    → ((d : ℕ) (x : SectionView) → d < length id.cpu_sets → EndsWith duration (get_or hs d x).entries)
    → AnswersScenario id id.clients tasks duration (map (λ h. h.entries) hs) refused
answers_all id tasks duration cs es fs refused hs some new asked advanced count histories ends = record {
  asked = asked.asked;
  tasks_are = asked.tasks_are;
  lawful = asked.lawful;
  by_cap = λ d inside.
      let h = histories d no_section (place d inside) in
      by_cap id id.clients d duration asked.asked (get_or hs d no_section).entries some asked.lawful h.members
      (λ i below. own d i (place d inside) below) (ends d no_section (place d inside))
      (legal_of id d (get_or hs d no_section) fs h);
  refused_are = asked.refused_are;
  members = λ d inside. rw (history_is hs d (there d inside)) (histories d no_section (place d inside)).members;
  entries = λ d i inside below. rw (history_is hs d (there d inside)) (own d i (place d inside) below);
  ends = λ d inside. rw (history_is hs d (there d inside)) (ends d no_section (place d inside));
}
  where
    there : (d : ℕ) → d < length (map (λ (h : SectionView). h.entries) hs) → d < length hs
    there d inside = omega (arith, inside, length-map hs (λ (h : SectionView). h.entries))

    place : (d : ℕ) → d < length (map (λ (h : SectionView). h.entries) hs) → d < length id.cpu_sets
    place d inside = omega (arith, inside, length-map hs (λ (h : SectionView). h.entries), count)

    own : (d i : ℕ) → d < length id.cpu_sets → i < id.clients
        → own_entries (i + 1) (get_or hs d no_section).entries ≡ entries_from (i + 1) 0 (made_in id d (own_asked id.clients i asked.asked) ++ advance_of duration (i + 1))
    own d i inside below =
        let e = get_or es i no_client in
        let f = get_or fs i no_client in
        let at_e : i < length es = omega (arith, below, new.count, asked.places) in
        let at_f : i < length fs = omega (arith, at_e, advanced.places) in
        let has = has_asked id tasks cs es refused new asked i below in
        let adds = advanced.each i no_client at_e in
        shown_own d i (get_or hs d no_section).entries fs at_f (adds.number ∙ has.number) (histories d no_section inside).own
        ∙ then_made e f (λ d. advance_of duration (i + 1)) (made_in id d (own_asked id.clients i asked.asked)) d (i + 1) adds (omega (arith, inside, has.domains)) (has.passes d inside) has.number

-- the admissions alone, in the history of one domain that was not advanced
pub answers_tasks : (id : SessionId) (tasks : List TaskSpecView) (cs es : List ClientView) (refused : List (ℕ × Refusal)) (d : ℕ) (h : SectionView)
    → 0 < id.clients → AreNew id cs → AllAsked id tasks cs es refused → IsDomainIndex id d → IsHistoryOf id d es h → AnswersTasks id id.clients tasks d h.entries
answers_tasks id tasks cs es refused d h some new asked place is = record {
  asked = asked.asked;
  tasks_are = asked.tasks_are;
  lawful = asked.lawful;
  by_cap = by_cap_alone id id.clients d asked.asked h.entries some asked.lawful is.members own (legal_of id d h es is);
  entries = own;
}
  where
    own : (i : ℕ) → i < id.clients → own_entries (i + 1) h.entries ≡ entries_from (i + 1) 0 (made_in id d (own_asked id.clients i asked.asked))
    own i below =
        let has = has_asked id tasks cs es refused new asked i below in
        shown_own d i h.entries es (omega (arith, below, new.count, asked.places)) has.number is.own ∙ has.passes d place

-- ---- flags

pub unflagged : (ts : List TaskSpecView) → map (with_reclaim false) ts ≡ ts
unflagged [] = refl
unflagged (t ∷ ts) = ap (λ (us : List TaskSpecView). t ∷ us) (unflagged ts)
