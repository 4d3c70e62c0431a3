-- A task of a scenario that is said to be never late is never late.
use Rattle.std.proofs.Common.{◌≡◌, ℕ, suc, ◌+◌, ◌<◌, Bool, true, false, cond, eqb, Option, Some, None, List, [], ◌∷◌, length, map, get_or, refl, sym, ap, ◌∙◌, subst, arith, inl, inr}
use Rattle.std.specs.Prelude.{All, find, slice_get}
use Rattle.std.proofs.lemmas.Bool.{cases_Bool, eqb-true}
use Rattle.std.proofs.lemmas.Option.{same_Some, slice_get_within, get_or_from_slice_get}
use Rattle.std.proofs.lemmas.List.{length-map, get_or-map}
use Rattle.domain_run.specs.declared.call.Call.{Call}
use Rattle.domain_run.specs.declared.task.Task.{Task}
use Rattle.domain_run.specs.Domain.{Domain}
use Rattle.domain_run.specs.Run.{run_of}
use Rattle.deadline_promise.specs.declared.demand.Demand.{Demand}
use Rattle.deadline_promise.specs.declared.answer.Promise.{Promise}
use Rattle.deadline_promise.specs.declared.answer.Promise.TheVariants.{NeverLate}
use Rattle.deadline_promise.specs.Demand.{IsDemand}
use Rattle.deadline_promise.specs.Answer.{promise_if_listed, promise_to, IsPromiseKept}
use Rattle.deadline_promise.specs.Promise.{IsSoundAdmission, KeepsPromise, NoneLate, logged_of_run}
use Rattle.figure_text.specs.Promises.{PromiseView}
use Rattle.rtapp_scenario.specs.ScenarioView.{TaskSpecView}
use Rattle.calls_text.specs.declared.section.Entry.{Entry}
use Rattle.calls_text.specs.SectionView.{SectionView}
use Rattle.calls_text.specs.Histories.{calls_of}
use Rattle.calls_text.specs.Limits.{IsCall, IsEntry}
use Rattle.session.specs.declared.refusal.Refusal.{Refusal}
use Rattle.session.specs.SessionId.{SessionId, IsDomainIndex}
use Rattle.session.specs.RunEnd.{run_in}
use Rattle.session.specs.Report.{IsHistoryOf}
use Rattle.dl_session.specs.ScenarioAnswers.{AnswersScenario}
use Rattle.dl_session.specs.Promised.{domains_of, lists, answer_from, IsRowOf, IsNeverLateAt, IsPromised, AreRows, ArePromises}
use Rattle.dl_session.proofs.Checked.{checked_ordered}
use Rattle.dl_session.proofs.Numbering.{AreFrom, numbered_at}
use Rattle.dl_session.proofs.OfTasks.{IsOfTask, IsListedOf, history_of_tasks, listed_of_tasks, calls_of_tasks}
use Rattle.dl_session.proofs.Rows.{each_as}

-- ---- where the answer comes from

record IsAnswered (hs : List SectionView) (place number : ℕ) (demand : Demand) : Type 0 where
  at : ℕ
  history : SectionView
  there : slice_get hs at ≡ Some history
  domain : (answer_from place (domains_of hs) number demand).0 ≡ Some (place + at)
  answer : promise_to (run_in history) number demand ≡ NeverLate

answered : (hs : List SectionView) (place number : ℕ) (demand : Demand) → (answer_from place (domains_of hs) number demand).1 ≡ NeverLate → IsAnswered hs place number demand
answered [] place number demand e = absurd cc
answered (h ∷ hs) place number demand e = by_test (answered hs (place + 1) number demand) (lists number (run_in h)) refl
  where
    rest : Option ℕ × Promise
    rest = answer_from (place + 1) (domains_of hs) number demand

    here : Option ℕ × Promise
    here = (Some place, promise_to (run_in h) number demand)

    by_test : ((answer_from (place + 1) (domains_of hs) number demand).1 ≡ NeverLate → IsAnswered hs (place + 1) number demand) → (b : Bool) → lists number (run_in h) ≡ b → IsAnswered (h ∷ hs) place number demand
    by_test go true is =
        let now : answer_from place (domains_of (h ∷ hs)) number demand ≡ here = ap (λ (x : Bool). cond x here rest) is in
        let same : place ≡ place + 0 = omega arith in
        record {
          at = 0;
          history = h;
          there = refl;
          domain = ap (λ (p : Option ℕ × Promise). p.0) now ∙ ap (λ (n : ℕ). Some n) same;
          answer = sym (ap (λ (p : Option ℕ × Promise). p.1) now) ∙ e;
        }
    by_test go false is =
        let now : answer_from place (domains_of (h ∷ hs)) number demand ≡ rest = ap (λ (x : Bool). cond x here rest) is in
        let later = go (sym (ap (λ (p : Option ℕ × Promise). p.1) now) ∙ e) in
        let same : place + 1 + later.at ≡ place + suc later.at = omega arith in
        record {
          at = suc later.at;
          history = later.history;
          there = later.there;
          domain = ap (λ (p : Option ℕ × Promise). p.0) now ∙ later.domain ∙ ap (λ (n : ℕ). Some n) same;
          answer = later.answer;
        }

-- ---- the task that is listed

record IsFound (ts : List Task) (number : ℕ) : Type 0 where
  at : ℕ
  task : Task
  there : slice_get ts at ≡ Some task
  number_is : task.number ≡ number

found : (ts : List Task) (number : ℕ) (t : Task) → find (λ u. eqb u.number number) ts ≡ Some t → IsFound ts number
found [] number t e = absurd cc
found (x ∷ ts) number t e =
    elim (cases_Bool (eqb x.number number)) [
      | inl holds ↦ record { at = 0; task = x; there = refl; number_is = eqb-true x.number number holds }
      | inr fails ↦
          let later = found ts number t (sym (ap (λ b. cond b (Some x) (find (λ u. eqb u.number number) ts)) fails) ∙ e) in
          record { at = suc later.at; task = later.task; there = later.there; number_is = later.number_is }
    ]

listed_by : (d : Domain) (number : ℕ) (demand : Demand) (o : Option Task) → find (λ u. eqb u.number number) d.tasks ≡ o → promise_if_listed d demand o ≡ NeverLate → IsFound d.tasks number
listed_by d number demand None e answer = absurd cc
listed_by d number demand (Some t) e answer = found d.tasks number t e

listed : (d : Domain) (number : ℕ) (demand : Demand) → promise_to d number demand ≡ NeverLate → IsFound d.tasks number
listed d number demand answer = listed_by d number demand (find (λ u. eqb u.number number) d.tasks) refl answer

-- ---- admissions that may be promised of

sound_of : (tasks : List TaskSpecView) (c : Call) → IsOfTask tasks c → IsCall c → IsSoundAdmission c
sound_of tasks c of call =
    let within = subst IsCall of.is call in
    subst IsSoundAdmission (sym of.is) (checked_ordered _ within.checked, within.scripted)

-- ---- of one history

history_keeps : (tasks : List TaskSpecView) (h : SectionView) (t : TaskSpecView) (k : ℕ) (demand : Demand) → IsPromiseKept → AreFrom 1 tasks → slice_get tasks k ≡ Some t
    → 0 < h.cpus → All IsEntry h.entries → All (λ e. IsOfTask tasks e.call) h.entries → IsDemand t.script demand → promise_to (run_in h) t.number demand ≡ NeverLate
    → (n : ℕ) → NoneLate n t.number (logged_of_run h.cpus h.limit (calls_of h.entries) n)
history_keeps tasks h t k demand kept numbered at some entries of asks answer n =
    let calls = calls_of h.entries in
    let d = run_of h.cpus h.limit calls in
    let here = listed d t.number demand answer in
    let inside = slice_get_within d.tasks here.at here.task here.there in
    let is = get_or_from_slice_get d.tasks here.at here.task here.task here.there in
    let sound : All IsSoundAdmission calls = λ j z h_in.
    let below : j < length h.entries = omega (arith, h_in, length-map h.entries (λ (e : Entry). e.call)) in
    let other : Entry = record { client = 0; seq = 0; call = z; reply = None } in
    let e = get_or h.entries j other in
    subst IsSoundAdmission (sym (get_or-map (λ (x : Entry). x.call) h.entries j other z below))
    (sound_of tasks e.call (of j other below) (entries j other below).call) in
    let from : IsListedOf tasks here.task = subst (IsListedOf tasks) is (listed_of_tasks tasks h.cpus h.limit calls (calls_of_tasks tasks h.entries of) here.at here.task inside) in
    let mine = numbered_at 1 tasks k t numbered at in
    let its = numbered_at 1 tasks from.place from.task numbered from.at in
    let place : from.place ≡ k = omega (arith, mine, its, from.number, here.number_is) in
    let task : from.task ≡ t = same_Some from.task t (sym from.at ∙ ap (slice_get tasks) place ∙ at) in
    let script : here.task.cursor.script ≡ t.script = from.script ∙ ap (λ (x : TaskSpecView). x.script) task in
    let keeps : KeepsPromise h.cpus h.limit calls n here.task =
    subst (λ (u : Task). IsDemand u.cursor.script demand → promise_to d u.number demand ≡ NeverLate → KeepsPromise h.cpus h.limit calls n u) is
    (kept h.cpus h.limit n calls demand some sound here.at here.task inside)
    (subst (λ s. IsDemand s demand) (sym script) asks)
    (ap (λ (m : ℕ). promise_to d m demand) here.number_is ∙ answer) in
    subst (λ (m : ℕ). NoneLate n m (logged_of_run h.cpus h.limit calls n)) here.number_is keeps.figures

-- ---- of a run without an advance

row_promised : (id : SessionId) (clients : ℕ) (tasks : List TaskSpecView) (hs : List SectionView) (refused : List (ℕ × Refusal)) → IsPromiseKept → AreFrom 1 tasks → length hs ≡ length id.cpu_sets
    → ((d : ℕ) (x : SectionView) → IsDomainIndex id d → IsHistoryOf id d [] (get_or hs d x)) → AnswersScenario id clients tasks 0 (map (λ h. h.entries) hs) refused
    → (k : ℕ) (t : TaskSpecView) → slice_get tasks k ≡ Some t → (row : PromiseView) → IsRowOf (domains_of hs) t row → IsPromised hs t row
row_promised id clients tasks hs refused kept numbered count legal answers k t at row is = record {
  row = is;
  kept = λ never.
      let a = answered hs 0 t.number is.demand (sym (ap (λ (p : Option ℕ × Promise). p.1) is.answer) ∙ never) in
      let h = a.history in
      let first : 0 + a.at ≡ a.at = omega arith in
      let domain : row.domain ≡ Some a.at = ap (λ (p : Option ℕ × Promise). p.0) is.answer ∙ a.domain ∙ ap (λ (n : ℕ). Some n) first in
      let inside = slice_get_within hs a.at h a.there in
      let there : a.at < length (map (λ (x : SectionView). x.entries) hs) = omega (arith, inside, length-map hs (λ (x : SectionView). x.entries)) in
      let h_is = get_or_from_slice_get hs a.at h h a.there in
      let lawful : IsHistoryOf id a.at [] h = subst (IsHistoryOf id a.at []) h_is (legal a.at h (omega (arith, inside, count))) in
      let entries : get_or (map (λ (x : SectionView). x.entries) hs) a.at [] ≡ h.entries =
      get_or-map (λ (x : SectionView). x.entries) hs a.at h [] inside ∙ ap (λ (x : SectionView). x.entries) h_is in
      let of : All (λ e. IsOfTask tasks e.call) h.entries =
      subst (All (λ e. IsOfTask tasks e.call)) entries
      (history_of_tasks id clients a.at tasks answers.asked (get_or (map (λ (x : SectionView). x.entries) hs) a.at []) answers.tasks_are (answers.members a.at there) (λ i below. answers.entries a.at i there below)) in
      subst (IsNeverLateAt hs t.number) (sym domain)
      (h, a.there, history_keeps tasks h t k is.demand kept numbered at lawful.spelled.some_cpus lawful.spelled.entries of is.asks a.answer);
}

pub promised : (id : SessionId) (clients : ℕ) (tasks : List TaskSpecView) (hs : List SectionView) (refused : List (ℕ × Refusal)) (text : List ℕ) → IsPromiseKept → AreFrom 1 tasks → length hs ≡ length id.cpu_sets
    → ((d : ℕ) (x : SectionView) → IsDomainIndex id d → IsHistoryOf id d [] (get_or hs d x)) → AnswersScenario id clients tasks 0 (map (λ h. h.entries) hs) refused
    → AreRows (IsRowOf (domains_of hs)) tasks text → ArePromises tasks hs text
promised id clients tasks hs refused text kept numbered count legal answers are = record {
  rows = are.rows;
  each = each_as (IsPromised hs) (IsRowOf (domains_of hs)) tasks are.rows (row_promised id clients tasks hs refused kept numbered count legal answers) are.each;
  text_is = are.text_is;
}
