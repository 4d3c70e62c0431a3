-- Without an advance, a history is admissions of the scenario's tasks, and lists these tasks.
use Rattle.std.proofs.Common.{◌≡◌, ℕ, ◌+◌, ◌-◌, ◌<◌, Bool, true, false, cond, eqb, ltb, ◌&&◌, Option, Some, None, Ok, Err, List, [], ◌∷◌, ◌++◌, map, get_or, refl, sym, ap, ◌∙◌, subst, arith, eq-eqb, append-nil}
use Rattle.std.specs.Prelude.{All, option_map, slice_get}
use Rattle.std.specs.List.{cons_option}
use Rattle.std.proofs.lemmas.Option.{same_Some, slice_get-map, slice_get-get_or}
use Rattle.std.proofs.lemmas.List.Elements.{All-nil, All-cons, All-head, All-tail, All-push, All-filter}
use Rattle.attr_check.specs.Accepted.{params_of}
use Rattle.domain_run.specs.declared.call.Call.{Call}
use Rattle.domain_run.specs.declared.call.Call.TheVariants.{Advance}
use Rattle.domain_run.specs.declared.call.Reply.TheVariants.{Done}
use Rattle.domain_run.specs.declared.task.Task.{Task}
use Rattle.domain_run.specs.Domain.{Domain, empty_domain}
use Rattle.domain_run.specs.Calls.{reply_to, is_refusal, new_task, with_task_listed, after_call}
use Rattle.domain_run.specs.Run.{after_calls, run_of}
use Rattle.rtapp_scenario.specs.ScenarioView.{TaskSpecView}
use Rattle.calls_text.specs.declared.section.Entry.{Entry}
use Rattle.calls_text.specs.Histories.{calls_of}
use Rattle.call_book.specs.Book.{IsMember, own_entries}
use Rattle.session.specs.SessionId.{SessionId}
use Rattle.session.specs.Asks.{Answer, Asked, Made, admit_call, domain_with_cpus, made_of, made_at, made_in, entries_from}
use Rattle.session.specs.Admissions.{is_own, own_asked}
use Rattle.session.specs.RunEnd.{advance_of}

-- the call is the admission of one of these tasks
pub record IsOfTask (tasks : List TaskSpecView) (c : Call) : Type 0 where
  pub place : ℕ
  pub task : TaskSpecView
  pub at : slice_get tasks place ≡ Some task
  pub is : c ≡ admit_call task

-- ---- what was asked for

asked_of : (asked : List Asked) → All (λ q. IsOfTask (map (λ x. x.task) asked) (admit_call q.task)) asked
asked_of asked = λ k z h.
    let q = get_or asked k z in
    record {
      place = k;
      task = q.task;
      at = slice_get-map (λ (x : Asked). x.task) asked k ∙ ap (option_map (λ (x : Asked). x.task)) (slice_get-get_or asked k z h);
      is = refl;
    }

-- ---- what was made of it

module _ (P : Call → Type 0) where
  by_answer : (call : Call) (answer : Answer) (m : Made) → P call → made_of call answer ≡ Some m → P m.call
  by_answer call (Ok reply) m has is = subst (λ (x : Made). P x.call) (same_Some _ m is) has
  by_answer call (Err refusal) m has is = absurd cc

  by_place : (here : Bool) (call : Call) (answer : Answer) (m : Made) → P call → cond here (made_of call answer) None ≡ Some m → P m.call
  by_place true call answer m has is = by_answer call answer m has is
  by_place false call answer m has is = absurd cc

  by_domain : (d : ℕ) (o : Option ℕ) (call : Call) (answer : Answer) (m : Made) → P call → made_at d o call answer ≡ Some m → P m.call
  by_domain d None call answer m has is = absurd cc
  by_domain d (Some place) call answer m has is = by_place (eqb place d) call answer m has is

  with_one : (o : Option Made) (made : List Made) → ((m : Made) → o ≡ Some m → P m.call) → All (λ m. P m.call) made → All (λ m. P m.call) (cons_option o made)
  with_one None made first rest = rest
  with_one (Some m) made first rest = All-cons (λ (x : Made). P x.call) m made (first m refl) rest

  made_has : (id : SessionId) (d : ℕ) (asked : List Asked) → All (λ q. P (admit_call q.task)) asked → All (λ m. P m.call) (made_in id d asked)
  made_has id d [] all = All-nil (λ (m : Made). P m.call)
  made_has id d (q ∷ asked) all =
      with_one (made_at d (domain_with_cpus id.cpu_sets q.task.cpus) (admit_call q.task) q.answer) (made_in id d asked)
      (λ m is. by_domain d (domain_with_cpus id.cpu_sets q.task.cpus) (admit_call q.task) q.answer m (All-head (λ (x : Asked). P (admit_call x.task)) q asked all) is)
      (made_has id d asked (All-tail (λ (x : Asked). P (admit_call x.task)) q asked all))

  entries_have : (client seq : ℕ) (made : List Made) → All (λ m. P m.call) made → All (λ e. P e.call) (entries_from client seq made)
  entries_have client seq [] all = All-nil (λ (e : Entry). P e.call)
  entries_have client seq (m ∷ made) all =
      All-cons (λ (e : Entry). P e.call) (record { client = client; seq = seq; call = m.call; reply = Some m.reply }) (entries_from client (seq + 1) made)
      (All-head (λ (x : Made). P x.call) m made all) (entries_have client (seq + 1) made (All-tail (λ (x : Made). P x.call) m made all))

-- ---- what is so of the entries of each client is so of all

module _ (P : Entry → Type 0) (n : ℕ) where
  others_have : (i : ℕ) (own : Bool) (e : Entry) (entries : List Entry) → All P (cond own (e ∷ own_entries (i + 1) entries) (own_entries (i + 1) entries)) → All P (own_entries (i + 1) entries)
  others_have i true e entries all = All-tail P e (own_entries (i + 1) entries) all
  others_have i false e entries all = all

  of_each : (entries : List Entry) → All (λ e. IsMember n e.client) entries → ((i : ℕ) → i < n → All P (own_entries (i + 1) entries)) → All P entries
  of_each [] members each = All-nil P
  of_each (e ∷ entries) members each =
      let member = All-head (λ (x : Entry). IsMember n x.client) e entries members in
      let some = member.some in
      let most = member.most in
      let i = e.client - 1 in
      let below : i < n = omega (arith, some, most) in
      let is : e.client ≡ i + 1 = omega (arith, some) in
      let mine : All P (cond (eqb e.client (i + 1)) (e ∷ own_entries (i + 1) entries) (own_entries (i + 1) entries)) = each i below in
      let first : All P (e ∷ own_entries (i + 1) entries) =
      subst (λ (b : Bool). All P (cond b (e ∷ own_entries (i + 1) entries) (own_entries (i + 1) entries))) (eq-eqb e.client (i + 1) is) mine in
      All-cons P e entries (All-head P e (own_entries (i + 1) entries) first)
      (of_each entries (All-tail (λ (x : Entry). IsMember n x.client) e entries members) (λ k h. others_have k (eqb e.client (k + 1)) e entries (each k h)))

-- ---- a history without an advance

abbrev no_advance : List Made
no_advance = record { call = Advance 0; reply = Done 0 } ∷ []

none_made : (client : ℕ) → advance_of 0 client ≡ []
none_made client = elim (eqb client 1) as (λ b. cond (b && ltb 0 0) no_advance [] ≡ []) [ true ↦ refl | false ↦ refl ]

pub history_of_tasks : (id : SessionId) (n d : ℕ) (tasks : List TaskSpecView) (asked : List Asked) (history : List Entry) → map (λ q. q.task) asked ≡ tasks → All (λ e. IsMember n e.client) history
    → ((i : ℕ) → i < n → own_entries (i + 1) history ≡ entries_from (i + 1) 0 (made_in id d (own_asked n i asked) ++ advance_of 0 (i + 1)))
    → All (λ e. IsOfTask tasks e.call) history
history_of_tasks id n d tasks asked history are members own =
    let P : Call → Type 0 = IsOfTask tasks in
    let all : All (λ q. P (admit_call q.task)) asked = subst (λ (ts : List TaskSpecView). All (λ q. IsOfTask ts (admit_call q.task)) asked) are (asked_of asked) in
    of_each (λ e. P e.call) n history members (λ i below.
    let mine = own_asked n i asked in
    let alone : entries_from (i + 1) 0 (made_in id d mine) ≡ own_entries (i + 1) history =
    ap (entries_from (i + 1) 0) (sym (ap (λ (ms : List Made). made_in id d mine ++ ms) (none_made (i + 1)) ∙ append-nil (made_in id d mine))) ∙ sym (own i below) in
    subst (All (λ e. P e.call)) alone
    (entries_have P (i + 1) 0 (made_in id d mine) (made_has P id d mine (All-filter (is_own n i) (λ q. P (admit_call q.task)) asked all))))

-- ---- what it lists

pub record IsListedOf (tasks : List TaskSpecView) (u : Task) : Type 0 where
  pub place : ℕ
  pub task : TaskSpecView
  pub at : slice_get tasks place ≡ Some task
  pub number : u.number ≡ task.number
  pub script : u.cursor.script ≡ task.script

after_admission : (tasks : List TaskSpecView) (d : Domain) (k : ℕ) (t : TaskSpecView) → slice_get tasks k ≡ Some t → All (IsListedOf tasks) d.tasks → All (IsListedOf tasks) (after_call d (admit_call t)).tasks
after_admission tasks d k t at all =
    let u = new_task d t.number t.name (params_of t.attr) t.delay t.script in
    elim (is_refusal (reply_to d (admit_call t))) as (λ b. All (IsListedOf tasks) (cond b d (with_task_listed d u)).tasks) [
      | true ↦ all
      | false ↦ All-push (IsListedOf tasks) d.tasks u all (record { place = k; task = t; at = at; number = refl; script = refl })
    ]

after_admissions : (tasks : List TaskSpecView) (d : Domain) (calls : List Call) → All (IsOfTask tasks) calls → All (IsListedOf tasks) d.tasks → All (IsListedOf tasks) (after_calls d calls).tasks
after_admissions tasks d [] are all = all
after_admissions tasks d (c ∷ calls) are all =
    let first = All-head (IsOfTask tasks) c calls are in
    after_admissions tasks (after_call d c) calls (All-tail (IsOfTask tasks) c calls are)
    (subst (λ (x : Call). All (IsListedOf tasks) (after_call d x).tasks) (sym first.is) (after_admission tasks d first.place first.task first.at all))

pub listed_of_tasks : (tasks : List TaskSpecView) (cpus limit : ℕ) (calls : List Call) → All (IsOfTask tasks) calls → All (IsListedOf tasks) (run_of cpus limit calls).tasks
listed_of_tasks tasks cpus limit calls are = after_admissions tasks (empty_domain cpus limit) calls are (All-nil (IsListedOf tasks))

pub calls_of_tasks : (tasks : List TaskSpecView) (entries : List Entry) → All (λ e. IsOfTask tasks e.call) entries → All (IsOfTask tasks) (calls_of entries)
calls_of_tasks tasks [] all = All-nil (IsOfTask tasks)
calls_of_tasks tasks (e ∷ entries) all =
    All-cons (IsOfTask tasks) e.call (calls_of entries) (All-head (λ (x : Entry). IsOfTask tasks x.call) e entries all) (calls_of_tasks tasks entries (All-tail (λ (x : Entry). IsOfTask tasks x.call) e entries all))
