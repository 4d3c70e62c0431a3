-- What was granted in a history, and what the tasks' answers say was granted.
use Rattle.std.proofs.Common.{◌≡◌, ℕ, ◌+◌, ◌-◌, ◌%◌, ◌<◌, Bool, true, false, cond, eqb, ltb, ◌&&◌, Option, Some, List, [], ◌∷◌, ◌++◌, map, refl, sym, ap, ◌∙◌, subst, arith, inl, inr, mod-lt, append-nil, eqb-true, eq-eqb, ne_eqb}
use Rattle.std.specs.Prelude.{All, filter}
use Rattle.std.proofs.lemmas.Bool.{cases_Bool}
use Rattle.std.proofs.lemmas.List.{map-append}
use Rattle.std.proofs.lemmas.List.Elements.{All-nil, All-cons, All-head, All-tail, All-weaker, filter_map-append, filter-append}
use Rattle.domain_run.specs.declared.call.Call.{Call}
use Rattle.domain_run.specs.declared.call.Call.TheVariants.{Advance}
use Rattle.domain_run.specs.declared.call.Reply.TheVariants.{Done}
use Rattle.calls_text.specs.declared.section.Entry.{Entry}
use Rattle.call_book.specs.Book.{IsMember, own_entries}
use Rattle.session.specs.SessionId.{SessionId}
use Rattle.session.specs.Asks.{Asked, Made, admit_call, domain_with_cpus, made_at, made_in, entries_from}
use Rattle.session.specs.Admissions.{own_asked}
use Rattle.session.specs.RunEnd.{advance_of}
use Rattle.dl_session.specs.InOrder.{is_admitted_reply}
use Rattle.domain_run.proofs.CallerLemmas.{Reordered, chain, turned, mapped, filtered, filter_mapped}
use Rattle.domain_run.proofs.CallerLemmas.{gathered, gather, gathered_both}
use Rattle.dl_session.proofs.OrderRuns.{was_admitted, granted_calls}

-- ---- entries of a client

abbrev pub kind_of : Entry → ℕ
kind_of e = e.client - 1

abbrev pub task_kind : ℕ → Asked → ℕ
task_kind n q = (q.task.number - 1) % n

same_test : (c i : ℕ) → 0 < c → eqb c (i + 1) ≡ eqb (c - 1) i
same_test c i some =
    elim (cases_Bool (eqb (c - 1) i)) [
      | inl holds ↦ let e : c - 1 ≡ i = eqb-true (c - 1) i holds in eq-eqb c (i + 1) (omega (arith, e, some)) ∙ sym holds
      | inr fails ↦ ne_eqb c (i + 1) (λ e. let back : c - 1 ≡ i = omega (arith, e) in let never : true ≡ false = sym (eq-eqb (c - 1) i back) ∙ fails in absurd cc) ∙ sym fails
    ]

pub own_is : (clients i : ℕ) (entries : List Entry) → All (λ e. IsMember clients e.client) entries → own_entries (i + 1) entries ≡ filter (λ e. eqb (kind_of e) i) entries
own_is clients i [] members = refl
own_is clients i (e ∷ entries) members =
    let some = (All-head (λ (x : Entry). IsMember clients x.client) e entries members).some in
    let rest = own_is clients i entries (All-tail (λ (x : Entry). IsMember clients x.client) e entries members) in
    ap (λ (es : List Entry). cond (eqb e.client (i + 1)) (e ∷ es) es) rest
    ∙ ap (λ (b : Bool). cond b (e ∷ filter (λ x. eqb (kind_of x) i) entries) (filter (λ x. eqb (kind_of x) i) entries)) (same_test e.client i some)

-- ---- what was granted

-- the calls among these that were granted
abbrev pub made_calls : List Made → List Call
made_calls made = map (λ m. m.call) (filter (λ m. is_admitted_reply m.reply) made)

pub granted_entries : (client seq : ℕ) (made : List Made) → granted_calls (entries_from client seq made) ≡ made_calls made
granted_entries client seq [] = refl
granted_entries client seq (m ∷ made) =
    let e : Entry = record { client = client; seq = seq; call = m.call; reply = Some m.reply } in
    let following = filter (λ (x : Entry). was_admitted x.reply) (entries_from client (seq + 1) made) in
    let left = filter (λ (x : Made). is_admitted_reply x.reply) made in
    elim (is_admitted_reply m.reply) as (λ b. map (λ (x : Entry). x.call) (cond b (e ∷ following) following) ≡ map (λ (x : Made). x.call) (cond b (m ∷ left) left)) [
      | true ↦ ap (λ (cs : List Call). m.call ∷ cs) (granted_entries client (seq + 1) made)
      | false ↦ granted_entries client (seq + 1) made
    ]

made_calls_both : (xs ys : List Made) → made_calls (xs ++ ys) ≡ made_calls xs ++ made_calls ys
made_calls_both xs ys =
    ap (map (λ (m : Made). m.call)) (filter-append (λ (m : Made). is_admitted_reply m.reply) xs ys)
    ∙ map-append (λ (m : Made). m.call) (filter (λ (m : Made). is_admitted_reply m.reply) xs) (filter (λ (m : Made). is_admitted_reply m.reply) ys)

pub granted_both : (xs ys : List Entry) → granted_calls (xs ++ ys) ≡ granted_calls xs ++ granted_calls ys
granted_both xs ys =
    ap (map (λ (e : Entry). e.call)) (filter-append (λ (e : Entry). was_admitted e.reply) xs ys)
    ∙ map-append (λ (e : Entry). e.call) (filter (λ (e : Entry). was_admitted e.reply) xs) (filter (λ (e : Entry). was_admitted e.reply) ys)

no_advance : (duration client : ℕ) → made_calls (advance_of duration client) ≡ []
no_advance duration client =
    elim (eqb client 1 && ltb 0 duration) as (λ b. made_calls (cond b (record { call = Advance duration; reply = Done duration } ∷ []) []) ≡ []) [ true ↦ refl | false ↦ refl ]

advance_apart : (made : List Made) (duration client : ℕ) → made_calls (made ++ advance_of duration client) ≡ made_calls made
advance_apart made duration client =
    made_calls_both made (advance_of duration client) ∙ ap (λ (cs : List Call). made_calls made ++ cs) (no_advance duration client) ∙ append-nil (made_calls made)

made_both : (id : SessionId) (d : ℕ) (xs ys : List Asked) → made_in id d (xs ++ ys) ≡ made_in id d xs ++ made_in id d ys
made_both id d xs ys = filter_map-append (λ (q : Asked). made_at d (domain_with_cpus id.cpu_sets q.task.cpus) (admit_call q.task) q.answer) xs ys

-- the calls granted in a domain
abbrev pub calls_in : SessionId → ℕ → List Asked → List Call
calls_in id d asked = made_calls (made_in id d asked)

calls_both : (id : SessionId) (d : ℕ) (xs ys : List Asked) → calls_in id d (xs ++ ys) ≡ calls_in id d xs ++ calls_in id d ys
calls_both id d xs ys = ap made_calls (made_both id d xs ys) ∙ made_calls_both (made_in id d xs) (made_in id d ys)

calls_reordered : (id : SessionId) (d : ℕ) (xs ys : List Asked) → Reordered xs ys → Reordered (calls_in id d xs) (calls_in id d ys)
calls_reordered id d xs ys r =
    let h : Asked → Option Made = λ q. made_at d (domain_with_cpus id.cpu_sets q.task.cpus) (admit_call q.task) q.answer in
    let test : Made → Bool = λ m. is_admitted_reply m.reply in
    mapped (λ (m : Made). m.call) (filter test (made_in id d xs)) (filter test (made_in id d ys)) (filtered test (made_in id d xs) (made_in id d ys) (filter_mapped h xs ys r))

granted_reordered : (xs ys : List Entry) → Reordered xs ys → Reordered (granted_calls xs) (granted_calls ys)
granted_reordered xs ys r =
    let test : Entry → Bool = λ e. was_admitted e.reply in
    mapped (λ (e : Entry). e.call) (filter test xs) (filter test ys) (filtered test xs ys r)

-- ---- a history that the clients' own tasks made

-- each client's entries are the calls of its own tasks, and then its advance
abbrev pub OwnCalls : SessionId → ℕ → ℕ → ℕ → List Asked → List Entry → Type 0
OwnCalls id n d duration asked history =
    (i : ℕ) → i < n → own_entries (i + 1) history ≡ entries_from (i + 1) 0 (made_in id d (own_asked n i asked) ++ advance_of duration (i + 1))

pub kinds_below : (n : ℕ) (history : List Entry) → All (λ e. IsMember n e.client) history → All (λ e. kind_of e < n) history
kinds_below n history members = All-weaker (λ (e : Entry). IsMember n e.client) (λ (e : Entry). kind_of e < n) (λ e h. let some = h.some in let most = h.most in omega (arith, some, most)) history members

asked_below : (n : ℕ) (asked : List Asked) → 0 < n → All (λ q. task_kind n q < n) asked
asked_below n [] some = All-nil (λ (q : Asked). task_kind n q < n)
asked_below n (q ∷ asked) some = All-cons (λ (q : Asked). task_kind n q < n) q asked (mod-lt (q.task.number - 1) some) (asked_below n asked some)

pub granted_are : (id : SessionId) (n d duration : ℕ) (asked : List Asked) (history : List Entry) → 0 < n → All (λ e. IsMember n e.client) history → OwnCalls id n d duration asked history
    → Reordered (granted_calls history) (calls_in id d asked)
granted_are id n d duration asked history some members own =
    let kinds = gathered kind_of n history in
    let shares = gathered (task_kind n) n asked in
    let each : (i : ℕ) → i < n → granted_calls (filter (λ e. eqb (kind_of e) i) history) ≡ calls_in id d (filter (λ q. eqb (task_kind n q) i) asked) = λ i h.
    ap granted_calls (sym (own_is n i history members) ∙ own i h)
    ∙ granted_entries (i + 1) 0 (made_in id d (own_asked n i asked) ++ advance_of duration (i + 1))
    ∙ advance_apart (made_in id d (own_asked n i asked)) duration (i + 1) in
    let same : granted_calls kinds ≡ calls_in id d shares =
    gathered_both kind_of (task_kind n) granted_calls (calls_in id d) n history asked refl refl granted_both (calls_both id d) each in
    chain (granted_calls history) (granted_calls kinds) (calls_in id d asked)
    (granted_reordered history kinds (gather kind_of n history (kinds_below n history members)))
    (subst (λ (cs : List Call). Reordered cs (calls_in id d asked)) (sym same)
    (turned (calls_in id d asked) (calls_in id d shares) (calls_reordered id d asked shares (gather (task_kind n) n asked (asked_below n asked some)))))
