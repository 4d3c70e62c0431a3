-- A book whose limit nobody changed refuses an admission by the cap that it was opened with.
use Rattle.std.proofs.Common.{◌≡◌, ℕ, ◌+◌, ◌-◌, ◌<◌, ◌≤◌, Bool, true, false, cond, eqb, ltb, ◌&&◌, Option, Some, None, Ok, Err, List, [], ◌∷◌, ◌++◌, length, refl, sym, ap, ◌∙◌, subst, arith, inl, inr, mod-lt, eq-eqb, ltb-true, append-nil}
use Rattle.std.specs.Prelude.{All, not}
use Rattle.std.specs.List.{cons_option}
use Rattle.std.proofs.lemmas.Bool.{cases_Bool}
use Rattle.std.proofs.lemmas.Option.{same_Some}
use Rattle.std.proofs.lemmas.List.{get_or_append_left, length-append}
use Rattle.std.proofs.lemmas.List.Elements.{All-nil, All-cons, All-head, All-tail, All-push, All-filter}
use Rattle.attr_check.specs.Accepted.{params_of}
use Rattle.attr_check.specs.Ratio.{cap}
use Rattle.domain_run.specs.declared.call.Call.{Call}
use Rattle.domain_run.specs.declared.call.Call.TheVariants as calls
use Rattle.domain_run.specs.declared.call.Reply.{Reply}
use Rattle.domain_run.specs.declared.call.Reply.TheVariants.{Admitted, Changed, Woken, Left, Done, Set, Departed, Full, Twice, Busy, NotListed, NotWaiting}
use Rattle.domain_run.specs.Domain.{Domain, empty_domain}
use Rattle.domain_run.specs.Tick.{sum_of}
use Rattle.domain_run.specs.Calls.{reply_to, is_refusal, after_call}
use Rattle.domain_run.proofs.CallerLemmas.{sum_push, granted_is, refused_keeps, admit_busy}
use Rattle.rtapp_scenario.specs.ScenarioView.{TaskSpecView}
use Rattle.calls_text.specs.declared.section.Entry.{Entry}
use Rattle.call_book.specs.Book.{AdmissionView, admission, IsMember, own_entries}
use Rattle.calls_text.specs.Histories.{IsLegal}
use Rattle.session.specs.SessionId.{SessionId, cap_in, cpu_set_of}
use Rattle.session.specs.Asks.{Answer, IsLawful, Asked, Made, admit_call, domain_with_cpus, made_at, made_in, entries_from}
use Rattle.session.specs.Admissions.{own_asked}
use Rattle.session.specs.RunEnd.{advance_of, EndsWith}
use Rattle.dl_session.specs.InOrder.{is_admitted_reply}
use Rattle.dl_session.specs.ScenarioAnswers.{IsByCap}
use Rattle.dl_session.proofs.OrderAdmissions.{as_reply, as_after, with_admitted, admitted_as, task_from, is_admission}
use Rattle.dl_session.proofs.OrderRuns.{is_verdict, admitted_is, refused_else, LegalFrom}
use Rattle.dl_session.proofs.OrderEntries.{kind_of, own_is, task_kind, OwnCalls}
use Rattle.dl_session.proofs.OrderVerdicts.{others, others_both, others_most, one_if, all_verdicts}
use Rattle.dl_session.proofs.OrderSplit.{legal_front}

-- an admission that was refused for want of bandwidth was so by this cap
abbrev pub IsCapped : ℕ → Call → Option Reply → Type 0
IsCapped most call reply =
    (a : AdmissionView) (seen : ℕ) → call ≡ admission a → reply ≡ Some (Busy seen) → (seen ≤ most) × (most < seen + a.params.bw)

abbrev EntryCapped : ℕ → Entry → Type 0
EntryCapped most e = IsCapped most e.call e.reply

abbrev MadeCapped : ℕ → Made → Type 0
MadeCapped most m = IsCapped most m.call (Some m.reply)

-- ---- a history without the advance

-- a domain of this cap, within it
abbrev IsWithin : ℕ → Domain → Type 0
IsWithin most d = (cap d.cpus d.limit ≡ most) × (sum_of d.tasks ≤ most)

capped_one : (most : ℕ) (d : Domain) (call : Call) (reply : Option Reply) → IsWithin most d → reply ≡ Some (reply_to d call) → IsCapped most call reply
capped_one most d call reply is first = λ a seen same said.
    let logged : reply_to d call ≡ Busy seen = same_Some _ _ (sym first ∙ said) in
    let busy : reply_to d (admission a) ≡ Busy seen = subst (λ (c : Call). reply_to d c ≡ Busy seen) same logged in
    let lacks = admit_busy d a.number a.params seen (subst (λ (n : ℕ). sum_of d.tasks ≤ n) (sym is.0) is.1) busy in
    (subst (λ (n : ℕ). seen ≤ n) is.0 lacks.within, subst (λ (n : ℕ). n < seen + a.params.bw) is.0 lacks.above)

within_granted : (most : ℕ) (d : Domain) (c : Call) → IsWithin most d → reply_to d c ≡ Admitted → IsWithin most (after_call d c)
within_granted most d c is one =
    let a = is_admission d c one in
    let granted_one : reply_to d (admission a.admission) ≡ Admitted = subst (λ (x : Call). reply_to d x ≡ Admitted) a.is (as_reply d c ∙ one) in
    let fits : sum_of d.tasks + a.admission.params.bw ≤ most = subst (λ (n : ℕ). sum_of d.tasks + a.admission.params.bw ≤ n) is.0 (granted_is d a.admission.number a.admission.params granted_one).fits in
    let sum = sum_push d.tasks (task_from d a.admission) in
    let next : IsWithin most (with_admitted d a.admission) = (is.0, omega (arith, sum, fits)) in
    subst (IsWithin most) (as_after d c) (subst (λ (x : Call). IsWithin most (after_call d x)) (sym a.is) (subst (IsWithin most) (sym (admitted_as d a.admission granted_one)) next))

within_next : (most : ℕ) (d : Domain) (c : Call) → IsWithin most d → is_verdict (Some (reply_to d c)) ≡ true → IsWithin most (after_call d c)
within_next most d c is verdict =
    elim (cases_Bool (is_admitted_reply (reply_to d c))) [
      | inl holds ↦ within_granted most d c is (admitted_is (reply_to d c) holds)
      | inr fails ↦ subst (IsWithin most) (sym (refused_keeps d c (refused_else (is_admitted_reply (reply_to d c)) (is_refusal (reply_to d c)) fails verdict))) is
    ]

capped_all : (most : ℕ) (d : Domain) (entries : List Entry) → IsWithin most d → All (λ e. is_verdict e.reply ≡ true) entries → LegalFrom d entries → All (EntryCapped most) entries
capped_all most d [] is verdicts legal = All-nil (EntryCapped most)
capped_all most d (e ∷ entries) is verdicts legal =
    let first : e.reply ≡ Some (reply_to d e.call) = cc in
    let rest : LegalFrom (after_call d e.call) entries = cc in
    let verdict : is_verdict (Some (reply_to d e.call)) ≡ true = ap is_verdict (sym first) ∙ All-head (λ (x : Entry). is_verdict x.reply ≡ true) e entries verdicts in
    All-cons (EntryCapped most) e entries (capped_one most d e.call e.reply is first)
    (capped_all most (after_call d e.call) entries (within_next most d e.call is verdict) (All-tail (λ (x : Entry). is_verdict x.reply ≡ true) e entries verdicts) rest)

-- ---- and with it

history_capped : (most duration : ℕ) (d : Domain) (history : List Entry) → IsWithin most d → others history ≤ one_if (ltb 0 duration) → EndsWith duration history → LegalFrom d history → All (EntryCapped most) history
history_capped most duration d history is few ends legal =
    elim (cases_Bool (ltb 0 duration)) [
      | inl holds ↦
          let end = ends (ltb-true 0 duration holds) in
          let bound : one_if (ltb 0 duration) ≡ 1 = ap one_if holds in
          let one : others (end.last ∷ []) ≡ 1 = ap (λ (r : Option Reply). length (cond (not (is_verdict r)) (end.last ∷ []) [])) end.reply in
          let all : others history ≡ others end.before + others (end.last ∷ []) = ap others end.all ∙ others_both end.before (end.last ∷ []) in
          let none : others end.before ≡ 0 = omega (arith, few, bound, one, all) in
          let front = capped_all most d end.before is (all_verdicts end.before none) (legal_front d end.before (end.last ∷ []) (subst (LegalFrom d) end.all legal)) in
          let no_busy : EntryCapped most end.last = λ a seen same said. absurd (not_busy duration seen (same_Some _ _ (sym end.reply ∙ said))) in
          subst (All (EntryCapped most)) (sym end.all) (All-push (EntryCapped most) end.before end.last front no_busy)
      | inr fails ↦
          let bound : one_if (ltb 0 duration) ≡ 0 = ap one_if fails in
          let none : others history ≡ 0 = omega (arith, few, bound) in
          capped_all most d history is (all_verdicts history none) legal
    ]
  where
    not_busy : (n seen : ℕ) → Done n ≡ Busy seen → ⊥
    not_busy n seen e = absurd cc

-- ---- from the entries to the answers

made_capped : (most client seq : ℕ) (made : List Made) → All (EntryCapped most) (entries_from client seq made) → All (MadeCapped most) made
made_capped most client seq [] all = All-nil (MadeCapped most)
made_capped most client seq (m ∷ made) all =
    let e : Entry = record { client = client; seq = seq; call = m.call; reply = Some m.reply } in
    let rest = entries_from client (seq + 1) made in
    All-cons (MadeCapped most) m made (All-head (EntryCapped most) e rest all) (made_capped most client (seq + 1) made (All-tail (EntryCapped most) e rest all))

-- what one answer left, among others
first_of : (P : Made → Type 0) (o : Option Made) (rest : List Made) → All P (cons_option o rest) → (m : Made) → o ≡ Some m → P m
first_of P None rest all m is = absurd cc
first_of P (Some x) rest all m is = subst P (same_Some _ _ is) (All-head P x rest all)

others_of : (P : Made → Type 0) (o : Option Made) (rest : List Made) → All P (cons_option o rest) → All P rest
others_of P None rest all = all
others_of P (Some x) rest all = All-tail P x rest all

answer_capped : (id : SessionId) (d : ℕ) (t : TaskSpecView) (answer : Answer)
    → ((m : Made) → made_at d (domain_with_cpus id.cpu_sets t.cpus) (admit_call t) answer ≡ Some m → MadeCapped (cap_in id d) m) → IsByCap id d t answer
answer_capped id d t (Ok (Busy seen)) capped = λ goes.
    let m : Made = record { call = admit_call t; reply = Busy seen } in
    let a : AdmissionView = record { number = t.number; name = t.name; params = params_of t.attr; delay = t.delay; script = t.script } in
    let there : made_at d (domain_with_cpus id.cpu_sets t.cpus) (admit_call t) (Ok (Busy seen)) ≡ Some m =
    ap (λ (o : Option ℕ). made_at d o (admit_call t) (Ok (Busy seen))) goes.domain ∙ ap (λ (b : Bool). cond b (Some m) None) (eq-eqb d d refl) in
    let logged = capped m there a seen refl refl in
    record { within = logged.0; above = logged.1 }
answer_capped id d t (Ok Admitted) capped = tt
answer_capped id d t (Ok Changed) capped = tt
answer_capped id d t (Ok Woken) capped = tt
answer_capped id d t (Ok Left) capped = tt
answer_capped id d t (Ok (Done n)) capped = tt
answer_capped id d t (Ok Set) capped = tt
answer_capped id d t (Ok Departed) capped = tt
answer_capped id d t (Ok Full) capped = tt
answer_capped id d t (Ok Twice) capped = tt
answer_capped id d t (Ok NotListed) capped = tt
answer_capped id d t (Ok NotWaiting) capped = tt
answer_capped id d t (Err refusal) capped = tt

asked_capped : (id : SessionId) (d : ℕ) (asked : List Asked) → All (MadeCapped (cap_in id d)) (made_in id d asked) → All (λ q. IsByCap id d q.task q.answer) asked
asked_capped id d [] all = All-nil (λ (q : Asked). IsByCap id d q.task q.answer)
asked_capped id d (q ∷ asked) all =
    let P = MadeCapped (cap_in id d) in
    let o = made_at d (domain_with_cpus id.cpu_sets q.task.cpus) (admit_call q.task) q.answer in
    All-cons (λ (x : Asked). IsByCap id d x.task x.answer) q asked
    (answer_capped id d q.task q.answer (λ m is. first_of P o (made_in id d asked) all m is))
    (asked_capped id d asked (others_of P o (made_in id d asked) all))

-- what holds of the tasks of each client holds of all
module _ (P : Asked → Type 0) (n : ℕ) where
  own_rest : (i : ℕ) (b : Bool) (q : Asked) (asked : List Asked) → All P (cond b (q ∷ own_asked n i asked) (own_asked n i asked)) → All P (own_asked n i asked)
  own_rest i true q asked all = All-tail P q (own_asked n i asked) all
  own_rest i false q asked all = all

  of_clients : (asked : List Asked) → 0 < n → ((i : ℕ) → i < n → All P (own_asked n i asked)) → All P asked
  of_clients [] some each = All-nil P
  of_clients (q ∷ asked) some each =
      let k = task_kind n q in
      let own : All P (cond (eqb k k) (q ∷ own_asked n k asked) (own_asked n k asked)) = each k (mod-lt (q.task.number - 1) some) in
      let first : All P (q ∷ own_asked n k asked) = subst (λ (b : Bool). All P (cond b (q ∷ own_asked n k asked) (own_asked n k asked))) (eq-eqb k k refl) own in
      All-cons P q asked (All-head P q (own_asked n k asked) first) (of_clients asked some (λ i below. own_rest i (eqb k i) q asked (each i below)))

all_front : {X : Type 0} (P : X → Type 0) (xs ys : List X) → All P (xs ++ ys) → All P xs
all_front P xs ys all = λ k d h. subst P (get_or_append_left xs ys d k h) (all k d (omega (arith, length-append xs ys)))

-- ---- the law

pub by_cap : (id : SessionId) (n d duration : ℕ) (asked : List Asked) (history : List Entry) → 0 < n
    → All (λ q. IsLawful id q.task q.answer) asked → All (λ e. IsMember n e.client) history → OwnCalls id n d duration asked history
    → EndsWith duration history → IsLegal (length (cpu_set_of id d)) id.limit history
    → All (λ q. IsByCap id d q.task q.answer) asked
by_cap id n d duration asked history some lawful members own ends legal =
    let most = cap_in id d in
    let start = empty_domain (length (cpu_set_of id d)) id.limit in
    let few = others_most id n d duration asked history lawful members own in
    let none : sum_of start.tasks ≡ 0 = refl in
    let all = history_capped most duration start history (refl, omega (arith, none)) few ends legal in
    of_clients (λ (q : Asked). IsByCap id d q.task q.answer) n asked some (λ i below.
    let made = made_in id d (own_asked n i asked) in
    let of_client : All (EntryCapped most) (own_entries (i + 1) history) = subst (All (EntryCapped most)) (sym (own_is n i history members)) (All-filter (λ (e : Entry). eqb (kind_of e) i) (EntryCapped most) history all) in
    let both = made_capped most (i + 1) 0 (made ++ advance_of duration (i + 1)) (subst (All (EntryCapped most)) (own i below) of_client) in
    asked_capped id d (own_asked n i asked) (all_front (MadeCapped most) made (advance_of duration (i + 1)) both))

-- no advance where the duration is 0
abbrev no_ticks : List Made
no_ticks = record { call = calls.Advance 0; reply = Done 0 } ∷ []

none_advanced : (client : ℕ) → advance_of 0 client ≡ []
none_advanced client = elim (eqb client 1) as (λ b. cond (b && ltb 0 0) no_ticks [] ≡ []) [ true ↦ refl | false ↦ refl ]

-- the same of the admissions alone
pub by_cap_alone : (id : SessionId) (n d : ℕ) (asked : List Asked) (history : List Entry) → 0 < n
    → All (λ q. IsLawful id q.task q.answer) asked → All (λ e. IsMember n e.client) history
    → ((i : ℕ) → i < n → own_entries (i + 1) history ≡ entries_from (i + 1) 0 (made_in id d (own_asked n i asked)))
    → IsLegal (length (cpu_set_of id d)) id.limit history
    → All (λ q. IsByCap id d q.task q.answer) asked
by_cap_alone id n d asked history some lawful members own legal =
    by_cap id n d 0 asked history some lawful members
    (λ i below. own i below ∙ ap (entries_from (i + 1) 0) (sym (append-nil (made_in id d (own_asked n i asked))) ∙ ap (λ (ms : List Made). made_in id d (own_asked n i asked) ++ ms) (sym (none_advanced (i + 1)))))
    (λ never. absurd (omega (arith, never))) legal
