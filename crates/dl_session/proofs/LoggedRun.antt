-- What the histories of a run log: admissions log nothing, so all of it is what the advance at the
-- end logs.
use Rattle.std.proofs.Common.{◌≡◌, ℕ, zero, suc, ◌+◌, ◌-◌, ◌<◌, ◌||◌, Bool, true, false, cond, ltb, Option, Some, None, List, [], ◌∷◌, ◌++◌, length, take, map, get_or, refl, sym, ap, ◌∙◌, arith, inl, inr, append-nil}
use Rattle.std.specs.Prelude.{All, fold, max}
use Rattle.std.proofs.lemmas.Bool.{cases_Bool, lt-ltb}
use Rattle.std.proofs.lemmas.List.{length-map, length_push, take-map, append_assoc}
use Rattle.std.proofs.lemmas.List.Elements.{All-from_get_or, All-head, All-tail}
use Rattle.std.proofs.Math.Seq.{take-append_seam}
use Rattle.domain_run.specs.declared.task.Task.{Task}
use Rattle.domain_run.specs.declared.call.Call.{Call}
use Rattle.domain_run.specs.declared.call.Call.TheVariants.{Admit, Regrade, Wake, Leave, Advance, Limit, Depart, Arrive}
use Rattle.domain_run.specs.declared.call.Reply.TheVariants.{Admitted}
use Rattle.domain_run.specs.declared.happened.Happened.{Happened}
use Rattle.domain_run.specs.Domain.{Domain, empty_domain}
use Rattle.domain_run.specs.Passing.{without_switches}
use Rattle.domain_run.specs.Calls.{task_of, leave_reply, depart_reply, reply_to, is_refusal, after_call}
use Rattle.domain_run.specs.Happened.{logged_by_ticks, logged_by_granted, logged_by_call, logged_by_calls}
use Rattle.domain_run.specs.Run.{after_calls, run_of}
use Rattle.domain_run.proofs.CallerLemmas.{call_time, ticks_of}
use Rattle.rtapp_scenario.specs.ScenarioView.{TaskSpecView}
use Rattle.calls_text.specs.declared.section.Entry.{Entry}
use Rattle.calls_text.specs.SectionView.{SectionView}
use Rattle.calls_text.specs.Histories.{calls_of}
use Rattle.run_figures.specs.Accounting.{AccountingView}
use Rattle.chart_pieces.specs.Drawing.{DrawingView}
use Rattle.calls_trace.specs.Charted.{last_time}
use Rattle.calls_trace.specs.DomainEvents.{domain_of, logged_of}
use Rattle.calls_trace.specs.Streamed.{AreAccountings}
use Rattle.session.specs.declared.refusal.Refusal.{Refusal}
use Rattle.session.specs.SessionId.{SessionId, IsDomainIndex}
use Rattle.session.specs.declared.report.Finished.{Finished}
use Rattle.session.specs.declared.report.Wanted.{Wanted}
use Rattle.session.specs.declared.report.Wanted.TheVariants as wants
use Rattle.session.specs.Report.{IsHistoryOf}
use Rattle.session.specs.RunEnd.{IsLeftAs, logged_at_end}
use Rattle.dl_session.specs.InOrder.{is_admitted_reply}
use Rattle.dl_session.specs.ScenarioAnswers.{AnswersScenario}
use Rattle.dl_session.specs.declared.printing.Left.{Left}
use Rattle.dl_session.specs.private.Running.{AreLeftAs}
use Rattle.dl_session.proofs.OrderRuns.{is_verdict, admitted_is, LegalFrom}
use Rattle.dl_session.proofs.OrderSplit.{last_calls, last_if, IsSplit}
use Rattle.dl_session.proofs.OrderLaw.{split_of}

-- ---- admissions log nothing

leave_no : (o : Option Task) → leave_reply o ≡ Admitted → ⊥
leave_no None e = absurd cc
leave_no (Some t) e = absurd cc

depart_no : (o : Option Task) → depart_reply o ≡ Admitted → ⊥
depart_no None e = absurd cc
depart_no (Some t) e = absurd cc

granted_logs : (d : Domain) (c : Call) → reply_to d c ≡ Admitted → logged_by_granted d c ≡ []
granted_logs d (Admit number name params delay script) e = refl
granted_logs d (Regrade number params word) e = refl
granted_logs d (Wake number) e = refl
granted_logs d (Leave number) e = absurd (leave_no (task_of d number) e)
granted_logs d (Advance n) e = absurd cc
granted_logs d (Limit limit word) e = refl
granted_logs d (Depart number) e = absurd (depart_no (task_of d number) e)
granted_logs d (Arrive number name params script) e = refl

admitted_else : (a b : Bool) → b ≡ false → (a || b) ≡ true → a ≡ true
admitted_else true b e h = refl
admitted_else false b e h = absurd cc

-- an admission, whether it was granted or refused
verdict_logs : (d : Domain) (c : Call) → is_verdict (Some (reply_to d c)) ≡ true → logged_by_call d c ≡ []
verdict_logs d c verdict =
    elim (cases_Bool (is_refusal (reply_to d c))) [
      | inl refused ↦ ap (λ (b : Bool). cond b [] (logged_by_granted d c)) refused
      | inr granted ↦
          ap (λ (b : Bool). cond b [] (logged_by_granted d c)) granted
          ∙ granted_logs d c (admitted_is (reply_to d c) (admitted_else (is_admitted_reply (reply_to d c)) (is_refusal (reply_to d c)) granted verdict))
    ]

verdicts_log : (d : Domain) (entries : List Entry) → All (λ e. is_verdict e.reply ≡ true) entries → LegalFrom d entries → logged_by_calls d (calls_of entries) ≡ []
verdicts_log d [] verdicts legal = refl
verdicts_log d (e ∷ entries) verdicts legal =
    let first : e.reply ≡ Some (reply_to d e.call) = cc in
    let others : LegalFrom (after_call d e.call) entries = cc in
    let verdict : is_verdict (Some (reply_to d e.call)) ≡ true = ap is_verdict (sym first) ∙ All-head (λ (x : Entry). is_verdict x.reply ≡ true) e entries verdicts in
    ap (λ (hs : List Happened). hs ++ logged_by_calls (after_call d e.call) (calls_of entries)) (verdict_logs d e.call verdict)
    ∙ verdicts_log (after_call d e.call) entries (All-tail (λ (x : Entry). is_verdict x.reply ≡ true) e entries verdicts) others

-- ---- the advance after them

logged_both : (d : Domain) (xs ys : List Call) → logged_by_calls d (xs ++ ys) ≡ logged_by_calls d xs ++ logged_by_calls (after_calls d xs) ys
logged_both d [] ys = refl
logged_both d (x ∷ xs) ys =
    ap (λ (hs : List Happened). logged_by_call d x ++ hs) (logged_both (after_call d x) xs ys)
    ∙ sym (append_assoc (logged_by_call d x) (logged_by_calls (after_call d x) xs) (logged_by_calls (after_calls (after_call d x) xs) ys))

-- all entries but the last are those before the advance
before_last : (entries before : List Entry) (c : Call) → calls_of entries ≡ calls_of before ++ c ∷ [] → calls_of (take (length entries - 1) entries) ≡ calls_of before
before_last entries before c is =
    let count : length entries ≡ length (calls_of before) + 1 = sym (length-map entries (λ (e : Entry). e.call)) ∙ ap length is ∙ length_push (calls_of before) c in
    let less : length entries - 1 ≡ length (calls_of before) = omega (arith, count) in
    sym (take-map (λ (e : Entry). e.call) (length entries - 1) entries)
    ∙ ap (λ (cs : List Call). take (length entries - 1) cs) is
    ∙ ap (λ (n : ℕ). take n (calls_of before ++ c ∷ [])) less
    ∙ take-append_seam (calls_of before) (c ∷ [])

nothing_before : (n : ℕ) → ltb 0 n ≡ false → n ≡ 0
nothing_before zero e = refl
nothing_before (suc n) e = absurd (let some : ltb 0 (suc n) ≡ true = lt-ltb 0 (suc n) (omega arith) in cc)

end_logs : (b : Bool) (duration cpus limit : ℕ) (entries : List Entry) (parts : IsSplit (empty_domain cpus limit) duration entries) → ltb 0 duration ≡ b
    → logged_by_calls (run_of cpus limit (calls_of parts.before)) (last_calls duration) ≡ logged_at_end duration cpus limit entries
end_logs true duration cpus limit entries parts some =
    let before = parts.before in
    let d = run_of cpus limit (calls_of before) in
    let last : last_calls duration ≡ Advance duration ∷ [] = last_if true duration some in
    let cut = before_last entries before (Advance duration) (parts.calls ∙ ap (λ (cs : List Call). calls_of before ++ cs) last) in
    ap (logged_by_calls d) last
    ∙ append-nil (logged_by_ticks duration d)
    ∙ ap (λ (cs : List Call). logged_by_ticks duration (run_of cpus limit cs)) (sym cut)
end_logs false duration cpus limit entries parts none =
    let zero_is : duration ≡ 0 = nothing_before duration none in
    let d = run_of cpus limit (calls_of parts.before) in
    ap (logged_by_calls d) (last_if false duration none)
    ∙ ap (λ (n : ℕ). logged_at_end n cpus limit entries) (sym zero_is)

-- the calls of a history tell what the ticks at its end log
pub history_logs : (duration cpus limit : ℕ) (entries : List Entry) → IsSplit (empty_domain cpus limit) duration entries
    → logged_by_calls (empty_domain cpus limit) (calls_of entries) ≡ logged_at_end duration cpus limit entries
history_logs duration cpus limit entries parts =
    let start = empty_domain cpus limit in
    let front = calls_of parts.before in
    let last = last_calls duration in
    ap (logged_by_calls start) parts.calls
    ∙ logged_both start front last
    ∙ ap (λ (hs : List Happened). hs ++ logged_by_calls (after_calls start front) last) (verdicts_log start parts.before parts.verdicts parts.legal)
    ∙ end_logs (ltb 0 duration) duration cpus limit entries parts refl

-- ---- all domains

-- the calls of the history of a domain tell what the ticks at its end log
pub section_logs : (id : SessionId) (clients : ℕ) (tasks : List TaskSpecView) (duration : ℕ) (histories : List SectionView) (refused : List (ℕ × Refusal))
    → length histories ≡ length id.cpu_sets
    → ((d : ℕ) (x : SectionView) → IsDomainIndex id d → IsHistoryOf id d [] (get_or histories d x))
    → AnswersScenario id clients tasks duration (map (λ h. h.entries) histories) refused
    → (d : ℕ) (s : SectionView) → IsDomainIndex id d → let h = get_or histories d s in logged_of h ≡ logged_at_end duration h.cpus h.limit h.entries
section_logs id clients tasks duration histories refused count legal answers d s place =
    let h = get_or histories d s in
    history_logs duration h.cpus h.limit h.entries (split_of id clients tasks duration histories refused count legal answers d s place)

-- ---- what was streamed

-- of the run of a history, with this that happened
abbrev streamed_with : SectionView → List Happened → AccountingView
streamed_with h happened = record {
  cpus = (domain_of h).cpus;
  time = (domain_of h).time;
  tasks = (domain_of h).used;
  happened = happened;
  switches = (domain_of h).switches;
}

pub are_streamed : (id : SessionId) (clients : ℕ) (tasks : List TaskSpecView) (duration : ℕ) (histories : List SectionView) (refused : List (ℕ × Refusal)) (streamed : List AccountingView)
    → length histories ≡ length id.cpu_sets
    → ((d : ℕ) (x : SectionView) → IsDomainIndex id d → IsHistoryOf id d [] (get_or histories d x))
    → AnswersScenario id clients tasks duration (map (λ h. h.entries) histories) refused
    → ((d : ℕ) (s : SectionView) (x : AccountingView) → d < length histories → get_or streamed d x ≡ streamed_with (get_or histories d s) (logged_at_end duration (get_or histories d s).cpus (get_or histories d s).limit (get_or histories d s).entries))
    → AreAccountings histories streamed
are_streamed id clients tasks duration histories refused streamed count legal answers each d s x inside =
    let place : d < length id.cpu_sets = omega (arith, inside, count) in
    let h = get_or histories d s in
    each d s x inside
    ∙ ap (streamed_with h) (sym (history_logs duration h.cpus h.limit h.entries (split_of id clients tasks duration histories refused count legal answers d s place)))

-- ---- what is wanted

-- what a run left, besides its report
abbrev pub left_of_run : Finished → Left
left_of_run f = record { states = f.states; streamed = f.streamed; drawn = f.drawn }

pub left_as : (id : SessionId) (clients : ℕ) (tasks : List TaskSpecView) (duration : ℕ) (wanted : Wanted) (f : Finished) (refused : List (ℕ × Refusal))
    → length f.report.histories.items ≡ length id.cpu_sets
    → ((d : ℕ) (x : SectionView) → IsDomainIndex id d → IsHistoryOf id d [] (get_or f.report.histories.items d x))
    → AnswersScenario id clients tasks duration (map (λ h. h.entries) f.report.histories.items) refused
    → IsLeftAs duration wanted f
    → AreLeftAs wanted f.report.histories.items (left_of_run f)
left_as id clients tasks duration wants.Switches f refused count legal answers left = left.runs
left_as id clients tasks duration wants.Happened f refused count legal answers left = left.runs
left_as id clients tasks duration wants.Figures f refused count legal answers left = record {
  as_many = left.streamed_count;
  runs = λ d s x inside. ap without_switches (left.runs d s x inside);
  all = are_streamed id clients tasks duration f.report.histories.items refused f.streamed.items count legal answers left.streamed;
}
left_as id clients tasks duration wants.Jobs f refused count legal answers left = record {
  as_many = left.streamed_count;
  runs = λ d s x inside. ap without_switches (left.runs d s x inside);
  all = are_streamed id clients tasks duration f.report.histories.items refused f.streamed.items count legal answers left.streamed;
}
left_as id clients tasks duration (wants.Chart window) f refused count legal answers left = record {
  runs = λ d s x inside. ap without_switches (left.drawn.runs d s x inside);
  drawings = record {
    as_many = sym (length-map f.drawn.items (λ (d : DrawingView). d.streamed)) ∙ left.drawn.streamed_count;
    same_window = left.same_window;
    whole = are_streamed id clients tasks duration f.report.histories.items refused (map (λ (d : DrawingView). d.streamed) f.drawn.items) count legal answers left.drawn.streamed;
  };
}

-- ---- how long the runs last

-- an admission, whether it was granted or refused, takes no time
verdict_still : (d : Domain) (c : Call) → is_verdict (Some (reply_to d c)) ≡ true → ticks_of c ≡ 0
verdict_still d (Admit number name params delay script) verdict = refl
verdict_still d (Regrade number params word) verdict = refl
verdict_still d (Wake number) verdict = refl
verdict_still d (Leave number) verdict = refl
verdict_still d (Advance n) verdict = absurd cc
verdict_still d (Limit limit word) verdict = refl
verdict_still d (Depart number) verdict = refl
verdict_still d (Arrive number name params script) verdict = refl

verdicts_still : (d : Domain) (entries : List Entry) → All (λ e. is_verdict e.reply ≡ true) entries → LegalFrom d entries → (after_calls d (calls_of entries)).time ≡ d.time
verdicts_still d [] verdicts legal = refl
verdicts_still d (e ∷ entries) verdicts legal =
    let first : e.reply ≡ Some (reply_to d e.call) = cc in
    let others : LegalFrom (after_call d e.call) entries = cc in
    let verdict : is_verdict (Some (reply_to d e.call)) ≡ true = ap is_verdict (sym first) ∙ All-head (λ (x : Entry). is_verdict x.reply ≡ true) e entries verdicts in
    let rest = verdicts_still (after_call d e.call) entries (All-tail (λ (x : Entry). is_verdict x.reply ≡ true) e entries verdicts) others in
    omega (arith, rest, call_time d e.call, verdict_still d e.call verdict)

after_both : (d : Domain) (xs ys : List Call) → after_calls d (xs ++ ys) ≡ after_calls (after_calls d xs) ys
after_both d [] ys = refl
after_both d (x ∷ xs) ys = after_both (after_call d x) xs ys

end_lasts : (b : Bool) (duration : ℕ) (d : Domain) → ltb 0 duration ≡ b → (after_calls d (last_calls duration)).time ≡ d.time + duration
end_lasts true duration d some = ap (λ (cs : List Call). (after_calls d cs).time) (last_if true duration some) ∙ call_time d (Advance duration)
end_lasts false duration d none =
    let still : (after_calls d (last_calls duration)).time ≡ d.time = ap (λ (cs : List Call). (after_calls d cs).time) (last_if false duration none) in
    omega (arith, still, nothing_before duration none)

history_lasts : (duration cpus limit : ℕ) (entries : List Entry) → IsSplit (empty_domain cpus limit) duration entries → (run_of cpus limit (calls_of entries)).time ≡ duration
history_lasts duration cpus limit entries parts =
    let start = empty_domain cpus limit in
    let front = calls_of parts.before in
    let split : (run_of cpus limit (calls_of entries)).time ≡ (after_calls (after_calls start front) (last_calls duration)).time =
    ap (λ (cs : List Call). (after_calls start cs).time) parts.calls ∙ ap (λ (d : Domain). d.time) (after_both start front (last_calls duration)) in
    let before : (after_calls start front).time ≡ 0 = verdicts_still start parts.before parts.verdicts parts.legal in
    omega (arith, split, before, end_lasts (ltb 0 duration) duration (after_calls start front) refl)

most_same : (n : ℕ) → max n n ≡ n
most_same n = omega arith

most_first : (n : ℕ) → max 0 n ≡ n
most_first n = omega arith

ends_same : (n : ℕ) (hs : List SectionView) → All (λ h. (domain_of h).time ≡ n) hs → fold (λ (end : ℕ) (h : SectionView). max end (domain_of h).time) n hs ≡ n
ends_same n [] all = refl
ends_same n (h ∷ hs) all =
    let first = All-head (λ (x : SectionView). (domain_of x).time ≡ n) h hs all in
    ap (λ (e : ℕ). fold (λ (end : ℕ) (x : SectionView). max end (domain_of x).time) (max n e) hs) first
    ∙ ap (λ (e : ℕ). fold (λ (end : ℕ) (x : SectionView). max end (domain_of x).time) e hs) (most_same n)
    ∙ ends_same n hs (All-tail (λ (x : SectionView). (domain_of x).time ≡ n) h hs all)

last_is : (n : ℕ) (hs : List SectionView) → 0 < length hs → All (λ h. (domain_of h).time ≡ n) hs → last_time hs ≡ n
last_is n [] some all = absurd (omega (arith, some))
last_is n (h ∷ hs) some all =
    let first = All-head (λ (x : SectionView). (domain_of x).time ≡ n) h hs all in
    ap (λ (e : ℕ). fold (λ (end : ℕ) (x : SectionView). max end (domain_of x).time) e hs) (most_first (domain_of h).time ∙ first)
    ∙ ends_same n hs (All-tail (λ (x : SectionView). (domain_of x).time ≡ n) h hs all)

-- the last run ends where each does: after the whole duration
pub sections_last : (id : SessionId) (clients : ℕ) (tasks : List TaskSpecView) (duration : ℕ) (histories : List SectionView) (refused : List (ℕ × Refusal))
    → 0 < length id.cpu_sets → length histories ≡ length id.cpu_sets
    → ((d : ℕ) (x : SectionView) → IsDomainIndex id d → IsHistoryOf id d [] (get_or histories d x))
    → AnswersScenario id clients tasks duration (map (λ h. h.entries) histories) refused → last_time histories ≡ duration
sections_last id clients tasks duration histories refused some count legal answers =
    let x : SectionView = record { cpus = 0; limit = 0; entries = [] } in
    last_is duration histories (omega (arith, some, count))
    (All-from_get_or (λ (h : SectionView). (domain_of h).time ≡ duration) histories x (λ d inside.
    let h = get_or histories d x in
    history_lasts duration h.cpus h.limit h.entries (split_of id clients tasks duration histories refused count legal answers d x (omega (arith, inside, count)))))
