-- Before the advance, a history has admissions and refusals alone.
use Rattle.std.proofs.Common.{◌≡◌, ℕ, zero, suc, ◌+◌, ◌<◌, ◌≤◌, Bool, true, false, cond, eqb, ltb, ◌&&◌, Option, Some, None, Ok, Err, List, [], ◌∷◌, ◌++◌, length, refl, sym, ap, ◌∙◌, arith, length-append, ne_eqb}
use Rattle.std.specs.Prelude.{All, filter, not}
use Rattle.std.specs.List.{cons_option}
use Rattle.std.proofs.lemmas.List.Elements.{All-nil, All-cons, All-head, All-tail, All-filter, filter-append}
use Rattle.domain_run.specs.declared.call.Call.{Call}
use Rattle.domain_run.specs.declared.call.Call.TheVariants.{Advance}
use Rattle.domain_run.specs.declared.call.Reply.{Reply}
use Rattle.domain_run.specs.declared.call.Reply.TheVariants.{Admitted, Changed, Woken, Left, Done, Set, Departed, Full, Twice, Busy, NotListed, NotWaiting}
use Rattle.rtapp_scenario.specs.ScenarioView.{TaskSpecView}
use Rattle.calls_text.specs.declared.section.Entry.{Entry}
use Rattle.call_book.specs.Book.{IsMember}
use Rattle.session.specs.SessionId.{SessionId}
use Rattle.session.specs.Asks.{Answer, IsLawful, Asked, Made, admit_call, domain_with_cpus, made_at, made_in, entries_from}
use Rattle.session.specs.Admissions.{is_own, own_asked}
use Rattle.session.specs.RunEnd.{advance_of}
use Rattle.domain_run.proofs.CallerLemmas.{filtered, same_length}
use Rattle.domain_run.proofs.CallerLemmas.{gathered, gather}
use Rattle.dl_session.proofs.OrderRuns.{is_verdict}
use Rattle.dl_session.proofs.OrderEntries.{kind_of, own_is, kinds_below, OwnCalls}

-- so many entries are no verdicts
abbrev pub others : List Entry → ℕ
others entries = length (filter (λ e. not (is_verdict e.reply)) entries)

abbrev others_made : List Made → ℕ
others_made made = length (filter (λ m. not (is_verdict (Some m.reply))) made)

pub others_both : (xs ys : List Entry) → others (xs ++ ys) ≡ others xs + others ys
others_both xs ys =
    let test : Entry → Bool = λ e. not (is_verdict e.reply) in
    ap length (filter-append test xs ys) ∙ length-append (filter test xs) (filter test ys)

made_both : (xs ys : List Made) → others_made (xs ++ ys) ≡ others_made xs + others_made ys
made_both xs ys =
    let test : Made → Bool = λ m. not (is_verdict (Some m.reply)) in
    ap length (filter-append test xs ys) ∙ length-append (filter test xs) (filter test ys)

others_entries : (client seq : ℕ) (made : List Made) → others (entries_from client seq made) ≡ others_made made
others_entries client seq [] = refl
others_entries client seq (m ∷ made) =
    let e : Entry = record { client = client; seq = seq; call = m.call; reply = Some m.reply } in
    let following = filter (λ (x : Entry). not (is_verdict x.reply)) (entries_from client (seq + 1) made) in
    let left = filter (λ (x : Made). not (is_verdict (Some x.reply))) made in
    elim (not (is_verdict (Some m.reply))) as (λ b. length (cond b (e ∷ following) following) ≡ length (cond b (m ∷ left) left)) [
      | true ↦ ap suc (others_entries client (seq + 1) made)
      | false ↦ others_entries client (seq + 1) made
    ]

-- a lawful answer leaves a verdict or nothing
verdict_or_none : (b : Bool) (call : Call) (reply : Reply) (ms : List Made) → is_verdict (Some reply) ≡ true
    → others_made (cons_option (cond b (Some (record { call = call; reply = reply })) None) ms) ≡ others_made ms
verdict_or_none true call reply ms holds =
    let left = filter (λ (x : Made). not (is_verdict (Some x.reply))) ms in
    let m : Made = record { call = call; reply = reply } in
    ap (λ (b : Bool). length (cond (not b) (m ∷ left) left)) holds
verdict_or_none false call reply ms holds = refl

none_made : (b : Bool) (ms : List Made) → others_made (cons_option (cond b None None) ms) ≡ others_made ms
none_made true ms = refl
none_made false ms = refl

one_lawful : (id : SessionId) (t : TaskSpecView) (answer : Answer) (o : Option ℕ) (d : ℕ) (ms : List Made) → IsLawful id t answer
    → others_made (cons_option (made_at d o (admit_call t) answer) ms) ≡ others_made ms
one_lawful id t answer None d ms lawful = refl
one_lawful id t (Err refusal) (Some place) d ms lawful = none_made (eqb place d) ms
one_lawful id t (Ok Admitted) (Some place) d ms lawful = verdict_or_none (eqb place d) (admit_call t) Admitted ms refl
one_lawful id t (Ok (Busy s)) (Some place) d ms lawful = verdict_or_none (eqb place d) (admit_call t) (Busy s) ms refl
one_lawful id t (Ok Changed) (Some place) d ms lawful = absurd lawful
one_lawful id t (Ok Woken) (Some place) d ms lawful = absurd lawful
one_lawful id t (Ok Left) (Some place) d ms lawful = absurd lawful
one_lawful id t (Ok (Done n)) (Some place) d ms lawful = absurd lawful
one_lawful id t (Ok Set) (Some place) d ms lawful = absurd lawful
one_lawful id t (Ok Departed) (Some place) d ms lawful = absurd lawful
one_lawful id t (Ok Full) (Some place) d ms lawful = absurd lawful
one_lawful id t (Ok Twice) (Some place) d ms lawful = absurd lawful
one_lawful id t (Ok NotListed) (Some place) d ms lawful = absurd lawful
one_lawful id t (Ok NotWaiting) (Some place) d ms lawful = absurd lawful

all_lawful : (id : SessionId) (d : ℕ) (asked : List Asked) → All (λ q. IsLawful id q.task q.answer) asked → others_made (made_in id d asked) ≡ 0
all_lawful id d [] lawful = refl
all_lawful id d (q ∷ asked) lawful =
    one_lawful id q.task q.answer (domain_with_cpus id.cpu_sets q.task.cpus) d (made_in id d asked) (All-head (λ (x : Asked). IsLawful id x.task x.answer) q asked lawful)
    ∙ all_lawful id d asked (All-tail (λ (x : Asked). IsLawful id x.task x.answer) q asked lawful)

-- one advance, where there is one at all
abbrev pub one_if : Bool → ℕ
one_if b = cond b 1 0

advances : (duration client : ℕ) → others_made (advance_of duration client) ≡ one_if (eqb client 1 && ltb 0 duration)
advances duration client =
    elim (eqb client 1 && ltb 0 duration) as (λ b. others_made (cond b (record { call = Advance duration; reply = Done duration } ∷ []) []) ≡ one_if b) [ true ↦ refl | false ↦ refl ]

one_most : (a b : Bool) → one_if (a && b) ≤ one_if b
one_most true b = omega arith
one_most false b = omega arith

others_of : (id : SessionId) (n d duration i : ℕ) (asked : List Asked) (history : List Entry) → i < n → All (λ q. IsLawful id q.task q.answer) asked → All (λ e. IsMember n e.client) history → OwnCalls id n d duration asked history
    → others (filter (λ e. eqb (kind_of e) i) history) ≡ one_if (eqb (i + 1) 1 && ltb 0 duration)
others_of id n d duration i asked history below lawful members own =
    let made = made_in id d (own_asked n i asked) in
    let none = all_lawful id d (own_asked n i asked) (All-filter (is_own n i) (λ (q : Asked). IsLawful id q.task q.answer) asked lawful) in
    let both = made_both made (advance_of duration (i + 1)) in
    let one = advances duration (i + 1) in
    ap others (sym (own_is n i history members) ∙ own i below)
    ∙ others_entries (i + 1) 0 (made ++ advance_of duration (i + 1))
    ∙ omega (arith, both, none, one)

others_gathered : (n duration : ℕ) (history : List Entry) → ((i : ℕ) → i < n → others (filter (λ e. eqb (kind_of e) i) history) ≡ one_if (eqb (i + 1) 1 && ltb 0 duration))
    → (k : ℕ) → k ≤ n → others (gathered kind_of k history) ≤ one_if (ltb 0 duration)
others_gathered n duration history each zero h = omega arith
others_gathered n duration history each (suc zero) h = omega (arith, each 0 (omega (arith, h)), one_most (eqb (0 + 1) 1) (ltb 0 duration))
others_gathered n duration history each (suc (suc k)) h =
    let before = others_gathered n duration history each (suc k) (omega (arith, h)) in
    let here = each (suc k) (omega (arith, h)) in
    let no : eqb (suc k + 1) 1 ≡ false = ne_eqb (suc k + 1) 1 (λ e. absurd (omega (arith, e))) in
    let none : one_if (eqb (suc k + 1) 1 && ltb 0 duration) ≡ 0 = ap (λ (b : Bool). one_if (b && ltb 0 duration)) no in
    let both = others_both (gathered kind_of (suc k) history) (filter (λ e. eqb (kind_of e) (suc k)) history) in
    omega (arith, both, before, here, none)

-- at most one entry is no verdict, and none where nothing advances
pub others_most : (id : SessionId) (n d duration : ℕ) (asked : List Asked) (history : List Entry) → All (λ q. IsLawful id q.task q.answer) asked → All (λ e. IsMember n e.client) history → OwnCalls id n d duration asked history
    → others history ≤ one_if (ltb 0 duration)
others_most id n d duration asked history lawful members own =
    let kinds = gathered kind_of n history in
    let r = gather kind_of n history (kinds_below n history members) in
    let test : Entry → Bool = λ e. not (is_verdict e.reply) in
    let same = same_length (filter test history) (filter test kinds) (filtered test history kinds r) in
    let most = others_gathered n duration history (λ i h. others_of id n d duration i asked history h lawful members own) n (omega arith) in
    omega (arith, same, most)

pub all_verdicts : (entries : List Entry) → others entries ≡ 0 → All (λ e. is_verdict e.reply ≡ true) entries
all_verdicts [] none = All-nil (λ (e : Entry). is_verdict e.reply ≡ true)
all_verdicts (e ∷ entries) none =
    let left = filter (λ (x : Entry). not (is_verdict x.reply)) entries in
    elim (is_verdict e.reply) as (λ b. is_verdict e.reply ≡ b → length (cond (not b) (e ∷ left) left) ≡ 0 → All (λ (x : Entry). is_verdict x.reply ≡ true) (e ∷ entries)) [
      | true ↦ λ holds h. All-cons (λ (x : Entry). is_verdict x.reply ≡ true) e entries holds (all_verdicts entries h)
      | false ↦ λ fails h. absurd (omega (arith, h))
    ] refl none
