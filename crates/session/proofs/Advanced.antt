-- The advance of each domain at the end of a run.
use Rattle.std.proofs.Common.{◌≡◌, ◌≢◌, ℕ, zero, suc, ◌+◌, ◌-◌, ◌≤◌, ◌<◌, ◌&&◌, Bool, true, false, eqb, cond, List, [], ◌∷◌, ◌++◌, length, take, map, set, get_or, Some, None, Ok, Err, All, refl, sym, ap, subst, ◌∙◌, arith}
use Rattle.std.specs.Prelude.{slice_index_or, nat_lt, Result, IfOk, OnOk}
use Rattle.std.specs.List.{cons_option}
use Rattle.std.proofs.lemmas.Bool.{lt-ltb, eqb-true, eqb-false}
use Rattle.std.proofs.lemmas.List.{append-nil, get_or_default, get_or-set_same, get_or-set_other, get_or-map, get_or_push, get_or_append_left, length-map, length-set, length_push, map_push}
use Rattle.std.proofs.lemmas.List.Elements.{All-cons, All-head, All-tail, All-get_or}
use Rattle.std.proofs.Math.Seq.{take-append_seam}
use Rattle.pass_seats.specs.Lists.{PassView}
use Rattle.domain_run.specs.Domain.{Domain, empty_domain}
use Rattle.domain_run.specs.declared.happened.Happened.{Happened}
use Rattle.domain_run.specs.Happened.{logged_by_ticks}
use Rattle.domain_run.specs.Log.{LogView, if_wanted, HasLogged}
use Rattle.domain_run.specs.Run.{run_of}
use Rattle.domain_run.specs.declared.call.Call.TheVariants.{Advance}
use Rattle.domain_run.specs.declared.call.Reply.{Reply}
use Rattle.domain_run.specs.declared.call.Reply.TheVariants as replies
use Rattle.calls_text.specs.declared.section.Entry.{Entry}
use Rattle.call_book.specs.Book.{BookView, IsFull, own_entries, state_of, entry_by}
use Rattle.calls_text.specs.Histories.{calls_of}
use Rattle.call_book.specs.BookAnswers.{IsAdvanced, LogsAdvance}
use Rattle.call_book.specs.Ending.{EndingView, left_of}
use Rattle.run_figures.specs.Accounting.{AccountingView}
use Rattle.streamed_run.specs.Streamed.{streamed_of, streamed_after}
use Rattle.chart_pieces.specs.declared.window.Window.{Window}
use Rattle.chart_pieces.specs.Drawing.{DrawingView}
use Rattle.streamed_run.proofs.CallerLemmas.{streamed_whole}
use Rattle.call_book.proofs.CallerLemmas.{run_grows}
use Rattle.domain_run.specs.Tick.{ticks}
use Rattle.calls_text.specs.SectionView.{SectionView}
use Rattle.session.specs.declared.fault.EndFault.{EndFault}
use Rattle.session.specs.declared.fault.EndFault.TheVariants as faults
use Rattle.session.specs.declared.report.Finished.{Finished}
use Rattle.session.specs.declared.report.Wanted.{Wanted}
use Rattle.session.specs.declared.report.Wanted.TheVariants.{Switches, Happened as WhatHappened, Figures, Jobs, Chart}
use Rattle.session.specs.declared.ending_run.Recorded.{Recorded}
use Rattle.session.specs.SessionId.{SessionId}
use Rattle.session.specs.Asks.{ClientView, Makes, Made, entries_from, client_pass_in, followed_by}
use Rattle.session.specs.declared.report.Report.{Report}
use Rattle.session.specs.Report.{IsSessionReport, IsHistoryOf}
use Rattle.session.specs.RunEnd.{advance_of, EndsWith}
use Rattle.session.specs.private.Entering.{IsSessionBook, pass_after}
use Rattle.session.specs.private.Parts.{AreSessionBooks}
use Rattle.session.specs.private.Closing.{AreHistories, HaveEnded}
use Rattle.session.specs.private.Ending.{MakesAll, IsEndBy, AllEnd, AllLogEnds, AreOpenLogs, AreEndLogs, AreAllStreamed, AreDrawnEnds, AreStreamedEnds, AreLoggedAs, IsFullAmong, IsStreamedOf, books_of, unstreamed_ending}
use Rattle.session.specs.RunEnd.{HaveAdvanced, AreStreamed, AreRunsLogged, AreRunsDrawn, IsFinished, IsFullWith, IsLeftAs, IsLogOf, IsRunStopped, run_in, logged_at_end}
use Rattle.session.proofs.Asked.{makes_at, makes_nothing}

-- ---- one domain

abbrev pub all_ticks : ℕ → List Made
all_ticks ticks = record { call = Advance ticks; reply = replies.Done ticks } ∷ []

-- an advance of which all ticks were made, by a client whose pass of one place has it
pub makes_all : (c c' : ClientView) (ps : List (PassView Entry)) (d ticks made : ℕ) (p q : PassView Entry) (old new : BookView) (reply : Reply)
    → c.passes ≡ map (λ (r : PassView Entry). r.entries) ps → c'.passes ≡ map (λ (r : PassView Entry). r.entries) (set ps d q) → c'.number ≡ c.number
    → d < length ps → p ≡ get_or ps d p → (get_or ps d p).client ≡ c.number
    → IsAdvanced old new p q ticks reply → reply ≡ replies.Done made → made ≡ ticks
    → MakesAll c c' d ticks
makes_all c c' ps d ticks made p q old new reply was is number inside at client a done all =
    let mine : reply ≡ replies.Done a.made = a.done in
    let same : a.made ≡ ticks = cc in
    let becomes : q ≡ pass_after p (Advance a.made) (Ok reply) = a.entered.pass in
    let becomes' : q ≡ pass_after p (Advance ticks) (Ok (replies.Done ticks)) =
    subst (λ (n : ℕ). q ≡ pass_after p (Advance n) (Ok (replies.Done n))) same (subst (λ (r : Reply). q ≡ pass_after p (Advance a.made) (Ok r)) mine becomes) in
    makes_at c c' ps d p q (Advance ticks) (Ok (replies.Done ticks)) was is number inside client
    (subst (λ (r : PassView Entry). q ≡ pass_after r (Advance ticks) (Ok (replies.Done ticks))) at becomes')

-- what it left there, and elsewhere
here : (b c : ClientView) (n d ticks : ℕ) → MakesAll b c n ticks → d < length b.passes → eqb n d ≡ true → client_pass_in c d ≡ followed_by b d (all_ticks ticks)
here b c n d ticks m inside is =
    subst (λ (e : Bool). client_pass_in c d ≡ client_pass_in b d ++ entries_from b.number (length (client_pass_in b d)) (cons_option (cond e (Some (record { call = Advance ticks; reply = replies.Done ticks })) None) []))
    is (m.passes d inside)

elsewhere : (b c : ClientView) (n d ticks : ℕ) → MakesAll b c n ticks → d < length b.passes → eqb n d ≡ false → client_pass_in c d ≡ client_pass_in b d
elsewhere b c n d ticks m inside is =
    subst (λ (e : Bool). client_pass_in c d ≡ client_pass_in b d ++ entries_from b.number (length (client_pass_in b d)) (cons_option (cond e (Some (record { call = Advance ticks; reply = replies.Done ticks })) None) []))
    is (m.passes d inside)
    ∙ append-nil (client_pass_in b d)

-- ---- one domain after the other

-- a client has made these calls in the first so many domains, and nothing else
pub record MakesFirst (n : ℕ) (c c' : ClientView) (made : List Made) : Type 0 where
  pub number : c'.number ≡ c.number
  pub domains : length c'.passes ≡ length c.passes
  pub first : (d : ℕ) → d < n → d < length c.passes → client_pass_in c' d ≡ followed_by c d made
  pub rest : (d : ℕ) → n ≤ d → d < length c.passes → client_pass_in c' d ≡ client_pass_in c d

pub makes_more : (n m ticks : ℕ) (a b c : ClientView) → m ≡ n + 1 → MakesFirst n a b (all_ticks ticks) → MakesAll b c n ticks → MakesFirst m a c (all_ticks ticks)
makes_more n m ticks a b c more before last = record {
  number = last.number ∙ before.number;
  domains = last.domains ∙ before.domains;
  first = λ d upto inside. by d upto inside (eqb n d) refl;
  rest = λ d following inside. after_by d following inside (eqb n d) refl;
}
  where
    short : (d : ℕ) → d < length a.passes → d < length b.passes
    short d inside = omega (arith, inside, before.domains)

    by : (d : ℕ) → d < m → d < length a.passes → (e : Bool) → eqb n d ≡ e → client_pass_in c d ≡ followed_by a d (all_ticks ticks)
    by d upto inside true is =
        let at = eqb-true n d is in
        let same = before.rest d (omega (arith, at)) inside in
        here b c n d ticks last (short d inside) is
        ∙ ap (λ (k : ℕ). client_pass_in b d ++ entries_from k (length (client_pass_in b d)) (all_ticks ticks)) before.number
        ∙ ap (λ (es : List Entry). es ++ entries_from a.number (length es) (all_ticks ticks)) same
    by d upto inside false is =
        let other = eqb-false n d is in
        elsewhere b c n d ticks last (short d inside) is ∙ before.first d (omega (arith, upto, more, other)) inside

    after_by : (d : ℕ) → m ≤ d → d < length a.passes → (e : Bool) → eqb n d ≡ e → client_pass_in c d ≡ client_pass_in a d
    after_by d following inside true is = let at = eqb-true n d is in absurd (omega (arith, at, following, more))
    after_by d following inside false is = elsewhere b c n d ticks last (short d inside) is ∙ before.rest d (omega (arith, following, more)) inside

advance_is : (duration : ℕ) → 0 < duration → advance_of duration 1 ≡ all_ticks duration
advance_is duration some = ap (λ (b : Bool). cond b (all_ticks duration) []) (lt-ltb 0 duration some)

-- in all domains
pub makes_everywhere : (duration n : ℕ) (a c : ClientView) → 0 < duration → length a.passes ≤ n → MakesFirst n a c (all_ticks duration) → Makes a c (λ d. advance_of duration 1)
makes_everywhere duration n a c some count m = record {
  number = m.number;
  domains = m.domains;
  passes = λ d inside.
      subst (λ (ms : List Made). client_pass_in c d ≡ followed_by a d ms) (sym (advance_is duration some)) (m.first d (omega (arith, inside, count)) inside);
}

-- ---- all clients

only_first : (b : Bool) (duration k : ℕ) → eqb k 1 ≡ b → k ≢ 1 → advance_of duration k ≡ []
only_first true duration k is other = absurd (other (eqb-true k 1 is))
only_first false duration k is other = ap (λ (b : Bool). cond (b && nat_lt 0 duration) (all_ticks duration) []) is

makes_not : (c : ClientView) (duration k : ℕ) → k ≢ 1 → Makes c c (λ d. advance_of duration k)
makes_not c duration k other = subst (λ (ms : List Made). Makes c c (λ d. ms)) (sym (only_first (eqb k 1) duration k refl other)) (makes_nothing c c refl refl)

-- all clients, of whom the first has advanced
pub have_advanced : (duration : ℕ) (cs : List ClientView) (b c : ClientView) → 0 < length cs → b ≡ get_or cs 0 b → Makes b c (λ d. advance_of duration 1)
    → HaveAdvanced duration cs (set cs 0 c)
have_advanced duration cs b c some first m = record { places = length-set cs 0 c; each = each }
  where
    each : (i : ℕ) (x : ClientView) → i < length cs → Makes (get_or cs i x) (get_or (set cs 0 c) i x) (λ d. advance_of duration (i + 1))
    each zero x inside =
        subst (λ (v : ClientView). Makes v (get_or (set cs 0 c) 0 x) (λ d. advance_of duration 1)) (first ∙ get_or_default cs 0 b x some)
        (subst (λ (v : ClientView). Makes b v (λ d. advance_of duration 1)) (sym (get_or-set_same cs 0 c x some)) m)
    each (suc i) x inside =
        subst (λ (v : ClientView). Makes (get_or cs (suc i) x) v (λ d. advance_of duration (suc i + 1))) (sym (get_or-set_other cs 0 (suc i) c x (λ at. absurd (omega (arith, at)))))
        (makes_not (get_or cs (suc i) x) duration (suc i + 1) (λ at. absurd (omega (arith, at))))

-- ---- the books

pub named_set : (id : SessionId) (books : List BookView) (n : ℕ) (b : BookView) → n < length books → AreSessionBooks id books → IsSessionBook id n b → AreSessionBooks id (set books n b)
named_set id books n b there named new = λ d x inside. by d x inside (eqb n d) refl
  where
    by : (d : ℕ) (x : BookView) → d < length (set books n b) → (e : Bool) → eqb n d ≡ e → IsSessionBook id d (get_or (set books n b) d x)
    by d x inside true is =
        subst (λ (k : ℕ). IsSessionBook id k (get_or (set books n b) k x)) (eqb-true n d is) (subst (IsSessionBook id n) (sym (get_or-set_same books n b x there)) new)
    by d x inside false is =
        let other = eqb-false n d is in
        subst (IsSessionBook id d) (sym (get_or-set_other books n d b x (λ at. other (sym at)))) (named d x (omega (arith, inside, length-set books n b)))

-- client 1's advance is the last entry
pub ends_by : (duration client : ℕ) (history : List Entry) → client ≡ 1 → IsEndBy client duration history → EndsWith duration history
ends_by duration client history is e = λ some. record {
  before = e.before;
  last = record { client = client; seq = e.seq; call = Advance duration; reply = Some (replies.Done duration) };
  all = e.all;
  client = is;
  call = refl;
  reply = refl;
}

-- the first so many books end so
abbrev pub FirstEnd : ℕ → ℕ → List BookView → Type 0
FirstEnd n duration books = (d : ℕ) (b : BookView) → d < n → EndsWith duration (slice_index_or books d b).history

pub ends_more : (n m duration : ℕ) (books : List BookView) (b : BookView) → n < length books → m ≡ n + 1 → FirstEnd n duration books → EndsWith duration b.history
    → FirstEnd m duration (set books n b)
ends_more n m duration books b there more before last = λ d x upto. by d x upto (eqb n d) refl
  where
    by : (d : ℕ) (x : BookView) → d < m → (e : Bool) → eqb n d ≡ e → EndsWith duration (get_or (set books n b) d x).history
    by d x upto true is =
        subst (λ (k : ℕ). EndsWith duration (get_or (set books n b) k x).history) (eqb-true n d is)
        (subst (λ (v : BookView). EndsWith duration v.history) (sym (get_or-set_same books n b x there)) last)
    by d x upto false is =
        let other = eqb-false n d is in
        subst (λ (v : BookView). EndsWith duration v.history) (sym (get_or-set_other books n d b x (λ at. other (sym at)))) (before d x (omega (arith, upto, more, other)))

-- ---- the logs

all_but_last : (es : List Entry) (e : Entry) → take (length (es ++ e ∷ []) - 1) (es ++ e ∷ []) ≡ es
all_but_last es e =
    let less : length (es ++ e ∷ []) - 1 ≡ length es = omega (arith, length_push es e) in
    ap (λ (n : ℕ). take n (es ++ e ∷ [])) less ∙ take-append_seam es (e ∷ [])

-- of an advance of which all ticks were made: what they log from the state before it
logged_end : (old new : BookView) (p q : PassView Entry) (ticks made : ℕ) (reply : Reply) → IsAdvanced old new p q ticks reply → made ≡ ticks → logged_by_ticks made (state_of old) ≡ logged_at_end ticks new.cpus new.limit new.history
logged_end old new p q ticks made reply a same =
    let cpus = ap (λ (b : BookView). b.cpus) a.entered.book in
    let limit = ap (λ (b : BookView). b.limit) a.entered.book in
    let history = ap (λ (b : BookView). b.history) a.entered.book in
    let cut : take (length new.history - 1) new.history ≡ old.history =
    ap (λ (es : List Entry). take (length es - 1) es) history ∙ all_but_last old.history (entry_by p (Advance a.made) reply) in
    ap (λ (n : ℕ). logged_by_ticks n (state_of old)) same
    ∙ ap (λ (n : ℕ). logged_by_ticks ticks (run_of n old.limit (calls_of old.history))) (sym cpus)
    ∙ ap (λ (n : ℕ). logged_by_ticks ticks (run_of new.cpus n (calls_of old.history))) (sym limit)
    ∙ ap (λ (es : List Entry). logged_by_ticks ticks (run_of new.cpus new.limit (calls_of es))) (sym cut)

pub logs_end : (old new : BookView) (p q : PassView Entry) (ticks made : ℕ) (reply : Reply) (before after : LogView)
    → IsAdvanced old new p q ticks reply → LogsAdvance old before after reply → reply ≡ replies.Done made → made ≡ ticks
    → HasLogged before (logged_at_end ticks new.cpus new.limit new.history) after
logs_end old new p q ticks made reply before after a t is all =
    let done : reply ≡ replies.Done t.made = t.done in
    let same : t.made ≡ ticks = cc in
    subst (λ (hs : List Happened). HasLogged before hs after) (logged_end old new p q ticks t.made reply a same) t.logged

-- and the state that they lead to
state_end : (old new : BookView) (p q : PassView Entry) (n made : ℕ) → IsAdvanced old new p q n (replies.Done made) → made ≡ n → state_of new ≡ ticks n (state_of old)
state_end old new p q n made a all =
    let same : a.made ≡ n = (let done : replies.Done made ≡ replies.Done a.made = a.done in cc) in
    let e = entry_by p (Advance a.made) (replies.Done made) in
    ap (λ (b : BookView). run_of b.cpus b.limit (calls_of b.history)) a.entered.book
    ∙ sym (run_grows old.cpus old.limit old.history e (state_of old) (ticks a.made (state_of old)) refl refl)
    ∙ ap (λ (k : ℕ). ticks k (state_of old)) same

-- what was streamed of it is all of the run
pub streams_end : (old new : BookView) (p q : PassView Entry) (n made : ℕ) (a x : AccountingView) → IsAdvanced old new p q n (replies.Done made) → x ≡ streamed_after n made (state_of old) → (made ≡ n) × (a ≡ x) → IsStreamedOf n new a
streams_end old new p q n made a x is streamed all =
    let d = state_of old in
    all.1 ∙ streamed ∙ ap (λ (k : ℕ). streamed_after n k d) all.0 ∙ streamed_whole n d
    ∙ ap (λ (hs : List Happened). streamed_of (ticks n d) hs) (logged_end old new p q n n (replies.Done made) is refl)
    ∙ ap (λ (e : Domain). streamed_of e (logged_at_end n new.cpus new.limit new.history)) (sym (state_end old new p q n made is all.0))

-- where not all ticks were made, memory was refused
pub made_all : {X : Type 0} (r : Result X EndFault) (P : X → Type 0) (Q : Type 0) → IfOk r P → ((a : X) → P a → Q) → OnOk r Q
made_all (Ok a) P Q is f = f a is
made_all (Err e) P Q is f = tt

pub streamed_as : {X : Type 0} (r : Result X EndFault) (P Q : X → Type 0) → IfOk r P → ((a : X) → P a → Q a) → IfOk r Q
streamed_as (Ok a) P Q is f = f a is
streamed_as (Err e) P Q is f = tt

-- the logs of the first so many books were logged
abbrev pub FirstLog : ℕ → ℕ → List BookView → List LogView → List LogView → Type 0
FirstLog n ticks books before after =
    (d : ℕ) (y : BookView) (x : LogView) → d < n
    → let b = slice_index_or books d y in
    HasLogged (slice_index_or before d x) (logged_at_end ticks b.cpus b.limit b.history) (slice_index_or after d x)

-- the others were not
abbrev pub RestStay : ℕ → List LogView → List LogView → Type 0
RestStay n before after = (d : ℕ) (x : LogView) → n ≤ d → slice_index_or after d x ≡ slice_index_or before d x

pub log_more : (n m ticks : ℕ) (books : List BookView) (b : BookView) (before after : List LogView) (was log : LogView) → n < length books → n < length after → m ≡ n + 1
    → FirstLog n ticks books before after → RestStay n before after → was ≡ get_or after n was → HasLogged was (logged_at_end ticks b.cpus b.limit b.history) log
    → FirstLog m ticks (set books n b) before (set after n log)
log_more n m ticks books b before after was log there inside more first rest at last = λ d y x upto. by d y x upto (eqb n d) refl
  where
    by : (d : ℕ) (y : BookView) (x : LogView) → d < m → (e : Bool) → eqb n d ≡ e
        → HasLogged (get_or before d x) (logged_at_end ticks (get_or (set books n b) d y).cpus (get_or (set books n b) d y).limit (get_or (set books n b) d y).history) (get_or (set after n log) d x)
    by d y x upto true is =
        let began : was ≡ get_or before n x = at ∙ get_or_default after n was x inside ∙ rest n x (omega arith) in
        let here : HasLogged (get_or before n x) (logged_at_end ticks (get_or (set books n b) n y).cpus (get_or (set books n b) n y).limit (get_or (set books n b) n y).history) (get_or (set after n log) n x) =
        subst (λ (l : LogView). HasLogged l (logged_at_end ticks (get_or (set books n b) n y).cpus (get_or (set books n b) n y).limit (get_or (set books n b) n y).history) (get_or (set after n log) n x)) began
        (subst (λ (v : BookView). HasLogged was (logged_at_end ticks v.cpus v.limit v.history) (get_or (set after n log) n x)) (sym (get_or-set_same books n b y there))
        (subst (λ (l : LogView). HasLogged was (logged_at_end ticks b.cpus b.limit b.history) l) (sym (get_or-set_same after n log x inside)) last)) in
        subst (λ (k : ℕ). HasLogged (get_or before k x) (logged_at_end ticks (get_or (set books n b) k y).cpus (get_or (set books n b) k y).limit (get_or (set books n b) k y).history) (get_or (set after n log) k x)) (eqb-true n d is) here
    by d y x upto false is =
        let other = eqb-false n d is in
        subst (λ (v : BookView). HasLogged (get_or before d x) (logged_at_end ticks v.cpus v.limit v.history) (get_or (set after n log) d x)) (sym (get_or-set_other books n d b y (λ same. other (sym same))))
        (subst (λ (l : LogView). HasLogged (get_or before d x) (logged_at_end ticks (get_or books d y).cpus (get_or books d y).limit (get_or books d y).history) l) (sym (get_or-set_other after n d log x (λ same. other (sym same))))
        (first d y x (omega (arith, upto, more, other))))

pub rest_stay : (n m : ℕ) (before after : List LogView) (log : LogView) → m ≡ n + 1 → RestStay n before after → RestStay m before (set after n log)
rest_stay n m before after log more rest = λ d x following.
    get_or-set_other after n d log x (λ same. absurd (omega (arith, same, following, more))) ∙ rest d x (omega (arith, following, more))

-- what a log that had nothing has, once it was logged
log_of : (wanted : Bool) (logged : List Happened) (before after : LogView) → IsLogOf wanted [] before → HasLogged before logged after → IsLogOf wanted logged after
log_of wanted logged before after is has_logged = record {
  alike = has_logged.wanted ∙ is.alike;
  has = λ yes.
      has_logged.happened
      ∙ ap (λ (hs : List Happened). hs ++ if_wanted before logged) (is.has yes)
      ∙ ap (λ (b : Bool). cond b logged []) (is.alike ∙ yes);
}

pub end_logs : (wanted : Bool) (ticks : ℕ) (books : List BookView) (before after : List LogView) → AreOpenLogs (length books) wanted before → length after ≡ length before
    → AllLogEnds ticks books before after → AreEndLogs wanted ticks books after
end_logs wanted ticks books before after is count say = record {
  count = count ∙ is.count;
  each = λ d y x inside.
      log_of wanted _ (get_or before d x) (get_or after d x) (All-get_or (IsLogOf wanted []) before d x (omega (arith, inside, is.count)) is.each) (say d y x inside);
}

-- ---- an advance that was not made

-- what is said of a full book, said otherwise
pub stopped_so : (P Q : Type 0) (e : EndFault) → (P → Q) → IsRunStopped P e → IsRunStopped Q e
stopped_so P Q faults.Full f met = f met
stopped_so P Q faults.Memory f met = tt

-- the book of this place is full, and the client has entered nothing in it
pub full_among : (n duration : ℕ) (books : List BookView) (b : BookView) (a c c' : ClientView) → n < length books → n < length a.passes → 0 < duration
    → MakesFirst n a c (all_ticks duration) → IsFull b → c' ≡ c → IsFullAmong duration (set books n b) a c'
full_among n duration books b a c c' there inside some made full same = record {
  advances = some;
  domain = n;
  place = omega (arith, there, length-set books n b);
  full = λ x. subst IsFull (sym (get_or-set_same books n b x there)) full;
  number = ap (λ (v : ClientView). v.number) same ∙ made.number;
  kept = ap (λ (v : ClientView). client_pass_in v n) same ∙ made.rest n (omega arith) inside;
}

-- ---- what was streamed

-- the first so many books were streamed, the others not yet
abbrev pub FirstAre : Bool → ℕ → List EndingView → Type 0
FirstAre streamed n books = (d : ℕ) (e : EndingView) → d < n → (slice_index_or books d e).streamed ≡ streamed

abbrev pub RestAre : Bool → ℕ → List EndingView → Type 0
RestAre streamed n books = (d : ℕ) (e : EndingView) → n ≤ d → d < length books → (slice_index_or books d e).streamed ≡ streamed

pub first_more : (streamed : Bool) (n m : ℕ) (books : List EndingView) (b : EndingView) → n < length books → m ≡ n + 1 → FirstAre streamed n books → b.streamed ≡ streamed → FirstAre streamed m (set books n b)
first_more streamed n m books b there more first is = λ d e upto. by d e upto (eqb n d) refl
  where
    by : (d : ℕ) (e : EndingView) → d < m → (c : Bool) → eqb n d ≡ c → (get_or (set books n b) d e).streamed ≡ streamed
    by d e upto true at =
        subst (λ (k : ℕ). (get_or (set books n b) k e).streamed ≡ streamed) (eqb-true n d at) (ap (λ (x : EndingView). x.streamed) (get_or-set_same books n b e there) ∙ is)
    by d e upto false at =
        let other = eqb-false n d at in
        ap (λ (x : EndingView). x.streamed) (get_or-set_other books n d b e (λ same. other (sym same))) ∙ first d e (omega (arith, upto, more, other))

pub rest_less : (streamed : Bool) (n m : ℕ) (books : List EndingView) (b : EndingView) → m ≡ n + 1 → RestAre streamed n books → RestAre streamed m (set books n b)
rest_less streamed n m books b more rest = λ d e following inside.
    ap (λ (x : EndingView). x.streamed) (get_or-set_other books n d b e (λ same. absurd (omega (arith, same, following, more))))
    ∙ rest d e (omega (arith, following, more)) (omega (arith, inside, length-set books n b))

-- an accounting of each of the first so many books
abbrev pub FirstStreamed : ℕ → ℕ → List BookView → List AccountingView → Type 0
FirstStreamed n ticks books streamed =
    (d : ℕ) (b : BookView) (x : AccountingView) → d < n → IsStreamedOf ticks (slice_index_or books d b) (slice_index_or streamed d x)

pub streamed_more : (n m ticks : ℕ) (books : List BookView) (b : BookView) (streamed : List AccountingView) (a : AccountingView) → n < length books → length streamed ≡ n → m ≡ n + 1
    → FirstStreamed n ticks books streamed → IsStreamedOf ticks b a → FirstStreamed m ticks (set books n b) (streamed ++ a ∷ [])
streamed_more n m ticks books b streamed a there many more first last = λ d y x upto. by d y x upto (eqb n d) refl
  where
    by : (d : ℕ) (y : BookView) (x : AccountingView) → d < m → (e : Bool) → eqb n d ≡ e → IsStreamedOf ticks (get_or (set books n b) d y) (get_or (streamed ++ a ∷ []) d x)
    by d y x upto true is =
        subst (λ (k : ℕ). IsStreamedOf ticks (get_or (set books n b) k y) (get_or (streamed ++ a ∷ []) k x)) (eqb-true n d is)
        (subst (λ (v : BookView). IsStreamedOf ticks v (get_or (streamed ++ a ∷ []) n x)) (sym (get_or-set_same books n b y there))
        (get_or_push streamed a x n many ∙ last))
    by d y x upto false is =
        let other = eqb-false n d is in
        let before : d < n = omega (arith, upto, more, other) in
        subst (λ (v : BookView). IsStreamedOf ticks v (get_or (streamed ++ a ∷ []) d x)) (sym (get_or-set_other books n d b y (λ same. other (sym same))))
        (get_or_append_left streamed (a ∷ []) x d (omega (arith, before, many)) ∙ first d y x before)

-- the same, of a book that is as it was
pub streamed_still : (n m ticks : ℕ) (books : List BookView) (streamed : List AccountingView) (a : AccountingView) → n < length books → length streamed ≡ n → m ≡ n + 1
    → FirstStreamed n ticks books streamed → ((y : BookView) → IsStreamedOf ticks (get_or books n y) a) → FirstStreamed m ticks books (streamed ++ a ∷ [])
streamed_still n m ticks books streamed a there many more first last = λ d y x upto. by d y x upto (eqb n d) refl
  where
    by : (d : ℕ) (y : BookView) (x : AccountingView) → d < m → (e : Bool) → eqb n d ≡ e → IsStreamedOf ticks (get_or books d y) (get_or (streamed ++ a ∷ []) d x)
    by d y x upto true is =
        subst (λ (k : ℕ). IsStreamedOf ticks (get_or books k y) (get_or (streamed ++ a ∷ []) k x)) (eqb-true n d is) (get_or_push streamed a x n many ∙ last y)
    by d y x upto false is =
        let other = eqb-false n d is in
        let before : d < n = omega (arith, upto, more, other) in
        get_or_append_left streamed (a ∷ []) x d (omega (arith, before, many)) ∙ first d y x before

-- ---- what was drawn

-- what drawings were given
abbrev pub given_to : List DrawingView → List AccountingView
given_to drawn = map (λ (d : DrawingView). d.streamed) drawn

pub as_many : (drawn : List DrawingView) → length (given_to drawn) ≡ length drawn
as_many drawn = length-map drawn (λ (d : DrawingView). d.streamed)

one_more : (drawn : List DrawingView) (d : DrawingView) → given_to (drawn ++ d ∷ []) ≡ given_to drawn ++ d.streamed ∷ []
one_more drawn d = map_push (λ (x : DrawingView). x.streamed) drawn d

pub drawn_more : (n m ticks : ℕ) (books : List BookView) (b : BookView) (drawn : List DrawingView) (d : DrawingView) → n < length books → length drawn ≡ n → m ≡ n + 1
    → FirstStreamed n ticks books (given_to drawn) → IsStreamedOf ticks b d.streamed → FirstStreamed m ticks (set books n b) (given_to (drawn ++ d ∷ []))
drawn_more n m ticks books b drawn d there many more first last =
    subst (FirstStreamed m ticks (set books n b)) (sym (one_more drawn d)) (streamed_more n m ticks books b (given_to drawn) d.streamed there (as_many drawn ∙ many) more first last)

-- the same, of a book that is as it was
pub drawn_still : (n m ticks : ℕ) (books : List BookView) (drawn : List DrawingView) (d : DrawingView) → n < length books → length drawn ≡ n → m ≡ n + 1
    → FirstStreamed n ticks books (given_to drawn) → ((y : BookView) → IsStreamedOf ticks (get_or books n y) d.streamed) → FirstStreamed m ticks books (given_to (drawn ++ d ∷ []))
drawn_still n m ticks books drawn d there many more first last =
    subst (FirstStreamed m ticks books) (sym (one_more drawn d)) (streamed_still n m ticks books (given_to drawn) d.streamed there (as_many drawn ∙ many) more first last)

-- ---- the end

-- no book in particular
no_book : SessionId → BookView
no_book id = record {
  gate = id.gate;
  domain = 0;
  cpus = 0;
  limit = 0;
  clients = 0;
  spine = id.gate.table;
  room = 0;
  history = [];
  tickets = [];
  blanks = [];
  workers = 0;
  left = None;
}

-- the book at a place is of the history there, with its CPUs and its limit
record IsBookAt (id : SessionId) (b : BookView) (h : SectionView) : Type 0 where
  cpus : b.cpus ≡ h.cpus
  limit : b.limit ≡ h.limit
  entries : b.history ≡ h.entries
  room : b.room ≡ id.max_calls

book_at : (id : SessionId) (cs : List ClientView) (books : List EndingView) (histories : List SectionView) (states : List Domain) (d : ℕ) (s : SectionView) → HaveEnded books histories states → length books ≡ length histories → AreSessionBooks id (books_of books)
    → d < length histories → IsHistoryOf id d cs (get_or histories d s) → IsBookAt id (get_or (books_of books) d (no_book id)) (get_or histories d s)
book_at id cs books histories states d s ended count named inside left =
    let e = unstreamed_ending (no_book id) in
    let place : d < length books = omega (arith, inside, count) in
    let there : d < length (books_of books) = omega (arith, place, length-map books (λ (e : EndingView). e.book)) in
    let at : get_or (books_of books) d (no_book id) ≡ (get_or books d e).book = get_or-map (λ (e : EndingView). e.book) books d e (no_book id) place in
    let book = named d (no_book id) there in
    record {
      cpus = book.cpus ∙ sym left.cpus;
      limit = book.limit ∙ sym left.limit;
      entries = ap (λ (b : BookView). b.history) at ∙ sym (ended.each d e s (empty_domain 0 0) inside).entries;
      room = book.room;
    }

-- what is said by CPUs, limit and entries is said of both
by_book : {X : Type 0} (f : ℕ → ℕ → List Entry → X) (id : SessionId) (b : BookView) (h : SectionView) → IsBookAt id b h → f b.cpus b.limit b.history ≡ f h.cpus h.limit h.entries
by_book f id b h is =
    ap (λ (n : ℕ). f n b.limit b.history) is.cpus ∙ ap (λ (n : ℕ). f h.cpus n b.history) is.limit ∙ ap (f h.cpus h.limit) is.entries

-- the runs of the histories, or what is left of them
runs_left : (streamed : Bool) (books : List EndingView) (histories : List SectionView) (states : List Domain) (id : SessionId) → HaveEnded books histories states → length books ≡ length histories → AreAllStreamed streamed books
    → (d : ℕ) (s : SectionView) (x : Domain) → d < length histories → get_or states d x ≡ left_of streamed (run_in (get_or histories d s))
runs_left streamed books histories states id ended count all d s x inside =
    let e = unstreamed_ending (no_book id) in
    (ended.each d e s x inside).run ∙ ap (λ (b : Bool). left_of b (run_in (get_or histories d s))) (all d e (omega (arith, inside, count)))

logged_run : (id : SessionId) (cs : List ClientView) (duration : ℕ) (wanted : Bool) (books : List EndingView) (f : Finished) (t : Recorded) → HaveEnded books f.report.histories.items f.states.items → length books ≡ length f.report.histories.items
    → AreSessionBooks id (books_of books) → AreHistories id cs f.report.histories.items → f.logs ≡ t.logs → AreAllStreamed false books → AreEndLogs wanted duration (books_of books) t.logs.items → AreRunsLogged duration wanted f
logged_run id cs duration wanted books f t ended count named left same all logs =
    let histories = f.report.histories.items in
    let items : f.logs.items ≡ t.logs.items = ap (λ v. v.items) same in
    record {
      runs = runs_left false books histories f.states.items id ended count all;
      logs_count = ap (λ (ls : List LogView). length ls) items ∙ logs.count ∙ length-map books (λ (e : EndingView). e.book) ∙ count;
      logs = λ d s x inside.
          let b = get_or (books_of books) d (no_book id) in
          let h = get_or histories d s in
          let is = book_at id cs books histories f.states.items d s ended count named inside (left d s inside) in
          subst (λ (hs : List Happened). IsLogOf wanted hs (get_or f.logs.items d x)) (by_book (logged_at_end duration) id b h is)
          (subst (λ (ls : List LogView). IsLogOf wanted (logged_at_end duration b.cpus b.limit b.history) (get_or ls d x)) (sym items)
          (logs.each d (no_book id) x (omega (arith, inside, count, length-map books (λ (e : EndingView). e.book)))));
    }

all_streamed : (id : SessionId) (cs : List ClientView) (duration : ℕ) (books : List EndingView) (f : Finished) (xs ys : List AccountingView) → HaveEnded books f.report.histories.items f.states.items → length books ≡ length f.report.histories.items
    → AreSessionBooks id (books_of books) → AreHistories id cs f.report.histories.items → xs ≡ ys → AreAllStreamed true books → AreStreamedEnds duration (books_of books) ys → AreStreamed duration f xs
all_streamed id cs duration books f xs ys ended count named left items all streamed =
    let histories = f.report.histories.items in
    record {
      runs = runs_left true books histories f.states.items id ended count all;
      streamed_count = ap (λ (hs : List AccountingView). length hs) items ∙ streamed.count ∙ length-map books (λ (e : EndingView). e.book) ∙ count;
      streamed = λ d s x inside.
          let b = get_or (books_of books) d (no_book id) in
          let h = get_or histories d s in
          let is = book_at id cs books histories f.states.items d s ended count named inside (left d s inside) in
          ap (λ (hs : List AccountingView). get_or hs d x) items
          ∙ streamed.each d (no_book id) x (omega (arith, inside, count, length-map books (λ (e : EndingView). e.book)))
          ∙ by_book (λ cpus limit entries. streamed_of (run_of cpus limit (calls_of entries)) (logged_at_end duration cpus limit entries)) id b h is;
    }

all_drawn : (id : SessionId) (cs : List ClientView) (window : Window) (duration : ℕ) (books : List EndingView) (f : Finished) (t : Recorded) → HaveEnded books f.report.histories.items f.states.items → length books ≡ length f.report.histories.items
    → AreSessionBooks id (books_of books) → AreHistories id cs f.report.histories.items → f.drawn ≡ t.drawn → AreAllStreamed true books → AreDrawnEnds window duration (books_of books) t.drawn.items → AreRunsDrawn window duration f
all_drawn id cs window duration books f t ended count named left same all drawn =
    let items : f.drawn.items ≡ t.drawn.items = ap (λ v. v.items) same in
    record {
      same_window = subst (λ (ds : List DrawingView). All (λ (d : DrawingView). d.window ≡ window) ds) (sym items) drawn.same_window;
      drawn = all_streamed id cs duration books f (given_to f.drawn.items) (given_to t.drawn.items) ended count named left (ap given_to items) all drawn.drawn;
    }

-- what is kept is what was logged
record IsLogged (f : Finished) (t : Recorded) : Type 0 where
  logs : f.logs ≡ t.logs
  streamed : f.streamed ≡ t.streamed
  drawn : f.drawn ≡ t.drawn

left_as : (id : SessionId) (cs : List ClientView) (duration : ℕ) (wanted : Wanted) (books : List EndingView) (f : Finished) (t : Recorded) → HaveEnded books f.report.histories.items f.states.items → length books ≡ length f.report.histories.items
    → AreSessionBooks id (books_of books) → AreHistories id cs f.report.histories.items → IsLogged f t → AreLoggedAs duration wanted books t → IsLeftAs duration wanted f
left_as id cs duration Switches books f t ended count named left same logged = logged_run id cs duration false books f t ended count named left same.logs logged.0 logged.1
left_as id cs duration WhatHappened books f t ended count named left same logged = logged_run id cs duration true books f t ended count named left same.logs logged.0 logged.1
left_as id cs duration Figures books f t ended count named left same logged = all_streamed id cs duration books f f.streamed.items t.streamed.items ended count named left (ap (λ v. v.items) same.streamed) logged.0 logged.1
left_as id cs duration Jobs books f t ended count named left same logged = all_streamed id cs duration books f f.streamed.items t.streamed.items ended count named left (ap (λ v. v.items) same.streamed) logged.0 logged.1
left_as id cs duration (Chart window) books f t ended count named left same logged = all_drawn id cs window duration books f t ended count named left same.drawn logged.0 logged.1

pub is_finished : (id : SessionId) (duration : ℕ) (wanted : Wanted) (cs es : List ClientView) (books : List EndingView) (f : Finished) (t : Recorded)
    → HaveAdvanced duration cs es → IsSessionReport id es f.report → HaveEnded books f.report.histories.items f.states.items → length books ≡ length id.cpu_sets → AreSessionBooks id (books_of books) → AllEnd duration (books_of books)
    → AreLoggedAs duration wanted books t → f.logs ≡ t.logs → f.streamed ≡ t.streamed → f.drawn ≡ t.drawn → IsFinished id duration wanted cs f
is_finished id duration wanted cs es books f t advanced is ended count named end logged logs streamed drawn =
    let histories = f.report.histories.items in
    let many : length books ≡ length histories = count ∙ sym is.left.count in
    let left : AreHistories id es histories = λ d s inside. is.left.histories d s (omega (arith, inside, is.left.count)) in
    record {
      after = es;
      advanced = advanced;
      report = is;
      ends = λ d x inside.
          let place : d < length histories = omega (arith, inside, is.left.count) in
          let at = book_at id es books histories f.states.items d x ended many named place (left d x place) in
          subst (EndsWith duration) at.entries (end d (no_book id) (omega (arith, inside, count, length-map books (λ (e : EndingView). e.book))));
      count = ended.states_count ∙ is.left.count;
      left = left_as id es duration wanted books f t ended many named left (record { logs = logs; streamed = streamed; drawn = drawn }) logged;
    }

-- what the clients have in a domain in which the first of them has entered nothing more
pub kept_own : (d : ℕ) (history : List Entry) (cs : List ClientView) (b c : ClientView) → 0 < length cs → b ≡ get_or cs 0 b → c.number ≡ b.number → client_pass_in c d ≡ client_pass_in b d
    → All (λ (v : ClientView). client_pass_in v d ≡ own_entries v.number history) (set cs 0 c) → All (λ (v : ClientView). client_pass_in v d ≡ own_entries v.number history) cs
kept_own d history [] b c some first number if_wanted own = absurd (omega (arith, some))
kept_own d history (v ∷ cs) b c some first number if_wanted own =
    let is : client_pass_in c d ≡ own_entries c.number history = All-head (λ (v : ClientView). client_pass_in v d ≡ own_entries v.number history) c cs own in
    All-cons (λ (v : ClientView). client_pass_in v d ≡ own_entries v.number history) v cs
    (subst (λ (w : ClientView). client_pass_in w d ≡ own_entries w.number history) first (sym if_wanted ∙ is ∙ ap (λ (n : ℕ). own_entries n history) number))
    (All-tail (λ (v : ClientView). client_pass_in v d ≡ own_entries v.number history) c cs own)

-- a full book is closed as it was found
pub full_with : (id : SessionId) (duration : ℕ) (cs : List ClientView) (b c : ClientView) (books : List EndingView) (r : Report) (states : List Domain) → 0 < length cs → b ≡ get_or cs 0 b
    → IsSessionReport id (set cs 0 c) r → HaveEnded books r.histories.items states → length books ≡ length id.cpu_sets → AreSessionBooks id (books_of books)
    → IsFullAmong duration (books_of books) b c → IsFullWith id duration cs
full_with id duration cs b c books r states some first is ended count named met =
    let d = met.domain in
    let x = no_book id in
    let s : SectionView = record { cpus = 0; limit = 0; entries = [] } in
    let place : d < length id.cpu_sets = omega (arith, met.place, count, length-map books (λ (e : EndingView). e.book)) in
    let h = get_or r.histories.items d s in
    let left = is.left.histories d s place in
    let at = book_at id (set cs 0 c) books r.histories.items states d s ended (count ∙ sym is.left.count) named (omega (arith, place, is.left.count)) left in
    record {
      advances = met.advances;
      domain = d;
      place = place;
      history = h;
      legal = record {
        cpus = left.cpus;
        limit = left.limit;
        legal = left.legal;
        numbered = left.numbered;
        members = left.members;
        spelled = left.spelled;
        own = kept_own d h.entries cs b c some first met.number met.kept left.own;
      };
      full = ap (λ (es : List Entry). length es) (sym at.entries) ∙ met.full x ∙ at.room;
    }
