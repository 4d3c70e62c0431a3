-- Calls under a domain's lock, other than admissions.
use Rattle.std.proofs.Common.{◌≡◌, ◌≢◌, ℕ, ◌+◌, ◌-◌, Bool, true, false, cond, List, ◌∷◌, ◌++◌, length, length-append, arith, Option, Some, None, Ok, Err, inl, inr, refl, sym, ap, subst, ◌∙◌}
use Rattle.std.specs.Prelude.{Result, IfOk, IfErr, All, nat_lt}
use Rattle.std.proofs.lemmas.List.{get_or-append-add}
use Rattle.attr_check.specs.ParamsView.{ParamsView}
use Rattle.attr_check.specs.Ratio.{cap}
use Rattle.pass_seats.specs.Lists.{PassView}
use Rattle.domain_run.specs.declared.call.Call.{Call}
use Rattle.domain_run.specs.declared.call.Call.TheVariants as calls
use Rattle.domain_run.specs.declared.call.Reply.{Reply}
use Rattle.domain_run.specs.declared.call.Reply.TheVariants as replies
use Rattle.domain_run.specs.declared.task.Task.{Task}
use Rattle.domain_run.specs.Domain.{Domain}
use Rattle.domain_run.specs.Tick.{sum_of}
use Rattle.domain_run.specs.Run.{run_of}
use Rattle.domain_run.specs.Calls.{reply_to, regrade_reply, word_reply, task_of}
use Rattle.bw_gate.specs.Pieces.{GateId, BlankView, TicketView}
use Rattle.call_book.specs.declared.book.domain.Full.{Full}
use Rattle.call_book.specs.declared.book.domain.Limit.{Limit}
use Rattle.call_book.specs.declared.book.domain.Limit.TheVariants as limits
use Rattle.calls_text.specs.declared.section.Entry.{Entry}
use Rattle.call_book.specs.declared.book.stock.Held.{Held}
use Rattle.call_book.specs.Pieces.{IsTicketOf, AsksTheWord}
use Rattle.call_book.specs.Book.{BookView, AdmissionView, state_of, Enters, EntersAlone, Stays, IsRefusedFull}
use Rattle.calls_text.specs.Histories.{calls_of}
use Rattle.call_book.specs.BookAnswers.{IsBusy, IsRegraded}
use Rattle.call_book.specs.LimitAnswers.{IsLimitSet, AnswersLimit}
use Rattle.session.specs.declared.refusal.Refusal.TheVariants as refusals
use Rattle.session.specs.SessionId.{SessionId, cpu_set_of}
use Rattle.session.specs.Asks.{Answer, IsOverCap, AsksWord, IsByWord, IsLimitByWord}
use Rattle.session.specs.private.Entering.{IsSessionBook, IsSeenBook, SameBook, IsReplied, IsRegradedBy, limit_answer, limit_back, IsLimitedBy, IsCallAnswered, IsWhyNotMade}
use Rattle.session.proofs.Sighted.{saw_book, same_state}

-- what is the session's book stays so with other entries and pieces
pub same_named : (id : SessionId) (d : ℕ) (old new : BookView) → SameBook old new → IsSessionBook id d old → IsSessionBook id d new
same_named id d old new same is = record {
  gate = same.gate ∙ is.gate;
  domain = same.domain ∙ is.domain;
  spine = same.spine ∙ is.spine;
  cpus = same.cpus ∙ is.cpus;
  limit = same.limit ∙ is.limit;
  clients = same.clients ∙ is.clients;
  room = same.room ∙ is.room;
  workers = same.workers ∙ is.workers;
  place = is.place;
}

same_entered : (old new : BookView) (p q : PassView Entry) (call : Call) (reply : Reply) → Enters old new p q call reply → SameBook old new
same_entered old new p q call reply e = record {
  gate = ap (λ (b : BookView). b.gate) e.book;
  domain = ap (λ (b : BookView). b.domain) e.book;
  spine = ap (λ (b : BookView). b.spine) e.book;
  cpus = ap (λ (b : BookView). b.cpus) e.book;
  limit = ap (λ (b : BookView). b.limit) e.book;
  clients = ap (λ (b : BookView). b.clients) e.book;
  room = ap (λ (b : BookView). b.room) e.book;
  workers = ap (λ (b : BookView). b.workers) e.book;
}

same_stays : (old new : BookView) (p q : PassView Entry) → Stays old new p q → SameBook old new
same_stays old new p q s = record {
  gate = ap (λ (b : BookView). b.gate) s.book;
  domain = ap (λ (b : BookView). b.domain) s.book;
  spine = ap (λ (b : BookView). b.spine) s.book;
  cpus = ap (λ (b : BookView). b.cpus) s.book;
  limit = ap (λ (b : BookView). b.limit) s.book;
  clients = ap (λ (b : BookView). b.clients) s.book;
  room = ap (λ (b : BookView). b.room) s.book;
  workers = ap (λ (b : BookView). b.workers) s.book;
}

-- a wake or a leave
pub same_replied : (old new : BookView) (p q : PassView Entry) (call : Call) (made : Result Reply Full)
    → IfOk made (EntersAlone old new p q call) → IfErr made (λ _. IsRefusedFull old new p q) → SameBook old new
same_replied old new p q call (Ok reply) entered full = same_entered old new p q call reply entered.entered
same_replied old new p q call (Err e) entered full = same_stays old new p q full.stays

pub replied : (old new : BookView) (p q : PassView Entry) (call : Call) (made : Result Reply Full) (answer : Answer)
    → IfOk made (EntersAlone old new p q call) → IfErr made (λ _. IsRefusedFull old new p q)
    → IfOk made (λ reply. answer ≡ Ok reply) → IfErr made (λ _. answer ≡ Err refusals.Full)
    → IsReplied p q call answer
replied old new p q call (Ok reply) answer entered full ok err =
    subst (λ (a : Answer). IsReplied p q call a) (sym ok) (record { pass = entered.entered.pass; full = tt })
replied old new p q call (Err e) answer entered full ok err =
    subst (λ (a : Answer). IsReplied p q call a) (sym err) (record { pass = full.stays.pass; full = tt })

-- why it stands in no book
pub why_not : (old new : BookView) (p q : PassView Entry) (made : Result Reply Full) (answer : Answer)
    → IfErr made (λ _. IsRefusedFull old new p q)
    → IfOk made (λ reply. answer ≡ Ok reply) → IfErr made (λ _. answer ≡ Err refusals.Full)
    → IsWhyNotMade old answer
why_not old new p q (Ok reply) answer full ok err = subst (λ (a : Answer). IsWhyNotMade old a) (sym ok) tt
why_not old new p q (Err e) answer full ok err = subst (λ (a : Answer). IsWhyNotMade old a) (sym err) full.full

-- what the book says to a wake or a leave
pub call_answered : (old new : BookView) (p q : PassView Entry) (call : Call) (made : Result Reply Full) (answer : Answer)
    → IfOk made (EntersAlone old new p q call) → IfErr made (λ _. IsRefusedFull old new p q)
    → IfOk made (λ reply. answer ≡ Ok reply) → IfErr made (λ _. answer ≡ Err refusals.Full)
    → IsCallAnswered old call answer
call_answered old new p q call (Ok reply) answer entered full ok err = subst (λ (a : Answer). IsCallAnswered old call a) (sym ok) (sym entered.entered.lawful)
call_answered old new p q call (Err e) answer entered full ok err = subst (λ (a : Answer). IsCallAnswered old call a) (sym err) full.full

-- a regrade
pub same_regraded : (old new : BookView) (p q : PassView Entry) (number : ℕ) (params : ParamsView) (made : Result Reply Full)
    → IfOk made (IsRegraded old new p q number params) → IfErr made (λ _. IsRefusedFull old new p q) → SameBook old new
same_regraded old new p q number params (Ok reply) entered full = same_entered old new p q _ reply entered.entered
same_regraded old new p q number params (Err e) entered full = same_stays old new p q full.stays

-- ---- what the word has to do with the reply to a regrade

among : {X : Type 0} (P : X → Type 0) (before : List X) (x : X) (following : List X) → All P (before ++ x ∷ following) → P x
among P before x following all =
    subst P (get_or-append-add before (x ∷ following) 0 x) (all (length before + 0) x (omega (arith, length-append before (x ∷ following))))

asks_word : (b : BookView) (number bw : ℕ) (tickets : List Held) (word : Option ℕ) → All (λ h. IsTicketOf b.gate b.domain h.ticket) b.tickets → AsksTheWord number bw b.tickets tickets word → AsksWord b.gate b.domain bw word
asks_word b number bw tickets word all asked =
    let P : Held → Type 0 = λ h. IsTicketOf b.gate b.domain h.ticket in
    let x : Held = record { number = number; ticket = asked.was } in
    record { was = asked.was; becomes = asked.becomes; own = among P asked.before x asked.following (subst (All P) asked.old_tickets all); answered = asked.answered }

none_asked : (gate : GateId) (d bw : ℕ) (word : Option ℕ) (reply other : Reply) → word ≡ None → reply ≡ other → other ≢ replies.Changed → IsByWord gate d bw word reply
none_asked gate d bw (Some seen) reply other none is differ = absurd cc
none_asked gate d bw None replies.Changed other none is differ = absurd (differ (sym is))
none_asked gate d bw None replies.Admitted other none is differ = tt
none_asked gate d bw None replies.Woken other none is differ = tt
none_asked gate d bw None replies.Left other none is differ = tt
none_asked gate d bw None (replies.Done n) other none is differ = tt
none_asked gate d bw None replies.Set other none is differ = tt
none_asked gate d bw None replies.Full other none is differ = tt
none_asked gate d bw None replies.Twice other none is differ = tt
none_asked gate d bw None (replies.Busy seen) other none is differ = tt
none_asked gate d bw None replies.NotListed other none is differ = tt
none_asked gate d bw None replies.NotWaiting other none is differ = tt
none_asked gate d bw None replies.Departed other none is differ = tt

granted : (gate : GateId) (d bw : ℕ) (word : Option ℕ) (reply : Reply) → reply ≡ word_reply word → AsksWord gate d bw word → IsByWord gate d bw word reply
granted gate d bw None reply is asks = subst (IsByWord gate d bw None) (sym is) asks
granted gate d bw (Some seen) reply is asks = (is, asks)

by_test : (over : Bool) (gate : GateId) (d bw sum : ℕ) (word : Option ℕ) (reply : Reply)
    → reply ≡ cond over (replies.Busy sum) (word_reply word)
    → (cond over (replies.Busy sum) replies.Changed ≡ replies.Changed → AsksWord gate d bw word)
    → (cond over (replies.Busy sum) replies.Changed ≢ replies.Changed → word ≡ None)
    → IsByWord gate d bw word reply
by_test true gate d bw sum word reply lawful asked unasked = none_asked gate d bw word reply (replies.Busy sum) (unasked (λ e. absurd cc)) lawful (λ e. absurd cc)
by_test false gate d bw sum word reply lawful asked unasked = granted gate d bw word reply lawful (asked refl)

by_word : (gate : GateId) (d : ℕ) (state : Domain) (params : ParamsView) (word : Option ℕ) (t : Option Task) (reply : Reply)
    → reply ≡ regrade_reply state params word t
    → (regrade_reply state params None t ≡ replies.Changed → AsksWord gate d params.bw word)
    → (regrade_reply state params None t ≢ replies.Changed → word ≡ None)
    → IsByWord gate d params.bw word reply
by_word gate d state params word None reply lawful asked unasked = none_asked gate d params.bw word reply replies.NotListed (unasked (λ e. absurd cc)) lawful (λ e. absurd cc)
by_word gate d state params word (Some t) reply lawful asked unasked =
    by_test (nat_lt (cap state.cpus state.limit) (sum_of state.tasks - t.params.bw + params.bw)) gate d params.bw (sum_of state.tasks) word reply lawful asked unasked

pub regraded : (id : SessionId) (d : ℕ) (old new : BookView) (p q : PassView Entry) (number : ℕ) (params : ParamsView) (made : Result Reply Full) (answer : Answer)
    → IsSessionBook id d old → IsSeenBook old p → IfOk made (IsRegraded old new p q number params) → IfErr made (λ _. IsRefusedFull old new p q)
    → IfOk made (λ reply. answer ≡ Ok reply) → IfErr made (λ _. answer ≡ Err refusals.Full)
    → IsRegradedBy id d p q number params answer
regraded id d old new p q number params (Ok reply) answer named seen entered full ok err =
    subst (λ (a : Answer). IsRegradedBy id d p q number params a) (sym ok)
    (record {
      word = entered.word;
      replied = record { pass = entered.entered.pass; full = tt };
      reply = record {
        saw = saw_book id d old p named seen;
        lawful = subst (λ (s : Domain). reply ≡ reply_to s (calls.Regrade number params entered.word)) (same_state id d old named) entered.entered.lawful;
        by_word = subst (λ (n : ℕ). IsByWord id.gate n params.bw entered.word reply) named.domain (subst (λ (i : GateId). IsByWord i old.domain params.bw entered.word reply) named.gate (by_word old.gate old.domain (state_of old) params entered.word (task_of (state_of old) number) reply entered.entered.lawful
            (λ e. asks_word old number params.bw new.tickets entered.word (entered.own e) (entered.asked e))
            (λ differ. (entered.unasked differ).0)));
      };
    })
regraded id d old new p q number params (Err e) answer named seen entered full ok err =
    subst (λ (a : Answer). IsRegradedBy id d p q number params a) (sym err)
    (record { word = None; replied = record { pass = full.stays.pass; full = tt }; reply = tt })

-- ---- a change of the limit

set_same : (old new : BookView) (p q : PassView Entry) (limit : ℕ) (blank back : BlankView) → IsLimitSet old new p q limit blank back → SameBook old new
set_same old new p q limit blank back e = record {
  gate = ap (λ (b : BookView). b.gate) e.book;
  domain = ap (λ (b : BookView). b.domain) e.book;
  spine = ap (λ (b : BookView). b.spine) e.book;
  cpus = ap (λ (b : BookView). b.cpus) e.book;
  limit = ap (λ (b : BookView). b.limit) e.book;
  clients = ap (λ (b : BookView). b.clients) e.book;
  room = ap (λ (b : BookView). b.room) e.book;
  workers = ap (λ (b : BookView). b.workers) e.book;
}

pub same_limited : (old new : BookView) (p q : PassView Entry) (limit : ℕ) (blank : BlankView) (made : Limit) → AnswersLimit old new p q limit blank made → SameBook old new
same_limited old new p q limit blank (limits.Set back) a = set_same old new p q limit blank back a
same_limited old new p q limit blank (limits.Busy back seen) (inl a) = same_entered old new p q _ (replies.Busy seen) a.entered.entered
same_limited old new p q limit blank (limits.Busy back seen) (inr a) = same_entered old new p q _ (replies.Busy seen) a.entered.entered
same_limited old new p q limit blank (limits.Full back) a = same_stays old new p q a.0.stays

-- why a change of the limit stands in no book
pub limit_why_not : (old new : BookView) (p q : PassView Entry) (limit : ℕ) (blank : BlankView) (made : Limit) → AnswersLimit old new p q limit blank made → IsWhyNotMade old (limit_answer made)
limit_why_not old new p q limit blank (limits.Set back) a = tt
limit_why_not old new p q limit blank (limits.Busy back seen) a = tt
limit_why_not old new p q limit blank (limits.Full back) a = a.0.full

pub limited_own : (old new : BookView) (p q : PassView Entry) (limit : ℕ) (blank : BlankView) (made : Limit) → AnswersLimit old new p q limit blank made → (limit_back made).gate ≡ blank.gate
limited_own old new p q limit blank (limits.Set back) a = a.asked.own
limited_own old new p q limit blank (limits.Busy back seen) (inl a) = ap (λ (b : BlankView). b.gate) a.same
limited_own old new p q limit blank (limits.Busy back seen) (inr a) = a.asked.own
limited_own old new p q limit blank (limits.Full back) a = ap (λ (b : BlankView). b.gate) a.1

-- the word's part, of the domain of a session
by_limit : (id : SessionId) (d : ℕ) (b : BookView) (limit : ℕ) (piece : BlankView) (word : Option ℕ) (reply : Reply) (back : BlankView)
    → IsSessionBook id d b → IsLimitByWord b.cpus b.domain limit piece word reply back → IsLimitByWord (length (cpu_set_of id d)) d limit piece word reply back
by_limit id d b limit piece word reply back named by =
    subst (λ (n : ℕ). IsLimitByWord n d limit piece word reply back) named.cpus (subst (λ (n : ℕ). IsLimitByWord b.cpus n limit piece word reply back) named.domain by)

limit_state : (id : SessionId) (d : ℕ) (b : BookView) (limit : ℕ) (word : Option ℕ) (reply : Reply)
    → IsSessionBook id d b → reply ≡ reply_to (state_of b) (calls.Limit limit word) → reply ≡ reply_to (run_of (length (cpu_set_of id d)) id.limit (calls_of b.history)) (calls.Limit limit word)
limit_state id d b limit word reply named is = subst (λ (s : Domain). reply ≡ reply_to s (calls.Limit limit word)) (same_state id d b named) is

pub limited : (id : SessionId) (d : ℕ) (old new : BookView) (p q : PassView Entry) (limit : ℕ) (blank : BlankView) (made : Limit)
    → IsSessionBook id d old → IsSeenBook old p → AnswersLimit old new p q limit blank made
    → IsLimitedBy id d p q blank limit (limit_answer made) (Some (limit_back made))
limited id d old new p q limit blank (limits.Set back) named seen a = record {
  word = None;
  replied = record { pass = a.pass; full = tt };
  reply = record {
    saw = saw_book id d old p named seen;
    lawful = limit_state id d old limit None replies.Set named a.lawful;
    back = back;
    in_hand = refl;
    by_word = by_limit id d old limit blank None replies.Set back named a.asked;
  };
  unasked = tt;
}
limited id d old new p q limit blank (limits.Busy back n) named seen (inl a) = record {
  word = None;
  replied = record { pass = a.entered.entered.pass; full = tt };
  reply = record {
    saw = saw_book id d old p named seen;
    lawful = limit_state id d old limit None (replies.Busy n) named a.entered.entered.lawful;
    back = back;
    in_hand = refl;
    by_word = a.same;
  };
  unasked = tt;
}
limited id d old new p q limit blank (limits.Busy back n) named seen (inr a) = record {
  word = Some n;
  replied = record { pass = a.entered.entered.pass; full = tt };
  reply = record {
    saw = saw_book id d old p named seen;
    lawful = limit_state id d old limit (Some n) (replies.Busy n) named a.entered.entered.lawful;
    back = back;
    in_hand = refl;
    by_word = by_limit id d old limit blank (Some n) (replies.Busy n) back named (refl, a.asked);
  };
  unasked = tt;
}
limited id d old new p q limit blank (limits.Full back) named seen a = record {
  word = None;
  replied = record { pass = a.0.stays.pass; full = tt };
  reply = tt;
  unasked = ap (λ (b : BlankView). Some b) a.1;
}

-- ---- an admission that the book refused for want of bandwidth

pub busy_over : (old new : BookView) (p q : PassView Entry) (a : AdmissionView) (ticket back : TicketView) (seen : ℕ) → IsBusy old new p q a ticket back seen → IsOverCap old.cpus a.params.bw seen
busy_over old new p q a ticket back seen b = record {
  cap = cap old.cpus (state_of old).limit;
  a_cap = record { limit = (state_of old).limit; a_limit = record { least = b.a_limit.0; most = b.a_limit.1 }; product = refl };
  within = b.within;
  above = b.above;
}
