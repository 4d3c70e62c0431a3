-- What a call under a domain's lock sees of its book.
use Rattle.std.proofs.Common.{◌≡◌, ℕ, zero, suc, ◌<◌, ◌≤◌, Bool, true, cond, eqb, eq-eqb, List, [], ◌∷◌, length, map, get_or, Option, Some, None, Ok, Err, inl, inr, refl, sym, ap, subst, ◌∙◌, arith}
use Rattle.std.specs.Prelude.{All, slice_index_or}
use Rattle.std.proofs.lemmas.List.{get_or-map}
use Rattle.pass_seats.specs.Lists.{PassView}
use Rattle.bw_gate.specs.Pieces.{BlankView}
use Rattle.domain_run.specs.declared.call.Call.{Call}
use Rattle.domain_run.specs.declared.call.Call.TheVariants as calls
use Rattle.domain_run.specs.declared.call.Reply.{Reply}
use Rattle.domain_run.specs.declared.call.Reply.TheVariants as replies
use Rattle.domain_run.specs.Domain.{Domain}
use Rattle.domain_run.specs.Calls.{reply_to}
use Rattle.domain_run.specs.Run.{run_of}
use Rattle.calls_text.specs.declared.section.Entry.{Entry}
use Rattle.calls_text.specs.Histories.{IsLegal, calls_of}
use Rattle.call_book.specs.Book.{BookView, IsMember, IsFull, admission, own_entries, state_of}
use Rattle.session.specs.declared.refusal.Refusal.TheVariants as refusals
use Rattle.session.specs.declared.locked_book.Ask.{Ask}
use Rattle.session.specs.declared.locked_book.Ask.TheVariants as asks
use Rattle.session.specs.SessionId.{SessionId, cpu_set_of}
use Rattle.session.specs.Seen.{ClientPart, Saw, OneSeesAll, WouldReply, SawFull, SawRoom, AdmissionWasSeen, AnswerWasSeen, EntryWasSeen, RefusalWasSeen}
use Rattle.session.specs.Asks.{Answer, ClientView, client_pass_in, part_in}
use Rattle.session.specs.private.Entering.{IsSessionBook, part_with, IsSeenBook, IsAdmissionAnswered, IsCallAnswered, IsWhyNotMade, IsBookAnswer, WasSeenFor}

-- ---- the history of a book

abbrev pub saw_book : (id : SessionId) (d : ℕ) (b : BookView) (p : PassView Entry) → IsSessionBook id d b → IsSeenBook b p → Saw id d (part_with p)
saw_book id d b p named seen = record {
  history = b.history;
  legal = subst (λ (n : ℕ). IsLegal n id.limit b.history) named.cpus (subst (λ (l : ℕ). IsLegal b.cpus l b.history) named.limit seen.history.legal);
  numbered = seen.history.numbered;
  members = subst (λ (n : ℕ). All (λ (e : Entry). IsMember n e.client) b.history) named.clients seen.history.members;
  within = subst (λ (n : ℕ). length b.history ≤ n) named.room seen.history.within;
  own = seen.own;
}

-- the state of a book is the one that is seen
pub same_state : (id : SessionId) (d : ℕ) (b : BookView) → IsSessionBook id d b → state_of b ≡ run_of (length (cpu_set_of id d)) id.limit (calls_of b.history)
same_state id d b named =
    ap (λ (n : ℕ). run_of n b.limit (calls_of b.history)) named.cpus ∙ ap (λ (l : ℕ). run_of (length (cpu_set_of id d)) l (calls_of b.history)) named.limit

pub would_reply : (id : SessionId) (d : ℕ) (b : BookView) (p : PassView Entry) (call : Call) (reply : Reply)
    → IsSessionBook id d b → IsSeenBook b p → reply_to (state_of b) call ≡ reply → WouldReply id d (part_with p) call reply
would_reply id d b p call reply named seen is =
    record { saw = saw_book id d b p named seen; replied = subst (λ (s : Domain). reply_to s call ≡ reply) (same_state id d b named) is }

pub saw_full : (id : SessionId) (d : ℕ) (b : BookView) (p : PassView Entry) → IsSessionBook id d b → IsSeenBook b p → IsFull b → SawFull id d (part_with p)
saw_full id d b p named seen full = record { saw = saw_book id d b p named seen; full = full ∙ named.room }

pub saw_room : (id : SessionId) (d : ℕ) (b : BookView) (p : PassView Entry) → IsSessionBook id d b → IsSeenBook b p → length b.history < b.room → SawRoom id d (part_with p)
saw_room id d b p named seen room = record { saw = saw_book id d b p named seen; room = subst (λ (n : ℕ). length b.history < n) named.room room }

-- a history to which one client alone has called
own_all : (client : ℕ) (es : List Entry) → client ≡ 1 → All (λ (e : Entry). IsMember 1 e.client) es → own_entries client es ≡ es
own_all client [] one all = refl
own_all client (e ∷ es) one all =
    let member = all zero e (omega arith) in
    let same : eqb e.client client ≡ true = eq-eqb e.client client (omega (arith, member.some, member.most, one)) in
    let rest = own_entries client es in
    ap (λ (b : Bool). cond b (e ∷ rest) rest) same ∙ ap (λ (l : List Entry). e ∷ l) (own_all client es one (λ k x h. all (suc k) x (omega (arith, h))))

pub one_sees_all : OneSeesAll
one_sees_all id d part saw one client =
    sym (saw.own ∙ own_all part.client saw.history client (subst (λ (n : ℕ). All (λ (e : Entry). IsMember n e.client) saw.history) one saw.members))

-- ---- what a book answered

pub refusal_seen : (id : SessionId) (d : ℕ) (b : BookView) (p : PassView Entry) (answer : Answer)
    → IsSessionBook id d b → IsSeenBook b p → IsWhyNotMade b answer → RefusalWasSeen id d (part_with p) answer
refusal_seen id d b p (Ok reply) named seen logged = tt
refusal_seen id d b p (Err refusals.Full) named seen logged = saw_full id d b p named seen logged
refusal_seen id d b p (Err refusals.Enomem) named seen logged = saw_room id d b p named seen logged
refusal_seen id d b p (Err refusals.Twice) named seen logged = tt
refusal_seen id d b p (Err (refusals.Busy n)) named seen logged = tt
refusal_seen id d b p (Err refusals.Eperm) named seen logged = tt
refusal_seen id d b p (Err (refusals.Einval k)) named seen logged = tt
refusal_seen id d b p (Err refusals.Esrch) named seen logged = tt
refusal_seen id d b p (Err (refusals.Stale now)) named seen logged = tt
refusal_seen id d b p (Err refusals.SameDomain) named seen logged = tt

answer_seen : (id : SessionId) (d : ℕ) (b : BookView) (p : PassView Entry) (call : Call) (answer : Answer)
    → IsSessionBook id d b → IsSeenBook b p → IsCallAnswered b call answer → AnswerWasSeen id d (part_with p) call answer
answer_seen id d b p call (Ok reply) named seen logged = would_reply id d b p call reply named seen logged
answer_seen id d b p call (Err refusal) named seen logged = refusal_seen id d b p (Err refusal) named seen logged

admission_seen : (id : SessionId) (d : ℕ) (b : BookView) (p : PassView Entry) (call : Call) (answer : Answer)
    → IsSessionBook id d b → IsSeenBook b p → IsAdmissionAnswered b call answer → AdmissionWasSeen id d (part_with p) call answer
admission_seen id d b p call (Ok reply) named seen logged = would_reply id d b p call reply named seen logged
admission_seen id d b p call (Err refusals.Full) named seen (inl full) = inl (saw_full id d b p named seen full)
admission_seen id d b p call (Err refusals.Full) named seen (inr is) = inr (would_reply id d b p call replies.Full named seen is)
admission_seen id d b p call (Err refusals.Twice) named seen logged = would_reply id d b p call replies.Twice named seen logged
admission_seen id d b p call (Err refusals.Enomem) named seen logged = absurd logged
admission_seen id d b p call (Err (refusals.Busy n)) named seen logged = absurd logged
admission_seen id d b p call (Err refusals.Eperm) named seen logged = absurd logged
admission_seen id d b p call (Err (refusals.Einval k)) named seen logged = absurd logged
admission_seen id d b p call (Err refusals.Esrch) named seen logged = absurd logged
admission_seen id d b p call (Err (refusals.Stale now)) named seen logged = absurd logged
admission_seen id d b p call (Err refusals.SameDomain) named seen logged = absurd logged

pub seen_as : (id : SessionId) (d : ℕ) (b : BookView) (p : PassView Entry) (ask : Ask) (answer : Answer)
    → IsSessionBook id d b → IsSeenBook b p → IsBookAnswer b ask answer → WasSeenFor id d (part_with p) ask answer
seen_as id d b p (asks.Admit prepared ticket) answer named seen logged = admission_seen id d b p (admission prepared) answer named seen logged
seen_as id d b p (asks.Regrade number params) answer named seen logged = refusal_seen id d b p answer named seen logged
seen_as id d b p (asks.Wake number) answer named seen logged = answer_seen id d b p (calls.Wake number) answer named seen logged
seen_as id d b p (asks.Leave number) answer named seen logged = answer_seen id d b p (calls.Leave number) answer named seen logged
seen_as id d b p (asks.Limit piece limit) answer named seen logged = refusal_seen id d b p answer named seen logged

-- of an admission that the gate had granted
pub entry_seen : (id : SessionId) (d : ℕ) (part : ClientPart) (call : Call) (answer : Answer) (next : Option BlankView)
    → AdmissionWasSeen id d part call answer → EntryWasSeen id d part call answer next
entry_seen id d part call (Ok reply) next seen = seen
entry_seen id d part call (Err refusals.Full) None seen = tt
entry_seen id d part call (Err refusals.Full) (Some back) seen = seen
entry_seen id d part call (Err refusals.Twice) next seen = seen
entry_seen id d part call (Err refusals.Enomem) next seen = tt
entry_seen id d part call (Err (refusals.Busy n)) next seen = tt
entry_seen id d part call (Err refusals.Eperm) next seen = tt
entry_seen id d part call (Err (refusals.Einval k)) next seen = tt
entry_seen id d part call (Err refusals.Esrch) next seen = tt
entry_seen id d part call (Err (refusals.Stale now)) next seen = tt
entry_seen id d part call (Err refusals.SameDomain) next seen = tt

-- ---- a client's pass

pub part_at : (c : ClientView) (ps : List (PassView Entry)) (d : ℕ) (p : PassView Entry)
    → c.passes ≡ map (λ (r : PassView Entry). r.entries) ps → d < length ps → p ≡ get_or ps d p → (get_or ps d p).client ≡ c.number
    → part_with p ≡ part_in c d
part_at c ps d p old inside at owner =
    let own : client_pass_in c d ≡ (get_or ps d p).entries = ap (λ (l : List (List Entry)). slice_index_or l d []) old ∙ get_or-map (λ (r : PassView Entry). r.entries) ps d p [] inside in
    ap part_with at ∙ ap (λ (n : ℕ). record { client = n; entries = (get_or ps d p).entries }) owner ∙ ap (λ (l : List Entry). record { client = c.number; entries = l }) (sym own)
