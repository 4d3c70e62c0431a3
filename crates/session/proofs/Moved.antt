-- A task that moves between two books, and what a client's passes have then.
use Rattle.std.proofs.Common.{◌≡◌, ◌≢◌, ℕ, zero, suc, ◌+◌, ◌<◌, List, [], ◌∷◌, ◌++◌, length, map, set, take, drop, get_or, arith, Option, Some, Ok, Err, inl, inr, refl, sym, ap, subst, ◌∙◌}
use Rattle.std.specs.Prelude.{◌⊎◌, Result, IfOk, IfErr, IfSome, IsSomeAnd}
use Rattle.std.proofs.Math.Seq.{take-append_seam}
use Rattle.std.proofs.lemmas.List.{get_or-set_other, get_or-take, get_or-drop, get_or_default, length-set}
use Rattle.attr_check.specs.ParamsView.{ParamsView}
use Rattle.attr_check.specs.Ratio.{cap}
use Rattle.pass_seats.specs.Lists.{PassView}
use Rattle.domain_run.specs.declared.call.Call.{Call}
use Rattle.domain_run.specs.declared.call.Call.TheVariants as calls
use Rattle.domain_run.specs.declared.call.Reply.{Reply}
use Rattle.domain_run.specs.declared.call.Reply.TheVariants as replies
use Rattle.domain_run.specs.Domain.{Domain}
use Rattle.domain_run.specs.Views.{Moving, moving_in}
use Rattle.domain_run.specs.Calls.{reply_to}
use Rattle.bw_gate.specs.Pieces.{GateId, BlankView, TicketView}
use Rattle.bw_gate.specs.Answers.{IsGive}
use Rattle.call_book.specs.Pieces.{IsTicketOf}
use Rattle.calls_text.specs.declared.section.Entry.{Entry}
use Rattle.call_book.specs.declared.book.domain.moving.MoveFault.{MoveFault}
use Rattle.call_book.specs.declared.book.domain.moving.MoveFault.TheVariants as faults
use Rattle.call_book.specs.Book.{BookView, AdmissionView, Enters, Stays, IsFull, state_of}
use Rattle.call_book.specs.MoveAnswers.{Sides, moving_as, arrival, IsStale, ComeBack, IsMoved, LacksRoom, IsUnprepared}
use Rattle.session.specs.declared.refusal.Refusal.{Refusal}
use Rattle.session.specs.SessionId.{SessionId, cpu_set_of}
use Rattle.session.specs.Seen.{ClientPart, WouldReply}
use Rattle.session.specs.Asks.{IsOverCap, ClientView, part_in, Made, made_by, Makes}
use Rattle.session.specs.Moves.{WasListed, WasChanged, NoRoomWasSeen}
use Rattle.session.specs.private.Entering.{IsSessionBook, part_with, IsSeenBook, IsClientOf, pass_after}
use Rattle.session.specs.private.Moving.{PassPair, IsUnpreparedAt, IsMovedBy, IsWhyRefused, IsMoveRefusedBy, IsBooksAnswer, PassesMove, IsMoveFor}
use Rattle.session.proofs.Asked.{makes_at, made_nothing}
use Rattle.session.proofs.Admitted.{followed_more}
use Rattle.session.proofs.Passes.{kept, still_client}
use Rattle.session.proofs.Sighted.{saw_book, same_state, would_reply, saw_full, part_at}

-- ---- what a book shows

pub no_room : (id : SessionId) (d : ℕ) (b : BookView) (p : PassView Entry) (a : AdmissionView) (n : ℕ) → IsSessionBook id d b → IsSeenBook b p → LacksRoom b a n
    → WouldReply id d (part_with p) (arrival a) (replies.Busy n) × IsOverCap (length (cpu_set_of id d)) a.params.bw n
no_room id d b p a n named seen lacks = (
  would_reply id d b p (arrival a) (replies.Busy n) named seen lacks.reply,
  subst (λ (k : ℕ). IsOverCap k a.params.bw n) named.cpus
      (record {
        cap = cap b.cpus (state_of b).limit;
        a_cap = record { limit = (state_of b).limit; a_limit = record { least = lacks.a_limit.0; most = lacks.a_limit.1 }; product = refl };
        within = lacks.within;
        above = lacks.above;
      }),
)

pub was_listed : (id : SessionId) (d number : ℕ) (b : BookView) (p : PassView Entry) (task : Moving) → IsSessionBook id d b → IsSeenBook b p → moving_in (state_of b) number ≡ Some task
    → WasListed id d number (part_with p) task
was_listed id d number b p task named seen is =
    record { saw = saw_book id d b p named seen; found = subst (λ (s : Domain). moving_in s number ≡ Some task) (same_state id d b named) is }

pub was_changed : (id : SessionId) (d : ℕ) (b : BookView) (p : PassView Entry) (a : AdmissionView) (now : ParamsView) → IsSessionBook id d b → IsSeenBook b p → IsStale b a now
    → WasChanged id d a.number (part_with p) (moving_as a) now
was_changed id d b p a now named seen s = record { task = s.task; listed = was_listed id d a.number b p s.task named seen s.found; differs = s.differs; logged = s.logged }

-- why there is no room for a move
pub no_place : (id : SessionId) (from to : ℕ) (s : Sides) (a : AdmissionView) → IsSessionBook id from s.from → IsSessionBook id to s.to → IsSeenBook s.from s.out → IsSeenBook s.to s.into
    → IsFull s.from ⊎ IsFull s.to ⊎ (reply_to (state_of s.to) (arrival a) ≡ replies.Full) → NoRoomWasSeen id from to (part_with s.out) (part_with s.into) (arrival a)
no_place id from to s a out into from_seen to_seen (inl full) = inl (saw_full id from s.from s.out out from_seen full)
no_place id from to s a out into from_seen to_seen (inr (inl full)) = inr (inl (saw_full id to s.to s.into into to_seen full))
no_place id from to s a out into from_seen to_seen (inr (inr is)) = inr (inr (would_reply id to s.to s.into (arrival a) replies.Full into to_seen is))

-- what is prepared of a task, or why nothing is
unprepared : (id : SessionId) (d number : ℕ) (b : BookView) (p : PassView Entry) (fault : MoveFault) → IsSessionBook id d b → IsSeenBook b p → IsUnprepared (state_of b) number fault
    → IsUnpreparedAt id d number (part_with p) fault
unprepared id d number b p faults.NotListed named seen is = would_reply id d b p (calls.Depart number) replies.NotListed named seen is
unprepared id d number b p faults.Memory named seen is = would_reply id d b p (calls.Depart number) replies.Departed named seen is

pub prepared_seen : (id : SessionId) (d number : ℕ) (b : BookView) (p : PassView Entry) (made : Result AdmissionView MoveFault) → IsSessionBook id d b → IsSeenBook b p
    → IfOk made (λ a. moving_in (state_of b) number ≡ Some (moving_as a)) → IfOk made (λ a. WasListed id d number (part_with p) (moving_as a))
prepared_seen id d number b p (Ok a) named seen is = was_listed id d number b p (moving_as a) named seen is
prepared_seen id d number b p (Err fault) named seen is = tt

pub unprepared_seen : (id : SessionId) (d number : ℕ) (b : BookView) (p : PassView Entry) (made : Result AdmissionView MoveFault) → IsSessionBook id d b → IsSeenBook b p
    → IfErr made (IsUnprepared (state_of b) number) → IfErr made (IsUnpreparedAt id d number (part_with p))
unprepared_seen id d number b p (Ok a) named seen is = tt
unprepared_seen id d number b p (Err fault) named seen is = unprepared id d number b p fault named seen is

-- ---- under both locks

-- each book is the session's still
pub entered_named : (id : SessionId) (d : ℕ) (old new : BookView) (p q : PassView Entry) (call : Call) (reply : Reply) → IsSessionBook id d old → Enters old new p q call reply → IsSessionBook id d new
entered_named id d old new p q call reply is e =
    subst (IsSessionBook id d) (sym e.book)
    (record { gate = is.gate; domain = is.domain; spine = is.spine; cpus = is.cpus; limit = is.limit; clients = is.clients; room = is.room; workers = is.workers; place = is.place })

pub stays_named : (id : SessionId) (d : ℕ) (old new : BookView) (p q : PassView Entry) → IsSessionBook id d old → Stays old new p q → IsSessionBook id d new
stays_named id d old new p q is s = subst (IsSessionBook id d) (sym s.book) is

pub moved_by : (id : SessionId) (from to : ℕ) (old new : Sides) (a : AdmissionView) (ticket back : TicketView) (blank : BlankView) → IsSessionBook id from old.from
    → IsSessionBook id to old.to → IsSeenBook old.from old.out → IsSeenBook old.to old.into → IsMoved old new a ticket back → IsGive back blank → IsMovedBy id from to (record { out = old.out; into = old.into }) (record { out = new.out; into = new.into }) a blank
moved_by id from to old new a ticket back blank named into from_seen to_seen m given = record {
  left = m.left.pass;
  came = m.came.pass;
  listed = was_listed id from a.number old.from old.out (moving_as a) named from_seen m.as_prepared;
  leaves = would_reply id from old.from old.out (calls.Depart a.number) replies.Departed named from_seen (sym m.left.lawful);
  comes = would_reply id to old.to old.into (arrival a) replies.Admitted into to_seen (sym m.came.lawful);
  ticket = back;
  own = subst (λ (n : ℕ). IsTicketOf id.gate n back) named.domain (subst (λ (i : GateId). IsTicketOf i old.from.domain back) named.gate m.own);
  bw = m.bw;
  given = given;
}

pub refused_by : (id : SessionId) (from to : ℕ) (old new : Sides) (a b : AdmissionView) (ticket back : TicketView) (blank : BlankView) (refusal : Refusal)
    → ComeBack old new a b ticket back → IsGive back blank → IsWhyRefused id from to (part_with old.out) (part_with old.into) a refusal
    → IsMoveRefusedBy id from to (record { out = old.out; into = old.into }) (record { out = new.out; into = new.into }) a ticket blank refusal
refused_by id from to old new a b ticket back blank refusal c given why = record {
  same = ap (λ (p : PassView Entry). record { out = p; into = new.into }) c.from.pass ∙ ap (λ (p : PassView Entry). record { out = old.out; into = p }) c.to.pass;
  given = subst (λ (t : TicketView). IsGive t blank) c.ticket_back given;
  why = why;
}

-- ---- two passes of a client, cut apart at the later one

set_after : {X : Type 0} (xs : List X) (e : ℕ) (y : X) → set xs e y ≡ take e xs ++ set (drop e xs) 0 y
set_after [] zero y = refl
set_after [] (suc e) y = refl
set_after (x ∷ xs) zero y = refl
set_after (x ∷ xs) (suc e) y = ap (λ l. x ∷ l) (set_after xs e y)

pub set_up : {X : Type 0} (xs : List X) (d e : ℕ) (y z : X) → d < e → set (set xs d y) e z ≡ set (take e xs) d y ++ set (drop e xs) 0 z
set_up [] d zero y z less = absurd (omega (arith, less))
set_up [] zero (suc e) y z less = refl
set_up [] (suc d) (suc e) y z less = refl
set_up (x ∷ xs) zero (suc e) y z less = ap (λ l. y ∷ l) (set_after xs e z)
set_up (x ∷ xs) (suc d) (suc e) y z less = ap (λ l. x ∷ l) (set_up xs d e y z (omega (arith, less)))
set_up (x ∷ xs) d zero y z less = absurd (omega (arith, less))

pub set_down : {X : Type 0} (xs : List X) (d e : ℕ) (y z : X) → e < d → set (set xs d y) e z ≡ set (take d xs) e z ++ set (drop d xs) 0 y
set_down [] zero e y z less = absurd (omega (arith, less))
set_down [] (suc d) zero y z less = refl
set_down [] (suc d) (suc e) y z less = refl
set_down (x ∷ xs) (suc d) zero y z less = ap (λ l. z ∷ l) (set_after xs d y)
set_down (x ∷ xs) (suc d) (suc e) y z less = ap (λ l. x ∷ l) (set_down xs d e y z (omega (arith, less)))
set_down (x ∷ xs) zero e y z less = absurd (omega (arith, less))

-- what stands at a place of either part stood at its own in the whole
low_at : (ps low : List (PassView Entry)) (d e : ℕ) (x : PassView Entry) → d < e → e < length ps → low ≡ take e ps → get_or low d x ≡ get_or ps d (get_or low d x)
low_at ps low d e x less inside is =
    ap (λ (l : List (PassView Entry)). get_or l d x) is ∙ get_or-take e ps d x less ∙ get_or_default ps d x (get_or low d x) (omega (arith, less, inside))

high_at : (ps high : List (PassView Entry)) (e : ℕ) (x : PassView Entry) → e < length ps → high ≡ drop e ps → get_or high 0 x ≡ get_or ps e (get_or high 0 x)
high_at ps high e x inside is =
    let zero_more : e + 0 ≡ e = omega arith in
    ap (λ (l : List (PassView Entry)). get_or l 0 x) is ∙ get_or-drop e ps 0 x ∙ ap (λ (k : ℕ). get_or ps k x) zero_more ∙ get_or_default ps e x (get_or high 0 x) inside

-- the two parts, and what is after them in the memory that they were cut from, are the whole
rejoined : (ps a b whole : List (PassView Entry)) (n : ℕ) → a ++ b ≡ whole → n ≡ length whole → take n (a ++ b ++ drop (length (a ++ b)) ps) ≡ whole
rejoined ps a b whole n is count =
    ap (λ (l : List (PassView Entry)). take n (l ++ drop (length l) ps)) is
    ∙ ap (λ (k : ℕ). take k (whole ++ drop (length whole) ps)) count
    ∙ take-append_seam whole (drop (length whole) ps)

same_count : (ps : List (PassView Entry)) (d e n : ℕ) (q s : PassView Entry) → n ≡ length ps → n ≡ length (set (set ps d q) e s)
same_count ps d e n q s is = is ∙ sym (length-set ps d q) ∙ sym (length-set (set ps d q) e s)

pub passes_up : {T : Type 0} (id : SessionId) (d e : ℕ) (ps low high : List (PassView Entry)) (n : ℕ) (x y q s : PassView Entry) (a : AdmissionView) (ticket : TicketView) (blank : BlankView) (answer : Result T Refusal)
    → d < e → e < length ps → n ≡ length ps → low ≡ take e ps → high ≡ drop e ps
    → IsBooksAnswer id d e (record { out = get_or low d x; into = get_or high 0 y }) (record { out = q; into = s }) a ticket blank answer
    → PassesMove id d e ps (take n (set low d q ++ set high 0 s ++ drop (length (set low d q ++ set high 0 s)) ps)) a ticket blank answer
passes_up id d e ps low high n x y q s a ticket blank answer less inside count front back answered = record {
  was = record { out = get_or low d x; into = get_or high 0 y };
  is = record { out = q; into = s };
  become = record {
    out = low_at ps low d e x less inside front;
    into = high_at ps high e y inside back;
    set_both = rejoined ps (set low d q) (set high 0 s) (set (set ps d q) e s) n
        (ap (λ (l : List (PassView Entry)). set l d q ++ set high 0 s) front ∙ ap (λ (l : List (PassView Entry)). set (take e ps) d q ++ set l 0 s) back ∙ sym (set_up ps d e q s less))
        (same_count ps d e n q s count);
  };
  answered = answered;
}

pub passes_down : {T : Type 0} (id : SessionId) (d e : ℕ) (ps low high : List (PassView Entry)) (n : ℕ) (x y q s : PassView Entry) (a : AdmissionView) (ticket : TicketView) (blank : BlankView) (answer : Result T Refusal)
    → e < d → d < length ps → n ≡ length ps → low ≡ take d ps → high ≡ drop d ps
    → IsBooksAnswer id d e (record { out = get_or high 0 x; into = get_or low e y }) (record { out = q; into = s }) a ticket blank answer
    → PassesMove id d e ps (take n (set low e s ++ set high 0 q ++ drop (length (set low e s ++ set high 0 q)) ps)) a ticket blank answer
passes_down id d e ps low high n x y q s a ticket blank answer less inside count front back answered = record {
  was = record { out = get_or high 0 x; into = get_or low e y };
  is = record { out = q; into = s };
  become = record {
    out = high_at ps high d x inside back;
    into = low_at ps low e d y less inside front;
    set_both = rejoined ps (set low e s) (set high 0 q) (set (set ps d q) e s) n
        (ap (λ (l : List (PassView Entry)). set l e s ++ set high 0 q) front ∙ ap (λ (l : List (PassView Entry)). set (take d ps) e s ++ set l 0 q) back ∙ sym (set_down ps d e q s less))
        (same_count ps d e n q s count);
  };
  answered = answered;
}

-- ---- a client of which two passes have made a call

both_made : (a b c : ClientView) (f g : ℕ → List Made) → Makes a b f → Makes b c g → Makes a c (λ d. f d ++ g d)
both_made a b c f g first next = record {
  number = next.number ∙ first.number;
  domains = next.domains ∙ first.domains;
  passes = λ d inside.
      let there : d < length b.passes = omega (arith, inside, first.domains) in
      followed_more a b c d (f d) (g d) first.number (first.passes d inside) (next.passes d there);
}

-- the client between its two calls
abbrev between : ClientView → List (PassView Entry) → ClientView
between c ps = record c { passes = map (λ (p : PassView Entry). p.entries) ps }

pub move_makes : {T : Type 0} (id : SessionId) (from to : ℕ) (c e : ClientView) (ps qs : List (PassView Entry)) (a : AdmissionView) (ticket : TicketView) (blank : BlankView) (answer : Result T Refusal)
    → c.passes ≡ map (λ (p : PassView Entry). p.entries) ps → e.passes ≡ map (λ (p : PassView Entry). p.entries) qs → e.number ≡ c.number → e.hand ≡ Some blank
    → from ≢ to → from < length ps → to < length ps
    → ((d : ℕ) (x : PassView Entry) → d < length ps → (get_or ps d x).client ≡ c.number)
    → PassesMove id from to ps qs a ticket blank answer
    → IsMoveFor id from to c e a ticket answer
move_makes id from to c e ps qs a ticket blank answer old new number hand apart from_in to_in owner m = by answer m.answered
  where
    p : PassView Entry
    p = m.was.out

    r : PassView Entry
    r = m.was.into

    q : PassView Entry
    q = m.is.out

    s : PassView Entry
    s = m.is.into

    mid : ClientView
    mid = between c (set ps from q)

    later : to < length (set ps from q)
    later = omega (arith, to_in, length-set ps from q)

    unset : get_or (set ps from q) to r ≡ get_or ps to r
    unset = get_or-set_other ps from to q r (λ is. apart (sym is))

    first : (call : Call) (x : Result Reply Refusal) → q ≡ pass_after p call x → Makes c mid (made_by from call x)
    first call x is =
        makes_at c mid ps from p q call x old refl refl from_in (owner from p from_in) (subst (λ (v : PassView Entry). q ≡ pass_after v call x) m.become.out is)

    second : (call : Call) (x : Result Reply Refusal) → s ≡ pass_after r call x → Makes mid e (made_by to call x)
    second call x is =
        makes_at mid e (set ps from q) to r s call x refl (new ∙ ap (map (λ (v : PassView Entry). v.entries)) m.become.set_both) number later
        (ap (λ (v : PassView Entry). v.client) unset ∙ owner to r to_in)
        (subst (λ (v : PassView Entry). s ≡ pass_after v call x) (m.become.into ∙ sym unset) is)

    out_is : part_with p ≡ part_in c from
    out_is = part_at c ps from p old from_in m.become.out (owner from p from_in)

    into_is : part_with r ≡ part_in c to
    into_is = part_at c ps to r old to_in m.become.into (owner to r to_in)

    handed : (t : TicketView) → IsGive t blank → IsSomeAnd e.hand (IsGive t)
    handed t given = subst (λ (h : Option BlankView). IsSomeAnd h (IsGive t)) (sym hand) given

    by : {U : Type 0} (x : Result U Refusal) → IsBooksAnswer id from to m.was m.is a ticket blank x → IsMoveFor id from to c e a ticket x
    by (Ok _) done = record {
      made = both_made c mid e _ _ (first (calls.Depart a.number) (Ok replies.Departed) done.left) (second (arrival a) (Ok replies.Admitted) done.came);
      listed = subst (λ (x : ClientPart). WasListed id from a.number x (moving_as a)) out_is done.listed;
      leaves = subst (λ (x : ClientPart). WouldReply id from x (calls.Depart a.number) replies.Departed) out_is done.leaves;
      comes = subst (λ (x : ClientPart). WouldReply id to x (arrival a) replies.Admitted) into_is done.comes;
      ticket = done.ticket;
      own = done.own;
      bw = done.bw;
      given = handed done.ticket done.given;
    }
    by (Err refusal) done = record {
      made = both_made c mid e _ _
          (made_nothing c mid from (calls.Depart a.number) refusal (first (calls.Depart a.number) (Err refusal) (ap (λ (v : PassPair). v.out) done.same)))
          (made_nothing mid e to (arrival a) refusal (second (arrival a) (Err refusal) (ap (λ (v : PassPair). v.into) done.same)));
      given = handed ticket done.given;
      why = subst (λ (x : ClientPart). IsWhyRefused id from to x (part_in c to) a refusal) out_is (subst (λ (x : ClientPart). IsWhyRefused id from to (part_with p) x a refusal) into_is done.why);
    }

-- and it is one of the session's still
pub move_kept : {T : Type 0} (id : SessionId) (number from to : ℕ) (ps qs : List (PassView Entry)) (hand now : Option BlankView) (a : AdmissionView) (ticket : TicketView) (blank : BlankView) (answer : Result T Refusal)
    → IsClientOf id number ps hand → IfSome now (λ b. b.gate ≡ id.gate) → from ≢ to → from < length ps → to < length ps
    → PassesMove id from to ps qs a ticket blank answer → IsClientOf id number qs now
move_kept id number from to ps qs hand now a ticket blank answer is own apart from_in to_in m = by answer m.answered
  where
    p : PassView Entry
    p = m.was.out

    r : PassView Entry
    r = m.was.into

    q : PassView Entry
    q = m.is.out

    s : PassView Entry
    s = m.is.into

    later : to < length (set ps from q)
    later = omega (arith, to_in, length-set ps from q)

    unset : get_or (set ps from q) to r ≡ get_or ps to r
    unset = get_or-set_other ps from to q r (λ is. apart (sym is))

    from_both : (q.spine ≡ p.spine) × (q.client ≡ p.client) → (s.spine ≡ r.spine) × (s.client ≡ r.client) → IsClientOf id number qs now
    from_both out into =
        subst (λ (l : List (PassView Entry)). IsClientOf id number l now) (sym m.become.set_both)
        (still_client id number (set ps from q) now now to r s
        (still_client id number ps hand now from p q is from_in m.become.out out own)
        later (m.become.into ∙ sym unset) into own)

    by : {U : Type 0} (x : Result U Refusal) → IsBooksAnswer id from to m.was m.is a ticket blank x → IsClientOf id number qs now
    by (Ok _) done = from_both (kept p q (calls.Depart a.number) (Ok replies.Departed) done.left) (kept r s (arrival a) (Ok replies.Admitted) done.came)
    by (Err refusal) done = from_both (kept p q (calls.Depart a.number) (Err refusal) (ap (λ (v : PassPair). v.out) done.same)) (kept r s (arrival a) (Err refusal) (ap (λ (v : PassPair). v.into) done.same))
