-- What a client is answered, and what its passes have then.
use Rattle.std.proofs.Common.{◌≡◌, ◌≢◌, ℕ, ◌+◌, ◌<◌, Bool, true, false, not, cond, eqb, List, [], ◌∷◌, ◌++◌, length, map, set, get_or, Option, Some, None, Ok, Err, refl, sym, ap, subst, ◌∙◌, arith}
use Rattle.std.specs.Prelude.{slice_index_or, position, nat_lt, IfOk, IfErr}
use Rattle.std.specs.List.{position_or_len, prefix_len, cons_option}
use Rattle.std.proofs.lemmas.Bool.{eqb-true, eqb-false}
use Rattle.std.proofs.lemmas.Option.{same_Some}
use Rattle.std.proofs.lemmas.List.{append-nil, get_or-map, get_or-set_same, get_or-set_other, length-map, length-set}
use Rattle.std.proofs.lemmas.List.Elements.{All-nil, All-cons}
use Rattle.attr_check.specs.declared.attr.SchedAttr.{SchedAttr}
use Rattle.attr_check.specs.declared.refusal.AttrRefusal.{AttrRefusal}
use Rattle.attr_check.specs.ParamsView.{ParamsView}
use Rattle.attr_check.specs.Accepted.{accepted, unless_refused, first_refusal, params_of}
use Rattle.domain_run.specs.declared.call.Call.{Call}
use Rattle.domain_run.specs.declared.call.Reply.TheVariants as replies
use Rattle.rtapp_scenario.specs.ScenarioView.{TaskSpecView}
use Rattle.pass_seats.specs.Lists.{PassView}
use Rattle.bw_gate.specs.Word.{used_of, cap_of, IsCap}
use Rattle.bw_gate.specs.Pieces.{BlankView, found_in, last_word_found, cpus_of as gate_cpus}
use Rattle.bw_gate.specs.declared.view.Found.{Found}
use Rattle.bw_gate.specs.Answers.{IsTake, words_of}
use Rattle.bw_gate.specs.declared.answer.Take.TheVariants as takes
use Rattle.calls_text.specs.declared.section.Entry.{Entry}
use Rattle.session.specs.declared.refusal.Refusal.{Refusal}
use Rattle.session.specs.declared.refusal.Refusal.TheVariants as refusals
use Rattle.session.specs.SessionId.{SessionId, cpu_set_of}
use Rattle.session.specs.Seen.{ClientPart, SawFull, AdmissionWasSeen, AnswerWasSeen, EntryWasSeen, RefusalWasSeen}
use Rattle.session.specs.Asks.{Answer, IsOverCap, IsLawful, Goes, domain_with_cpus, admit_call, ClientView, Asks, Makes, made_by, made_in, made_of, made_at, Made, entries_from, client_pass_in, part_in, blank_or_new, IsGateRefusal, AsksGate, IsHandAfter, IsRegradeReply, IsLimitReply, IsHandUnasked, MakesLimit, RefusesOnlyFull}
use Rattle.call_book.specs.Book.{admission}
use Rattle.domain_run.specs.declared.call.Call.TheVariants as calls
use Rattle.session.specs.declared.locked_book.Ask.{Ask}
use Rattle.session.specs.declared.locked_book.Ask.TheVariants as asks
use Rattle.session.specs.private.Entering.{IsEntryVerdict, NoneIsKept, LeavesNoBlank, KeepsHand, part_with, IsOfTask, WasSeenFor, pass_after, IsDone, IsDoneFor, MakesLimitWith, IsAdvancedBy, IsAdvancedFor}

-- ---- attributes

unless_is : (a : SchedAttr) (r : Option AttrRefusal) (p : ParamsView) → unless_refused a r ≡ Ok p → p ≡ params_of a
unless_is a None p e = cc
unless_is a (Some r) p e = absurd cc

pub accepted_is : (a : SchedAttr) (p : ParamsView) → accepted a ≡ Ok p → p ≡ params_of a
accepted_is a p e = unless_is a (first_refusal a) p e

-- ---- places

mapped_len : {X : Type 0} (f : X → List ℕ) (p : List ℕ → Bool) (xs : List X) → prefix_len p (map f xs) ≡ prefix_len (λ x. p (f x)) xs
mapped_len f p [] = refl
mapped_len f p (x ∷ xs) = ap (λ (n : ℕ). cond (p (f x)) (1 + n) 0) (mapped_len f p xs)

-- the first of the sets that passes is the first whose list does
pub position_of : {X : Type 0} (f : X → List ℕ) (p : List ℕ → Bool) (xs : List X)
    → cond (nat_lt (position_or_len (λ x. p (f x)) xs) (length xs)) (Some (position_or_len (λ x. p (f x)) xs)) None ≡ position p (map f xs)
position_of f p xs =
    ap (λ (n : ℕ). cond (nat_lt n (length xs)) (Some n) None) (sym (mapped_len f (λ y. not (p y)) xs))
    ∙ ap (λ (n : ℕ). cond (nat_lt (position_or_len p (map f xs)) n) (Some (position_or_len p (map f xs))) None) (sym (length-map xs f))

-- ---- answers

pub lawful_of : (id : SessionId) (t : TaskSpecView) (d : ℕ) (answer : Answer) → Goes id t d → IsEntryVerdict (length (cpu_set_of id d)) (params_of t.attr).bw answer → IsLawful id t answer
lawful_of id t d (Ok replies.Admitted) g v = (d, g)
lawful_of id t d (Ok (replies.Busy seen)) g v = (d, g, v)
lawful_of id t d (Ok replies.Changed) g v = v
lawful_of id t d (Ok replies.Woken) g v = v
lawful_of id t d (Ok replies.Left) g v = v
lawful_of id t d (Ok (replies.Done n)) g v = v
lawful_of id t d (Ok replies.Set) g v = v
lawful_of id t d (Ok replies.Full) g v = v
lawful_of id t d (Ok replies.Twice) g v = v
lawful_of id t d (Ok replies.NotListed) g v = v
lawful_of id t d (Ok replies.NotWaiting) g v = v
lawful_of id t d (Ok replies.Departed) g v = v
lawful_of id t d (Err refusals.Full) g v = (d, g)
lawful_of id t d (Err refusals.Twice) g v = (d, g)
lawful_of id t d (Err refusals.Enomem) g v = (d, g)
lawful_of id t d (Err (refusals.Busy seen)) g v = (d, g, v)
lawful_of id t d (Err refusals.Eperm) g v = absurd v
lawful_of id t d (Err (refusals.Einval k)) g v = absurd v
lawful_of id t d (Err refusals.Esrch) g v = absurd v
lawful_of id t d (Err (refusals.Stale p)) g v = absurd v
lawful_of id t d (Err refusals.SameDomain) g v = absurd v

-- ---- the piece in hand

nobody : {P : Type 0} → false ≡ true → P
nobody e = absurd cc

-- a call that left no blank is none that had to leave one
pub none_kept : (ask : Ask) (answer : Answer) (hand : Option BlankView) → NoneIsKept ask answer None → NoneIsKept ask answer hand
none_kept (asks.Admit prepared ticket) (Ok replies.Admitted) hand given = tt
none_kept (asks.Admit prepared ticket) (Ok (replies.Busy seen)) hand given = nobody given.1
none_kept (asks.Admit prepared ticket) (Ok replies.Changed) hand given = nobody given.1
none_kept (asks.Admit prepared ticket) (Ok replies.Woken) hand given = nobody given.1
none_kept (asks.Admit prepared ticket) (Ok replies.Left) hand given = nobody given.1
none_kept (asks.Admit prepared ticket) (Ok (replies.Done n)) hand given = nobody given.1
none_kept (asks.Admit prepared ticket) (Ok replies.Set) hand given = nobody given.1
none_kept (asks.Admit prepared ticket) (Ok replies.Full) hand given = nobody given.1
none_kept (asks.Admit prepared ticket) (Ok replies.Twice) hand given = nobody given.1
none_kept (asks.Admit prepared ticket) (Ok replies.NotListed) hand given = nobody given.1
none_kept (asks.Admit prepared ticket) (Ok replies.NotWaiting) hand given = nobody given.1
none_kept (asks.Admit prepared ticket) (Ok replies.Departed) hand given = nobody given.1
none_kept (asks.Admit prepared ticket) (Err refusal) hand given = nobody given.1
none_kept (asks.Regrade number params) answer hand given = tt
none_kept (asks.Wake number) answer hand given = tt
none_kept (asks.Leave number) answer hand given = tt
none_kept (asks.Limit piece limit) answer hand given = nobody given

-- and what it came to says nothing of it
pub done_anyhow : (id : SessionId) (d : ℕ) (p q : PassView Entry) (ask : Ask) (answer : Answer) (hand : Option BlankView) → IsDone id d p q ask answer None → NoneIsKept ask answer None → IsDone id d p q ask answer hand
done_anyhow id d p q (asks.Admit prepared ticket) answer hand done given = done
done_anyhow id d p q (asks.Regrade number params) answer hand done given = done
done_anyhow id d p q (asks.Wake number) answer hand done given = done
done_anyhow id d p q (asks.Leave number) answer hand done given = done
done_anyhow id d p q (asks.Limit piece limit) answer hand done given = nobody given

-- ---- what a client makes

-- nothing
pub makes_nothing : (c c' : ClientView) → c'.number ≡ c.number → c'.passes ≡ c.passes → Makes c c' (λ d. [])
makes_nothing c c' number passes = record {
  number = number;
  domains = ap length passes;
  passes = λ d inside. ap (λ (ps : List (List Entry)). slice_index_or ps d []) passes ∙ sym (append-nil (client_pass_in c d));
}

neither : (b : Bool) → cond {A = Option Made} b None None ≡ None
neither true = refl
neither false = refl

pub refused_makes : (c c' : ClientView) (d : ℕ) (call : Call) (r : Refusal) → c'.number ≡ c.number → c'.passes ≡ c.passes → Makes c c' (made_by d call (Err r))
refused_makes c c' d call r number passes =
    let m = makes_nothing c c' number passes in
    record { number = m.number; domains = m.domains; passes = λ e inside. rw (neither (eqb d e)) (m.passes e inside) }

refused_at : (e : ℕ) (o : Option ℕ) (call : Call) (r : Refusal) → made_at e o call (Err r) ≡ None
refused_at e None call r = refl
refused_at e (Some d) call r = neither (eqb d e)

-- what was made for a list of one task
pub makes_one : (id : SessionId) (c c' : ClientView) (t : TaskSpecView) (d : ℕ) (answer : Answer) → domain_with_cpus id.cpu_sets t.cpus ≡ Some d → Makes c c' (made_by d (admit_call t) answer) → Makes c c' (λ e. made_in id e (record { task = t; answer = answer } ∷ []))
makes_one id c c' t d answer is m =
    subst (λ (o : Option ℕ). Makes c c' (λ e. cons_option (made_at e o (admit_call t) answer) [])) (sym is) m

-- at one place
entered : (number : ℕ) (p q : PassView Entry) (call : Call) (answer : Answer) → p.client ≡ number → q ≡ pass_after p call answer
    → q.entries ≡ p.entries ++ entries_from number (length p.entries) (cons_option (made_of call answer) [])
entered number p q call (Ok reply) client is = ap (λ (r : PassView Entry). r.entries) is ∙ ap (λ (n : ℕ). p.entries ++ record { client = n; seq = length p.entries; call = call; reply = Some reply } ∷ []) client
entered number p q call (Err refusal) client is = ap (λ (r : PassView Entry). r.entries) is ∙ sym (append-nil p.entries)

entries_at : (ps : List (PassView Entry)) (e : ℕ) (x : PassView Entry) → e < length ps → slice_index_or (map (λ (p : PassView Entry). p.entries) ps) e [] ≡ (get_or ps e x).entries
entries_at ps e x inside = get_or-map (λ (p : PassView Entry). p.entries) ps e x [] inside

at_place : (b : Bool) (number : ℕ) (ps : List (PassView Entry)) (d e : ℕ) (x q : PassView Entry) (call : Call) (answer : Answer)
    → eqb d e ≡ b → d < length ps → (get_or ps d x).client ≡ number → q ≡ pass_after (get_or ps d x) call answer
    → (get_or (set ps d q) e x).entries
    ≡ (get_or ps e x).entries ++ entries_from number (length (get_or ps e x).entries) (cons_option (cond b (made_of call answer) None) [])
at_place true number ps d e x q call answer is inside client becomes =
    let same : d ≡ e = eqb-true d e is in
    subst
    (λ (k : ℕ). (get_or (set ps d q) k x).entries ≡ (get_or ps k x).entries ++ entries_from number (length (get_or ps k x).entries) (cons_option (made_of call answer) []))
    same
    (ap (λ (r : PassView Entry). r.entries) (get_or-set_same ps d q x inside) ∙ entered number (get_or ps d x) q call answer client becomes)
at_place false number ps d e x q call answer is inside client becomes =
    let other : e ≢ d = λ same. eqb-false d e is (sym same) in
    ap (λ (r : PassView Entry). r.entries) (get_or-set_other ps d e q x other) ∙ sym (append-nil (get_or ps e x).entries)

-- a client whose pass of one place has made a call
pub makes_at : (c c' : ClientView) (ps : List (PassView Entry)) (d : ℕ) (x q : PassView Entry) (call : Call) (answer : Answer)
    → c.passes ≡ map (λ (p : PassView Entry). p.entries) ps → c'.passes ≡ map (λ (p : PassView Entry). p.entries) (set ps d q) → c'.number ≡ c.number
    → d < length ps → (get_or ps d x).client ≡ c.number → q ≡ pass_after (get_or ps d x) call answer
    → Makes c c' (made_by d call answer)
makes_at c c' ps d x q call answer old new number inside client becomes = record {
  number = number;
  domains = ap length new ∙ length-map (set ps d q) _ ∙ length-set ps d q ∙ sym (length-map ps _) ∙ sym (ap length old);
  passes = λ e there.
      let here : e < length ps = omega (arith, there, ap length old, length-map ps (λ (p : PassView Entry). p.entries)) in
      let here' : e < length (set ps d q) = omega (arith, here, length-set ps d q) in
      let was : client_pass_in c e ≡ (get_or ps e x).entries = ap (λ (l : List (List Entry)). slice_index_or l e []) old ∙ entries_at ps e x here in
      let is : client_pass_in c' e ≡ (get_or (set ps d q) e x).entries = ap (λ (l : List (List Entry)). slice_index_or l e []) new ∙ entries_at (set ps d q) e x here' in
      is ∙ subst (λ (l : List Entry). (get_or (set ps d q) e x).entries ≡ l ++ entries_from c.number (length l) (cons_option (cond (eqb d e) (made_of call answer) None) [])) (sym was) (at_place (eqb d e) c.number ps d e x q call answer refl inside client becomes);
}

-- a call that was refused left nothing
pub made_nothing : (c c' : ClientView) (d : ℕ) (call : Call) (r : Refusal) → Makes c c' (made_by d call (Err r)) → Makes c c' (λ e. [])
made_nothing c c' d call r m = record {
  number = m.number;
  domains = m.domains;
  passes = λ e inside. subst (λ (o : Option Made). client_pass_in c' e ≡ client_pass_in c e ++ entries_from c.number (length (client_pass_in c e)) (cons_option o [])) (neither (eqb d e)) (m.passes e inside);
}

-- a call that left a blank is none that leaves none
pub hand_taken : (ask : Ask) (blank : Option BlankView) (b : BlankView) (hand next : Option BlankView) → LeavesNoBlank ask blank → blank ≡ Some b → KeepsHand ask hand next
hand_taken (asks.Admit prepared ticket) blank b hand next none is = tt
hand_taken (asks.Limit piece limit) blank b hand next none is = tt
hand_taken (asks.Regrade number params) blank b hand next none is = absurd cc
hand_taken (asks.Wake number) blank b hand next none is = absurd cc
hand_taken (asks.Leave number) blank b hand next none is = absurd cc

pub hand_same : (ask : Ask) (hand next : Option BlankView) → next ≡ hand → KeepsHand ask hand next
hand_same (asks.Admit prepared ticket) hand next same = tt
hand_same (asks.Limit piece limit) hand next same = tt
hand_same (asks.Regrade number params) hand next same = same
hand_same (asks.Wake number) hand next same = same
hand_same (asks.Leave number) hand next same = same

-- whatever a client asked for under the lock of a domain
pub done_for : (id : SessionId) (d : ℕ) (c e : ClientView) (p q : PassView Entry) (ask : Ask) (answer : Answer) → part_with p ≡ part_in c d
    → ((call : Call) (a : Answer) → q ≡ pass_after p call a → Makes c e (made_by d call a))
    → IsDone id d p q ask answer e.hand → NoneIsKept ask answer e.hand → WasSeenFor id d (part_with p) ask answer → KeepsHand ask c.hand e.hand → IsDoneFor id d c e ask answer
done_for id d c e p q (asks.Admit prepared ticket) answer same m done given seen keeps =
    (m (admission prepared) answer done.pass, done.verdict, given, subst (λ (x : ClientPart). AdmissionWasSeen id d x (admission prepared) answer) same seen)
done_for id d c e p q (asks.Regrade number params) answer same m done given seen keeps = (
  record {
    word = done.word;
    made = m (calls.Regrade number params done.word) answer done.replied.pass;
    reply = subst (λ (x : ClientPart). IfOk answer (IsRegradeReply id d x number params done.word)) same done.reply;
  },
  done.replied.full,
  keeps,
  subst (λ (x : ClientPart). RefusalWasSeen id d x answer) same seen,
)
done_for id d c e p q (asks.Wake number) answer same m done given seen keeps =
    (m (calls.Wake number) answer done.pass, done.full, keeps, subst (λ (x : ClientPart). AnswerWasSeen id d x (calls.Wake number) answer) same seen)
done_for id d c e p q (asks.Leave number) answer same m done given seen keeps =
    (m (calls.Leave number) answer done.pass, done.full, keeps, subst (λ (x : ClientPart). AnswerWasSeen id d x (calls.Leave number) answer) same seen)
done_for id d c e p q (asks.Limit piece limit) answer same m done given seen keeps = (
  record {
    word = done.word;
    made = m (calls.Limit limit done.word) answer done.replied.pass;
    reply = subst (λ (x : ClientPart). IfOk answer (IsLimitReply id d x limit piece done.word e.hand)) same done.reply;
    unasked = done.unasked;
  },
  done.replied.full,
  subst (λ (x : ClientPart). RefusalWasSeen id d x answer) same seen,
)

-- an advance of a domain under its lock
pub advanced_for : (id : SessionId) (d : ℕ) (c e : ClientView) (p q : PassView Entry) (n : ℕ) (answer : Answer) → RefusalWasSeen id d (part_in c d) answer
    → ((call : Call) (a : Answer) → q ≡ pass_after p call a → Makes c e (made_by d call a))
    → IsAdvancedBy p q n answer → e.hand ≡ c.hand → IsAdvancedFor id d c e n answer
advanced_for id d c e p q n (Ok (replies.Done ticks)) seen m done same =
    (record { some = done.some; most = done.most; made = m (calls.Advance ticks) (Ok (replies.Done ticks)) done.pass }, tt, same, tt)
advanced_for id d c e p q n (Ok replies.Admitted) seen m done same = absurd done
advanced_for id d c e p q n (Ok replies.Changed) seen m done same = absurd done
advanced_for id d c e p q n (Ok replies.Woken) seen m done same = absurd done
advanced_for id d c e p q n (Ok replies.Left) seen m done same = absurd done
advanced_for id d c e p q n (Ok replies.Set) seen m done same = absurd done
advanced_for id d c e p q n (Ok replies.Full) seen m done same = absurd done
advanced_for id d c e p q n (Ok replies.Twice) seen m done same = absurd done
advanced_for id d c e p q n (Ok (replies.Busy k)) seen m done same = absurd done
advanced_for id d c e p q n (Ok replies.NotListed) seen m done same = absurd done
advanced_for id d c e p q n (Ok replies.NotWaiting) seen m done same = absurd done
advanced_for id d c e p q n (Ok replies.Departed) seen m done same = absurd done
advanced_for id d c e p q n (Err refusals.Full) seen m done same = (made_nothing c e d (calls.Wake 0) refusals.Full (m (calls.Wake 0) (Err refusals.Full) done), tt, same, seen)
advanced_for id d c e p q n (Err refusals.Enomem) seen m done same = (made_nothing c e d (calls.Wake 0) refusals.Full (m (calls.Wake 0) (Err refusals.Full) done), tt, same, seen)
advanced_for id d c e p q n (Err refusals.Eperm) seen m done same = absurd done
advanced_for id d c e p q n (Err refusals.Twice) seen m done same = absurd done
advanced_for id d c e p q n (Err (refusals.Einval k)) seen m done same = absurd done
advanced_for id d c e p q n (Err refusals.Esrch) seen m done same = absurd done
advanced_for id d c e p q n (Err (refusals.Stale now)) seen m done same = absurd done
advanced_for id d c e p q n (Err refusals.SameDomain) seen m done same = absurd done
advanced_for id d c e p q n (Err (refusals.Busy k)) seen m done same = absurd done

-- ---- a change of the limit

only_full : (id : SessionId) (d : ℕ) (part : ClientPart) (refusal : Refusal) → RefusesOnlyFull (Err refusal) → RefusalWasSeen id d part (Err refusal) → SawFull id d part
only_full id d part refusals.Full only seen = seen
only_full id d part refusals.Enomem only seen = absurd only
only_full id d part refusals.Eperm only seen = absurd only
only_full id d part refusals.Twice only seen = absurd only
only_full id d part refusals.Esrch only seen = absurd only
only_full id d part refusals.SameDomain only seen = absurd only
only_full id d part (refusals.Einval k) only seen = absurd only
only_full id d part (refusals.Stale now) only seen = absurd only
only_full id d part (refusals.Busy n) only seen = absurd only

hand_unasked : (id : SessionId) (d : ℕ) (part : ClientPart) (hand next : Option BlankView) (piece : BlankView) (answer : Answer)
    → piece ≡ blank_or_new id.gate hand → RefusesOnlyFull answer → RefusalWasSeen id d part answer → IfErr answer (λ _. next ≡ Some piece) → IfErr answer (λ _. IsHandUnasked id d part hand next)
hand_unasked id d part hand next piece (Ok reply) is only seen same = tt
hand_unasked id d part hand next piece (Err refusal) is only seen same =
    subst (λ (h : Option BlankView). IsHandUnasked id d part hand h) (sym same) (is, only_full id d part refusal only seen)

-- by a piece that was found for it
pub limit_made : (id : SessionId) (c e : ClientView) (d limit : ℕ) (piece : BlankView) (answer : Answer) → piece ≡ blank_or_new id.gate c.hand
    → MakesLimitWith id (record c { hand = None }) e d limit piece answer → RefusesOnlyFull answer → RefusalWasSeen id d (part_in c d) answer → MakesLimit id c e d limit answer
limit_made id c e d limit piece answer is m only seen = record {
  word = m.word;
  made = record { number = m.made.number; domains = m.made.domains; passes = m.made.passes };
  reply = subst (λ (b : BlankView). IfOk answer (IsLimitReply id d (part_in c d) limit b m.word e.hand)) is m.reply;
  unasked = hand_unasked id d (part_in c d) c.hand e.hand piece answer is only seen m.unasked;
}

-- without one
pub limit_unmade : (id : SessionId) (c : ClientView) (d limit : ℕ) → c.hand ≡ None → MakesLimit id c (record c { hand = None }) d limit (Err refusals.Full)
limit_unmade id c d limit none = record {
  word = None;
  made = refused_makes c (record c { hand = None }) d (calls.Limit limit None) refusals.Full refl refl;
  reply = tt;
  unasked = none;
}

-- ---- admissions

-- a task that is admitted nowhere
nothing_seen : (id : SessionId) (d : ℕ) (part : ClientPart) (call : Call) (next : Option BlankView) (r : Refusal) → IsOfTask r → EntryWasSeen id d part call (Err r) next
nothing_seen id d part call next (refusals.Einval k) of = tt
nothing_seen id d part call next refusals.Eperm of = tt
nothing_seen id d part call next refusals.Full of = absurd of
nothing_seen id d part call next refusals.Twice of = absurd of
nothing_seen id d part call next refusals.Enomem of = absurd of
nothing_seen id d part call next (refusals.Busy n) of = absurd of
nothing_seen id d part call next refusals.Esrch of = absurd of
nothing_seen id d part call next (refusals.Stale now) of = absurd of
nothing_seen id d part call next refusals.SameDomain of = absurd of

refused_nowhere : (id : SessionId) (c : ClientView) (t : TaskSpecView) (r : Refusal) → Makes c c (λ d. made_in id d (record { task = t; answer = Err r } ∷ []))
refused_nowhere id c t r = record {
  number = refl;
  domains = refl;
  passes = λ e inside. rw (refused_at e (domain_with_cpus id.cpu_sets t.cpus) (admit_call t) r) (sym (append-nil (client_pass_in c e)));
}

pub refused_asks : (id : SessionId) (c : ClientView) (t : TaskSpecView) (r : Refusal) → IsOfTask r → IsLawful id t (Err r) → IsHandAfter id t c.hand (Err r) c.hand
    → Asks id c c (record { task = t; answer = Err r } ∷ [])
refused_asks id c t r of lawful same = record {
  lawful = All-cons (λ q. IsLawful id q.task q.answer) _ [] lawful (All-nil (λ q. IsLawful id q.task q.answer));
  made = refused_nowhere id c t r;
  hand = (c.hand, same, refl);
  turns = (c, record { made = refused_nowhere id c t r; hand = same; seen = λ d goes. nothing_seen id d (part_in c d) (admit_call t) c.hand r of }, refl);
}

-- the domain to which a task goes
pub goes_to : (id : SessionId) (t : TaskSpecView) (p : ParamsView) (d : ℕ) → accepted t.attr ≡ Ok p → domain_with_cpus id.cpu_sets t.cpus ≡ Some d → Goes id t d
goes_to id t p d checked is = record { checked = subst (λ (q : ParamsView). accepted t.attr ≡ Ok q) (accepted_is t.attr p checked) checked; domain = is }

-- what is in hand after the answer to a task that goes to a domain
pub hand_after : (id : SessionId) (t : TaskSpecView) (d : ℕ) (hand : Option BlankView) (answer : Answer) (next : Option BlankView) → Goes id t d
    → IsEntryVerdict (length (cpu_set_of id d)) (params_of t.attr).bw answer → AsksGate id.gate d (params_of t.attr).bw hand answer next → IsHandAfter id t hand answer next
hand_after id t d hand (Ok reply) next g v h = (d, g, h)
hand_after id t d hand (Err refusals.Full) next g v h = (d, g, h)
hand_after id t d hand (Err refusals.Twice) next g v h = (d, g, h)
hand_after id t d hand (Err refusals.Enomem) next g v h = (d, g, h)
hand_after id t d hand (Err (refusals.Busy seen)) next g v h = (d, g, h)
hand_after id t d hand (Err refusals.Eperm) next g v h = absurd v
hand_after id t d hand (Err (refusals.Einval k)) next g v h = absurd v
hand_after id t d hand (Err refusals.Esrch) next g v h = absurd v
hand_after id t d hand (Err (refusals.Stale p)) next g v h = absurd v
hand_after id t d hand (Err refusals.SameDomain) next g v h = absurd v

-- the answer to a task that goes to a domain
pub asks_one : (id : SessionId) (c c' : ClientView) (t : TaskSpecView) (d : ℕ) (answer : Answer) → Goes id t d
    → Makes c c' (made_by d (admit_call t) answer) → IsEntryVerdict (length (cpu_set_of id d)) (params_of t.attr).bw answer → AsksGate id.gate d (params_of t.attr).bw c.hand answer c'.hand
    → EntryWasSeen id d (part_in c d) (admit_call t) answer c'.hand
    → Asks id c c' (record { task = t; answer = answer } ∷ [])
asks_one id c c' t d answer goes m verdict asks seen = record {
  lawful = All-cons (λ q. IsLawful id q.task q.answer) _ [] (lawful_of id t d answer goes verdict) (All-nil (λ q. IsLawful id q.task q.answer));
  made = makes_one id c c' t d answer goes.domain m;
  hand = (c'.hand, hand_after id t d c.hand answer c'.hand goes verdict asks, refl);
  turns = (
    c',
    record {
      made = makes_one id c c' t d answer goes.domain m;
      hand = hand_after id t d c.hand answer c'.hand goes verdict asks;
      seen = λ e goes_e.
          subst (λ (k : ℕ). EntryWasSeen id k (part_in c k) (admit_call t) answer c'.hand) (same_Some d e (sym goes.domain ∙ goes_e.domain)) seen;
    },
    refl,
  );
}

last_of_more : (found : List Found) (d n : ℕ) → last_word_found (found ++ found_in d (n ∷ [])) ≡ n
last_of_more [] d n = refl
last_of_more (x ∷ []) d n = refl
last_of_more (x ∷ y ∷ found) d n = last_of_more (y ∷ found) d n

-- a refused try found its word last
pub last_seen : (b : BlankView) (d bw : ℕ) (back : BlankView) (word seen : ℕ) → IsTake b d bw (takes.Refused back word) → seen ≡ used_of word → used_of (last_word_found back.found) ≡ seen
last_seen b d bw back word seen t is = ap (λ (v : BlankView). used_of (last_word_found v.found)) t.last.blank ∙ ap used_of (last_of_more (b.found ++ found_in d (words_of t.races)) d word) ∙ sym is

-- and the cap that this word carries leaves no room
pub gate_over : (cpus : ℕ) (b : BlankView) (d bw : ℕ) (back : BlankView) (word seen : ℕ) → gate_cpus b.gate d ≡ cpus → IsTake b d bw (takes.Refused back word) → seen ≡ used_of word → IsOverCap cpus bw seen
gate_over cpus b d bw back word seen same t is =
    subst (IsOverCap cpus bw) (sym is)
    (record {
      cap = cap_of word;
      a_cap = subst (λ (n : ℕ). IsCap n (cap_of word)) same t.last.word.cap;
      within = t.last.word.within;
      above = t.last.over;
    })

pub gate_refused : (b : BlankView) (d bw : ℕ) (back : BlankView) (word seen : ℕ) → IsTake b d bw (takes.Refused back word) → seen ≡ used_of word → IsGateRefusal b d bw seen back
gate_refused b d bw back word seen t is = record { word = word; used = sym is; refused = t }
