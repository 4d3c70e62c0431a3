-- Runs of admissions that are all granted, and of those among which some are refused.
use Rattle.std.proofs.Common.{◌≡◌, ◌≢◌, ℕ, Bool, true, false, cond, eqb, ◌||◌, Option, Some, None, List, [], ◌∷◌, map, refl, sym, ap, ◌∙◌, subst, arith, eq-eqb}
use Rattle.std.specs.Prelude.{All, IsTrue, filter}
use Rattle.std.specs.List.{list_any}
use Rattle.std.proofs.lemmas.List.Elements.{All-nil, All-head, All-tail, All-push, All-weaker}
use Rattle.std.proofs.lemmas.List.Quantifiers.{all_pairs_push}
use Rattle.std.proofs.lemmas.Bool.{or_left, or_right}
use Rattle.domain_run.specs.declared.task.Task.{Task}
use Rattle.domain_run.specs.declared.call.Call.{Call}
use Rattle.domain_run.specs.declared.call.Reply.{Reply}
use Rattle.domain_run.specs.declared.call.Reply.TheVariants.{Admitted, Changed, Woken, Left, Done, Set, Departed, Full, Twice, Busy, NotListed, NotWaiting}
use Rattle.domain_run.specs.Domain.{Domain, empty_domain}
use Rattle.domain_run.specs.Calls.{with_number, reply_to, is_refusal, after_call}
use Rattle.domain_run.specs.Run.{after_calls, replies_to}
use Rattle.domain_run.proofs.CallerLemmas.{with_number_contains, granted_is}
use Rattle.domain_run.proofs.CallerLemmas.{refused_keeps}
use Rattle.domain_run.proofs.CallerLemmas.{AreNumbered}
use Rattle.calls_text.specs.declared.section.Entry.{Entry}
use Rattle.call_book.specs.Book.{AdmissionView, admission}
use Rattle.calls_text.specs.Histories.{calls_of}
use Rattle.calls_trace.specs.Replay.{named_by, names_after, names_of}
use Rattle.dl_session.specs.InOrder.{is_admitted_reply}
use Rattle.domain_run.proofs.CallerLemmas.{Reordered, ends, next, swaps, chain}
use Rattle.domain_run.proofs.CallerLemmas.{Alike}
use Rattle.dl_session.proofs.OrderAdmissions.{alike_itself, alike_more, task_from, with_admitted, admitted_as, named_as, as_reply, as_after, is_admission, two_calls, alike_call}

-- ---- all granted

abbrev pub AllAdmitted : Domain → List Call → Type 0
AllAdmitted d [] = Unit {0}
AllAdmitted d (c ∷ cs) = (reply_to d c ≡ Admitted) × AllAdmitted (after_call d c) cs

-- two runs of granted admissions that end alike
pub record EndAlike (d e : Domain) (xs ys : List Call) : Type 0 where
  pub admitted : AllAdmitted e ys
  pub alike : Alike (after_calls d xs) (after_calls e ys)
  pub named : (names : ℕ → List ℕ) → names_of d xs names ≡ names_of e ys names

same_named : (d e : Domain) (c : Call) (names : ℕ → List ℕ) → reply_to d c ≡ Admitted → reply_to e c ≡ Admitted → names_after d c names ≡ names_after e c names
same_named d e c names p q = named_as d c names p ∙ sym (named_as e c names q)

pub alike_run : (d e : Domain) (cs : List Call) → Alike d e → AllAdmitted d cs → EndAlike d e cs cs
alike_run d e [] alike all = record { admitted = tt; alike = alike; named = λ names. refl }
alike_run d e (c ∷ cs) alike all =
    let first = all.0 in
    let others : AllAdmitted (after_call d c) cs = all.1 in
    let step = alike_call d e c alike first in
    let rest = alike_run (after_call d c) (after_call e c) cs step.alike others in
    record {
      admitted = (step.reply, rest.admitted);
      alike = rest.alike;
      named = λ names. rest.named (names_after d c names) ∙ ap (names_of (after_call e c) cs) (same_named d e c names first step.reply);
    }

named_either : (d : Domain) (x y : Call) (names : ℕ → List ℕ) → reply_to d x ≡ Admitted → reply_to (after_call d x) y ≡ Admitted
    → names_after (after_call d x) y (names_after d x names) ≡ named_by y (named_by x names)
named_either d x y names one two = named_as (after_call d x) y (names_after d x names) two ∙ ap (named_by y) (named_as d x names one)

pub order_free : (d : Domain) (xs ys : List Call) → Reordered xs ys → AllAdmitted d xs → EndAlike d d xs ys
order_free d xs ys ends all = record { admitted = tt; alike = alike_itself d; named = λ names. refl }
order_free d xs ys (next c us vs r) all =
    let rest = order_free (after_call d c) us vs r all.1 in
    record { admitted = (all.0, rest.admitted); alike = rest.alike; named = λ names. rest.named (names_after d c names) }
order_free d xs ys (swaps x y us) all =
    let more : AllAdmitted (after_call d x) (y ∷ us) = all.1 in
    let others : AllAdmitted (after_call (after_call d x) y) us = more.1 in
    let two = two_calls d x y all.0 more.0 in
    let rest = alike_run (after_call (after_call d x) y) (after_call (after_call d y) x) us two.alike others in
    let both : AllAdmitted (after_call d y) (x ∷ us) = (two.second, rest.admitted) in
    record {
      admitted = (two.first, both);
      alike = rest.alike;
      named = λ names.
          rest.named (names_after (after_call d x) y (names_after d x names))
          ∙ ap (names_of (after_call (after_call d y) x) us) (named_either d x y names all.0 more.0 ∙ two.named names ∙ sym (named_either d y x names two.first two.second));
    }
order_free d xs ys (chain us vs ws r s) all =
    let one = order_free d us vs r all in
    let two = order_free d vs ws s one.admitted in
    record {
      admitted = two.admitted;
      alike = alike_more (after_calls d us) (after_calls d vs) (after_calls d ws) one.alike two.alike;
      named = λ names. one.named names ∙ two.named names;
    }

-- ---- numbers stay apart

-- no two tasks have one number, and each number was admitted
pub record IsListing (d : Domain) : Type 0 where
  pub numbered : AreNumbered d.tasks
  pub known : All (λ t. IsTrue (list_any (λ n. eqb n t.number) d.used)) d.tasks

pub opened_listing : (cpus limit : ℕ) → IsListing (empty_domain cpus limit)
opened_listing cpus limit = record {
  numbered = λ i j d less within. absurd (omega (arith, within));
  known = All-nil (λ (t : Task). IsTrue (list_any (λ n. eqb n t.number) []));
}

listing_with : (d : Domain) (a : AdmissionView) → IsListing d → list_any (λ n. eqb n a.number) d.used ≡ false → IsListing (with_admitted d a)
listing_with d a is fresh =
    let t = task_from d a in
    record {
      numbered = all_pairs_push (λ a b. a.number ≢ b.number) d.tasks t is.numbered
          (λ k x h e. let no : true ≡ false = sym (is.known k x h) ∙ ap (λ m. list_any (λ n. eqb n m) d.used) e ∙ fresh in absurd cc);
      known = All-push (λ t. IsTrue (list_any (λ n. eqb n t.number) (with_number a.number d.used))) d.tasks t
          (All-weaker (λ t. IsTrue (list_any (λ n. eqb n t.number) d.used)) (λ t. IsTrue (list_any (λ n. eqb n t.number) (with_number a.number d.used)))
          (λ x h. with_number_contains a.number x.number d.used ∙ or_right (eqb a.number x.number) (list_any (λ n. eqb n x.number) d.used) h) d.tasks is.known)
          (with_number_contains a.number a.number d.used ∙ or_left (eqb a.number a.number) (list_any (λ n. eqb n a.number) d.used) (eq-eqb a.number a.number refl));
    }

listing_call : (d : Domain) (c : Call) → IsListing d → reply_to d c ≡ Admitted → IsListing (after_call d c)
listing_call d c is one =
    let a = is_admission d c one in
    let granted_one : reply_to d (admission a.admission) ≡ Admitted = subst (λ (x : Call). reply_to d x ≡ Admitted) a.is (as_reply d c ∙ one) in
    let fresh = (granted_is d a.admission.number a.admission.params granted_one).fresh in
    subst IsListing (as_after d c)
    (subst (λ (x : Call). IsListing (after_call d x)) (sym a.is)
    (subst IsListing (sym (admitted_as d a.admission granted_one)) (listing_with d a.admission is fresh)))

pub listing_run : (d : Domain) (cs : List Call) → IsListing d → AllAdmitted d cs → IsListing (after_calls d cs)
listing_run d [] is all = is
listing_run d (c ∷ cs) is all = listing_run (after_call d c) cs (listing_call d c is all.0) all.1

-- ---- some are refused

abbrev pub was_admitted : Option Reply → Bool
was_admitted None = false
was_admitted (Some r) = is_admitted_reply r

-- an admission's reply: it was admitted, or refused
abbrev pub is_verdict : Option Reply → Bool
is_verdict None = false
is_verdict (Some r) = is_admitted_reply r || is_refusal r

-- the calls of a history that were admitted
abbrev pub granted_calls : List Entry → List Call
granted_calls entries = map (λ e. e.call) (filter (λ e. was_admitted e.reply) entries)

-- the run of these calls is that of the granted ones
pub record RunsAs (d : Domain) (calls gs : List Call) : Type 0 where
  pub admitted : AllAdmitted d gs
  pub state : after_calls d calls ≡ after_calls d gs
  pub named : (names : ℕ → List ℕ) → names_of d calls names ≡ names_of d gs names

granted_more : (d : Domain) (c : Call) (cs gs : List Call) → reply_to d c ≡ Admitted → RunsAs (after_call d c) cs gs → RunsAs d (c ∷ cs) (c ∷ gs)
granted_more d c cs gs one rest = record {
  admitted = (one, rest.admitted);
  state = rest.state;
  named = λ names. rest.named (names_after d c names);
}

refused_more : (d : Domain) (c : Call) (cs gs : List Call) → is_refusal (reply_to d c) ≡ true → RunsAs (after_call d c) cs gs → RunsAs d (c ∷ cs) gs
refused_more d c cs gs refused rest =
    let same = refused_keeps d c refused in
    record {
      admitted = subst (λ (x : Domain). AllAdmitted x gs) same rest.admitted;
      state = rest.state ∙ ap (λ (x : Domain). after_calls x gs) same;
      named = λ names.
          rest.named (names_after d c names)
          ∙ ap (λ (x : Domain). names_of x gs (names_after d c names)) same
          ∙ ap (names_of d gs) (ap (λ b. cond b names (named_by c names)) refused);
    }

pub admitted_is : (r : Reply) → is_admitted_reply r ≡ true → r ≡ Admitted
admitted_is Admitted e = refl
admitted_is Changed e = absurd cc
admitted_is Woken e = absurd cc
admitted_is Left e = absurd cc
admitted_is (Done n) e = absurd cc
admitted_is Set e = absurd cc
admitted_is Departed e = absurd cc
admitted_is Full e = absurd cc
admitted_is Twice e = absurd cc
admitted_is (Busy s) e = absurd cc
admitted_is NotListed e = absurd cc
admitted_is NotWaiting e = absurd cc

pub refused_else : (a b : Bool) → a ≡ false → (a || b) ≡ true → b ≡ true
refused_else true b e h = absurd cc
refused_else false b e h = h

abbrev pub LegalFrom : Domain → List Entry → Type 0
LegalFrom d entries = map (λ e. e.reply) entries ≡ map Some (replies_to d (calls_of entries))

pub granted_run : (d : Domain) (entries : List Entry) → All (λ e. is_verdict e.reply ≡ true) entries → LegalFrom d entries → RunsAs d (calls_of entries) (granted_calls entries)
granted_run d [] verdicts legal = record { admitted = tt; state = refl; named = λ names. refl }
granted_run d (e ∷ entries) verdicts legal =
    let first : e.reply ≡ Some (reply_to d e.call) = cc in
    let others : LegalFrom (after_call d e.call) entries = cc in
    let rest = granted_run (after_call d e.call) entries (All-tail (λ (x : Entry). is_verdict x.reply ≡ true) e entries verdicts) others in
    let verdict : is_verdict (Some (reply_to d e.call)) ≡ true = ap is_verdict (sym first) ∙ All-head (λ (x : Entry). is_verdict x.reply ≡ true) e entries verdicts in
    let left = filter (λ (x : Entry). was_admitted x.reply) entries in
    elim (was_admitted e.reply) as (λ b. was_admitted e.reply ≡ b → RunsAs d (e.call ∷ calls_of entries) (map (λ x. x.call) (cond b (e ∷ left) left))) [
      | true ↦ λ holds. granted_more d e.call (calls_of entries) (granted_calls entries) (admitted_is (reply_to d e.call) (ap was_admitted (sym first) ∙ holds)) rest
      | false ↦ λ fails. refused_more d e.call (calls_of entries) (granted_calls entries) (refused_else (is_admitted_reply (reply_to d e.call)) (is_refusal (reply_to d e.call)) (ap was_admitted (sym first) ∙ fails) verdict) rest
    ] refl
