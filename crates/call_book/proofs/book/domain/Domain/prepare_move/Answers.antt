-- Terms stand here in place of searches, which take seconds.
use Rattle.std.proofs.Common.{◌≡◌, ℕ, ◌*◌, ◌/◌, ◌%◌, ◌^◌, Bool, true, false, not, ◌&&◌, cond, eqb, ltb, Option, Some, None, Ok, refl, sym, ap, subst, ◌∙◌, arith}
use Rattle.std.specs.Prelude.{option_map}
use Rattle.std.proofs.Math.Nat.{mul-div_cancel}
use Rattle.std.proofs.lemmas.Bool.{and_from, le-leb, lt-ltb, ne_eqb, eq-eqb}
use Rattle.attr_check.specs.declared.refusal.AttrRefusal.{AttrRefusal}
use Rattle.attr_check.specs.declared.refusal.AttrRefusal.TheVariants.{NotDeadline, UnknownFlag, TopBit, Small, Order, Grain, Long}
use Rattle.attr_check.specs.ParamsView.{ParamsView, IsOrdered}
use Rattle.attr_check.specs.Accepted.{unless_refused, first_refusal, passes, params_of, period_of}
use Rattle.domain_run.specs.declared.task.Task.{Task}
use Rattle.domain_run.specs.declared.call.Call.TheVariants as calls
use Rattle.domain_run.specs.declared.call.Reply.TheVariants as Reply
use Rattle.domain_run.specs.Domain.{Domain}
use Rattle.domain_run.specs.Calls.{depart_reply, task_of, reply_to}
use Rattle.domain_run.specs.Views.{Moving, moving_of, moving_in}
use Rattle.calls_text.specs.Limits.{IsChecked}
use Rattle.call_book.specs.Book.{BookView, AdmissionView, state_of}
use Rattle.call_book.specs.MoveAnswers.{moving_as}
use Rattle.calls_text.proofs.CallerLemmas.{attr_at, times_of}
use Rattle.call_book.proofs.Moves.{may_depart}
use Rattle.call_book.proofs.book.domain.Domain.prepare_move.Goals as goal

next_test : (b : Bool) (x : AttrRefusal) (o : Option AttrRefusal) → b ≡ true → o ≡ None → cond (not b) (Some x) o ≡ None
next_test true x o e more = more
next_test false x o e more = absurd cc

flag_known : (reclaim : Bool) → ltb (cond reclaim 2 0) 8 ≡ true
flag_known true = refl
flag_known false = refl

flag_kept : (reclaim : Bool) → eqb (cond reclaim 2 0 / 2 % 2) 1 ≡ reclaim
flag_kept true = refl
flag_kept false = refl

all_three : (x y z : Bool) → x ≡ true → y ≡ true → z ≡ true → (x && y && z) ≡ true
all_three x y z a b c = rw (a, b, c) refl

whole : (n : ℕ) → eqb (n * 1000 % 1000) 0 ≡ true
whole n = eq-eqb _ _ (omega arith)

-- parameters in their order are those that the check gives for their own times
ordered_checked : (p : ParamsView) → IsOrdered p → IsChecked p
ordered_checked p is =
    let a = attr_at (times_of p) p.reclaim in
    let some = is.some_runtime in
    let first = is.runtime_first in
    let second = is.deadline_first in
    let short = is.short in
    let given : eqb (p.period * 1000) 0 ≡ false = ne_eqb _ _ (λ none. omega (arith, none)) in
    let period : period_of a ≡ p.period * 1000 = rw given refl in
    let q = mul-div_cancel p.runtime {n = 1000} (omega arith) in
    let d = mul-div_cancel p.deadline {n = 1000} (omega arith) in
    let t = mul-div_cancel p.period {n = 1000} (omega arith) in
    let top : passes a TopBit ≡ true =
    all_three _ _ _ (lt-ltb (p.runtime * 1000) (2 ^ 63) (omega arith)) (lt-ltb (p.deadline * 1000) (2 ^ 63) (omega arith)) (lt-ltb (p.period * 1000) (2 ^ 63) (omega arith)) in
    let small : passes a Small ≡ true = le-leb 1024 (p.runtime * 1000) (omega arith) in
    let order : passes a Order ≡ true = and_from _ _ (le-leb (p.runtime * 1000) (p.deadline * 1000) (omega arith)) (rw given (le-leb (p.deadline * 1000) (p.period * 1000) (omega arith))) in
    let grain : passes a Grain ≡ true = all_three _ _ _ (whole p.runtime) (whole p.deadline) (rw given (whole p.period)) in
    let long : passes a Long ≡ true = rw (given, t) (le-leb p.period (2 ^ 32) short) in
    let none : first_refusal a ≡ None =
    next_test _ NotDeadline _ refl (next_test _ UnknownFlag _ (flag_known p.reclaim) (next_test _ TopBit _ top (next_test _ Small _ small (next_test _ Order _ order (next_test _ Grain _ grain (next_test _ Long _ long refl)))))) in
    let same : params_of a ≡ p = rw (given, q, d, t, flag_kept p.reclaim, ← is.share) refl in
    ap (unless_refused a) none ∙ ap (λ (x : ParamsView). Ok x) same

-- a task that has nothing to take along may not depart
may_not_depart : (d : Domain) (number : ℕ) → moving_in d number ≡ None → reply_to d (calls.Depart number) ≡ Reply.NotListed
may_not_depart d number e = by_task (task_of d number) e
  where
    by_task : (o : Option Task) → option_map moving_of o ≡ None → depart_reply o ≡ Reply.NotListed
    by_task None k = refl
    by_task (Some t) k = absurd cc

pub prepare-requires : goal.prepare-requires
prepare-requires c =
    let within = c.in-Some.ensures.within in
    record { numbered = c.requires.call; named = within.0; checked = ordered_checked c.in-Some.params.now within.1; soon = omega arith; scripted = within.2 }

pub returns-in_default-clause-fault : goal.returns-in_default-clause-fault
returns-in_default-clause-fault c =
    let same : c.self.inside.state ≡ state_of c.args.self.now = c.self.invariant.run ∙ ap (λ (b : BookView). state_of b) c.self.view_is in
    may_not_depart (state_of c.args.self.now) c.args.number (subst (λ (d : Domain). moving_in d c.args.number ≡ None) same (sym c.in_default.ensures.moving))

pub returns-in-Ok-clause-task : goal.returns-in-Ok-clause-task
returns-in-Ok-clause-task c =
    let same : c.self.inside.state ≡ state_of c.args.self.now = c.self.invariant.run ∙ ap (λ (b : BookView). state_of b) c.self.view_is in
    ap (λ (d : Domain). moving_in d c.args.number) (sym same) ∙ sym c.in-Some.ensures.moving ∙ ap (λ (a : AdmissionView). Some (moving_as a)) (sym c.in-Ok.ensures)

pub returns-in-Err-clause-fault : goal.returns-in-Err-clause-fault
returns-in-Err-clause-fault c =
    let same : c.self.inside.state ≡ state_of c.args.self.now = c.self.invariant.run ∙ ap (λ (b : BookView). state_of b) c.self.view_is in
    let task : Moving = record { name = c.in-Some.name.now; params = c.in-Some.params.now; script = c.in-Some.script.now } in
    may_depart (state_of c.args.self.now) c.args.number task (ap (λ (d : Domain). moving_in d c.args.number) (sym same) ∙ sym c.in-Some.ensures.moving)
