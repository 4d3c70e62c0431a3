-- What a step within a domain does to the law.
use Rattle.std.proofs.Common.{◌≡◌, ◌≤◌, ◌+◌, ◌-◌, ℕ, Bool, true, false, not, List, [], ◌∷◌, ◌++◌, map, Option, Some, None, refl, sym, ap, ◌∙◌, subst, ⊎_elim, arith, eq-eqb}
use Rattle.std.specs.Prelude.{◌==◌}
use Rattle.std.specs.List.{count_by, filter}
use Rattle.std.proofs.lemmas.Bool.{eqb-true, cases_Bool}
use Rattle.std.proofs.lemmas.Bool.Decides.{nat_tests}
use Rattle.std.proofs.lemmas.List.Sums.{sum_by_push, fold_push}
use Rattle.bw_world.specs.declared.book.Change.{Change}
use Rattle.bw_world.specs.declared.book.Change.TheVariants.{Entered, Regraded, Released}
use Rattle.bw_world.specs.declared.step.Outcome.{Outcome}
use Rattle.bw_world.specs.declared.step.Word.{Word}
use Rattle.bw_world.specs.declared.ticket.Ticket.{Ticket}
use Rattle.bw_world.specs.declared.ticket.Task.{Task}
use Rattle.bw_world.specs.WorldView.{DomainView}
use Rattle.bw_world.specs.DomainStep.{in_hand_of, admitted_of, is_admitted, refusal_of, limit_refusal_of, limited, step_unless_refused, with_bw, task_with_bw, without, taken, regraded, regraded_found, given, given_found, entered, entered_with, entered_found, released, released_found}
use Rattle.bw_world.specs.ExactWord.{IsExactDomain, tasks_after_changes, after_change, numbered_with_bw, live_in}
use Rattle.bw_world.proofs.Counted.{one_if, none_counted, sum_by-without, sum_by-changed, count_by-changed, one_kept, one_changed, found_passes}

-- the domain is exact, and no id is live more often than before
pub record Keeps (d e : DomainView) : Type 0 where
  pub exact : IsExactDomain e
  pub ids : (id : ℕ) → live_in id e ≤ live_in id d

-- no id is live twice within the domain
abbrev pub IsSingle : DomainView → Type 0
IsSingle d = (id : ℕ) → live_in id d ≤ 1

stays_kept : (d : DomainView) → IsExactDomain d → Keeps d d
stays_kept d exact = record { exact = exact; ids = λ id. omega arith }

-- where an exchange is granted, the wanted word is within the cap
room : (expected : Word) (wanted : ℕ) (d : DomainView) → refusal_of expected wanted d ≡ None → wanted ≤ d.cap
room expected wanted d none = grind (arith, nat_tests)

unless_kept : (d changed : DomainView) (refusal : Option Outcome) → IsExactDomain d → (refusal ≡ None → Keeps d changed) → Keeps d (step_unless_refused d refusal changed).domain
unless_kept d changed None exact kept = kept refl
unless_kept d changed (Some outcome) exact kept = stays_kept d exact

-- the book that has one change more
told_more : (changes : List Change) (change : Change) → tasks_after_changes (changes ++ change ∷ []) ≡ after_change (tasks_after_changes changes) change
told_more changes change = fold_push after_change [] changes change

-- Give
given_kept : (id : ℕ) (d : DomainView) (found : Option Ticket) → IsExactDomain d → IsSingle d → in_hand_of id d ≡ found → Keeps d (given_found id d found).domain
given_kept id d None exact ids is = stays_kept d exact
given_kept id d (Some t) exact ids is =
    let one : count_by (λ (x : Ticket). x.id == id) d.in_hand ≤ 1 = omega (arith, ids id) in
    record {
      exact = record {
        sum = omega (arith, exact.sum, sum_by-without (λ (x : Ticket). x.bw) (λ x. x.id == id) d.in_hand t one is);
        capped = omega (arith, exact.capped);
        book = exact.book;
        numbers = exact.numbers;
      };
      ids = λ other. omega (arith, sum_by-without (λ (x : Ticket). one_if (x.id == other)) (λ x. x.id == id) d.in_hand t one is);
    }

pub give_keeps : (id : ℕ) (d : DomainView) → IsExactDomain d → IsSingle d → Keeps d (given id d).domain
give_keeps id d exact ids = given_kept id d (in_hand_of id d) exact ids refl

-- Regrade
with_bw-id : (id bw : ℕ) (t : Ticket) → (with_bw id bw t).id ≡ t.id
with_bw-id id bw t = grind (arith, nat_tests)

task_with_bw-ticket : (id bw : ℕ) (t : Task) → (task_with_bw id bw t).ticket ≡ t.ticket
task_with_bw-ticket id bw t = grind (arith, nat_tests)

task_with_bw-number : (id bw : ℕ) (t : Task) → (task_with_bw id bw t).number ≡ t.number
task_with_bw-number id bw t = grind (arith, nat_tests)

regraded_in_hand_kept : (id bw : ℕ) (d : DomainView) (t : Ticket) → IsExactDomain d → IsSingle d → in_hand_of id d ≡ Some t → d.used - t.bw + bw ≤ d.cap → Keeps d (record d { used = d.used - t.bw + bw; in_hand = map (with_bw id bw) d.in_hand })
regraded_in_hand_kept id bw d t exact ids is within =
    let one : count_by (λ (x : Ticket). x.id == id) d.in_hand ≤ 1 = omega (arith, ids id) in
    record {
      exact = record {
        sum = omega (arith, exact.sum, sum_by-without (λ (x : Ticket). x.bw) (λ x. x.id == id) d.in_hand t one is, sum_by-changed (λ (x : Ticket). x.bw) (λ x. x.id == id) (λ x. record x { bw = bw }) d.in_hand t one is);
        capped = within;
        book = exact.book;
        numbers = exact.numbers;
      };
      ids = λ other. omega (arith, count_by-changed (λ (x : Ticket). x.id == other) (with_bw id bw) (λ x. ap (λ n. n == other) (with_bw-id id bw x)) d.in_hand);
    }

regraded_admitted_kept : (id bw : ℕ) (d : DomainView) (t : Task) → IsExactDomain d → IsSingle d → admitted_of id d ≡ Some t → d.used - t.bw + bw ≤ d.cap → Keeps d (record d { used = d.used - t.bw + bw; admitted = map (task_with_bw id bw) d.admitted; changes = d.changes ++ Regraded t.number bw ∷ [] })
regraded_admitted_kept id bw d t exact ids is within =
    let one : count_by (λ (x : Task). x.ticket == id) d.admitted ≤ 1 = omega (arith, ids id) in
    record {
      exact = record {
        sum = omega (arith, exact.sum, sum_by-without (λ (x : Task). x.bw) (λ x. x.ticket == id) d.admitted t one is, sum_by-changed (λ (x : Task). x.bw) (λ x. x.ticket == id) (λ x. record x { bw = bw }) d.admitted t one is);
        capped = within;
        book =
            one_changed (λ (x : Task). x.ticket == id) (λ x. x.number == t.number) (λ x. record x { bw = bw }) d.admitted t one (exact.numbers t.number) is (eq-eqb t.number t.number refl)
            ∙ ap (map (numbered_with_bw t.number bw)) exact.book ∙ sym (told_more d.changes (Regraded t.number bw));
        numbers = λ number. omega (arith, exact.numbers number, count_by-changed (λ (x : Task). x.number == number) (task_with_bw id bw) (λ x. ap (λ n. n == number) (task_with_bw-number id bw x)) d.admitted);
      };
      ids = λ other. omega (arith, count_by-changed (λ (x : Task). x.ticket == other) (task_with_bw id bw) (λ x. ap (λ n. n == other) (task_with_bw-ticket id bw x)) d.admitted);
    }

regraded_kept : (id bw : ℕ) (expected : Word) (d : DomainView) (hand : Option Ticket) (task : Option Task) → IsExactDomain d → IsSingle d → in_hand_of id d ≡ hand → admitted_of id d ≡ task → Keeps d (regraded_found id bw expected d hand task).domain
regraded_kept id bw expected d (Some t) task exact ids is is' =
    unless_kept d _ (refusal_of expected (d.used - t.bw + bw) d) exact (λ none. regraded_in_hand_kept id bw d t exact ids is (room expected (d.used - t.bw + bw) d none))
regraded_kept id bw expected d None (Some t) exact ids is is' =
    unless_kept d _ (refusal_of expected (d.used - t.bw + bw) d) exact (λ none. regraded_admitted_kept id bw d t exact ids is' (room expected (d.used - t.bw + bw) d none))
regraded_kept id bw expected d None None exact ids is is' = stays_kept d exact

pub regrade_keeps : (id bw : ℕ) (expected : Word) (d : DomainView) → IsExactDomain d → IsSingle d → Keeps d (regraded id bw expected d).domain
regrade_keeps id bw expected d exact ids = regraded_kept id bw expected d (in_hand_of id d) (admitted_of id d) exact ids refl refl

-- Enter
count_push : {X : Type 0} (p : X → Bool) (xs : List X) (x : X) → count_by p (xs ++ x ∷ []) ≡ count_by p xs + one_if (p x)
count_push p xs x = sum_by_push (λ y. one_if (p y)) xs x

new_number : (number other : ℕ) (d : DomainView) → IsExactDomain d → is_admitted number d ≡ false → count_by (λ (x : Task). x.number == other) d.admitted + one_if (number == other) ≤ 1
new_number number other d exact absent =
    ⊎_elim
    (λ (yes : (number == other) ≡ true).
    let none = subst (λ n. count_by (λ (x : Task). x.number == n) d.admitted ≡ 0) (eqb-true number other yes) (none_counted (λ (x : Task). x.number == number) d.admitted absent) in
    omega (arith, none, ap one_if yes))
    (λ (no : (number == other) ≡ false). omega (arith, exact.numbers other, ap one_if no))
    (cases_Bool (number == other))

entered_kept_fresh : (id number : ℕ) (d : DomainView) (t : Ticket) → IsExactDomain d → IsSingle d → in_hand_of id d ≡ Some t → is_admitted number d ≡ false → Keeps d (record d { in_hand = without id d.in_hand; admitted = d.admitted ++ record { number = number; ticket = id; bw = t.bw } ∷ []; changes = d.changes ++ Entered number id t.bw ∷ [] })
entered_kept_fresh id number d t exact ids is absent =
    let one : count_by (λ (x : Ticket). x.id == id) d.in_hand ≤ 1 = omega (arith, ids id) in
    let same : t.id ≡ id = eqb-true t.id id (found_passes (λ (x : Ticket). x.id == id) d.in_hand t is) in
    let task : Task = record { number = number; ticket = id; bw = t.bw } in
    record {
      exact = record {
        sum = omega (arith, exact.sum, sum_by-without (λ (x : Ticket). x.bw) (λ x. x.id == id) d.in_hand t one is, sum_by_push (λ (x : Task). x.bw) d.admitted task);
        capped = exact.capped;
        book = ap (λ ts. ts ++ task ∷ []) exact.book ∙ sym (told_more d.changes (Entered number id t.bw));
        numbers = λ other. omega (arith, new_number number other d exact absent, count_push (λ (x : Task). x.number == other) d.admitted task);
      };
      ids = λ other. omega (arith, sum_by-without (λ (x : Ticket). one_if (x.id == other)) (λ x. x.id == id) d.in_hand t one is, count_push (λ (x : Task). x.ticket == other) d.admitted task, ap (λ n. one_if (n == other)) same);
    }

entered_with_kept : (id number : ℕ) (d : DomainView) (t : Ticket) → IsExactDomain d → IsSingle d → in_hand_of id d ≡ Some t → Keeps d (entered_with id number t.bw d).domain
entered_with_kept id number d t exact ids is =
    ⊎_elim
    (λ (yes : is_admitted number d ≡ true). rw yes (stays_kept d exact))
    (λ (no : is_admitted number d ≡ false). rw no (entered_kept_fresh id number d t exact ids is no))
    (cases_Bool (is_admitted number d))

entered_kept : (id number : ℕ) (d : DomainView) (found : Option Ticket) → IsExactDomain d → IsSingle d → in_hand_of id d ≡ found → Keeps d (entered_found id number d found).domain
entered_kept id number d None exact ids is = stays_kept d exact
entered_kept id number d (Some t) exact ids is = entered_with_kept id number d t exact ids is

pub enter_keeps : (id number : ℕ) (d : DomainView) → IsExactDomain d → IsSingle d → Keeps d (entered id number d).domain
enter_keeps id number d exact ids = entered_kept id number d (in_hand_of id d) exact ids refl

-- Release
released_kept : (id : ℕ) (d : DomainView) (found : Option Task) → IsExactDomain d → IsSingle d → admitted_of id d ≡ found → Keeps d (released_found id d found).domain
released_kept id d None exact ids is = stays_kept d exact
released_kept id d (Some t) exact ids is =
    let one : count_by (λ (x : Task). x.ticket == id) d.admitted ≤ 1 = omega (arith, ids id) in
    let same : t.ticket ≡ id = eqb-true t.ticket id (found_passes (λ (x : Task). x.ticket == id) d.admitted t is) in
    let ticket : Ticket = record { id = id; bw = t.bw } in
    record {
      exact = record {
        sum = omega (arith, exact.sum, sum_by-without (λ (x : Task). x.bw) (λ x. x.ticket == id) d.admitted t one is, sum_by_push (λ (x : Ticket). x.bw) d.in_hand ticket);
        capped = exact.capped;
        book =
            one_kept (λ (x : Task). x.ticket == id) (λ x. x.number == t.number) d.admitted t one (exact.numbers t.number) is (eq-eqb t.number t.number refl)
            ∙ ap (filter (λ (x : Task). not (x.number == t.number))) exact.book ∙ sym (told_more d.changes (Released t.number));
        numbers = λ other. omega (arith, exact.numbers other, sum_by-without (λ (x : Task). one_if (x.number == other)) (λ x. x.ticket == id) d.admitted t one is);
      };
      ids = λ other. omega (arith, sum_by-without (λ (x : Task). one_if (x.ticket == other)) (λ x. x.ticket == id) d.admitted t one is, count_push (λ (x : Ticket). x.id == other) d.in_hand ticket, ap (λ n. one_if (n == other)) same);
    }

pub release_keeps : (id : ℕ) (d : DomainView) → IsExactDomain d → IsSingle d → Keeps d (released id d).domain
release_keeps id d exact ids = released_kept id d (admitted_of id d) exact ids refl

-- Take: the new id is live once more
pub record KeepsButFor (id : ℕ) (d e : DomainView) : Type 0 where
  pub exact : IsExactDomain e
  pub ids : (other : ℕ) → live_in other e ≤ live_in other d + one_if (id == other)

taken_kept : (id bw : ℕ) (d : DomainView) (refusal : Option Outcome) → IsExactDomain d → (refusal ≡ None → d.used + bw ≤ d.cap) → KeepsButFor id d (step_unless_refused d refusal (record d { used = d.used + bw; in_hand = d.in_hand ++ record { id = id; bw = bw } ∷ [] })).domain
taken_kept id bw d (Some outcome) exact within = record { exact = exact; ids = λ other. omega arith }
taken_kept id bw d None exact within =
    let ticket : Ticket = record { id = id; bw = bw } in
    record {
      exact = record {
        sum = omega (arith, exact.sum, sum_by_push (λ (x : Ticket). x.bw) d.in_hand ticket);
        capped = within refl;
        book = exact.book;
        numbers = exact.numbers;
      };
      ids = λ other. omega (arith, count_push (λ (x : Ticket). x.id == other) d.in_hand ticket);
    }

pub take_keeps : (id bw : ℕ) (expected : Word) (d : DomainView) → IsExactDomain d → KeepsButFor id d (taken id bw expected d).domain
take_keeps id bw expected d exact = taken_kept id bw d (refusal_of expected (d.used + bw) d) exact (room expected (d.used + bw) d)

-- Limit
limit_room : (expected : Word) (cap : ℕ) (d : DomainView) → limit_refusal_of expected cap d ≡ None → d.used ≤ cap
limit_room expected cap d none = grind (arith, nat_tests)

pub limit_keeps : (cap : ℕ) (expected : Word) (d : DomainView) → IsExactDomain d → IsSingle d → Keeps d (limited cap expected d).domain
limit_keeps cap expected d exact ids =
    unless_kept d (record d { cap = cap }) (limit_refusal_of expected cap d) exact
    (λ none. record {
      exact = record { sum = exact.sum; capped = limit_room expected cap d none; book = exact.book; numbers = exact.numbers };
      ids = λ id. omega arith;
    })
