-- What a step does within one domain (own). What is used of a word is the sum of bandwidths that
-- sched-deadline.rst, "Bandwidth management", compares with M * limit, the cap, when a task is
-- admitted.
use Rattle.std.specs.Prelude.{ℕ, Bool, not, ◌||◌, ◌&&◌, ◌==◌, nat_lt, if◌then◌else◌, ◌+◌, ◌-◌, List, [], ◌∷◌, ◌++◌, map, filter, find, Option, Some, None}
use Rattle.std.specs.List.{list_any}
use Rattle.bw_world.specs.declared.book.Change.TheVariants.{Entered, Regraded, Released}
use Rattle.bw_world.specs.declared.step.Outcome.{Outcome}
use Rattle.bw_world.specs.declared.step.Outcome.TheVariants.{Saw, Done, Over, Lost, Not}
use Rattle.bw_world.specs.declared.step.Word.{Word}
use Rattle.bw_world.specs.declared.ticket.Ticket.{Ticket}
use Rattle.bw_world.specs.declared.ticket.Task.{Task}
use Rattle.bw_world.specs.WorldView.{DomainView}

-- a domain before its first step
abbrev pub unused_domain : ℕ → DomainView
unused_domain cap = record { cap = cap; used = 0; in_hand = []; admitted = []; changes = [] }

-- the ticket in hand with this id
abbrev pub in_hand_of : ℕ → DomainView → Option Ticket
in_hand_of id d = find (λ t. t.id == id) d.in_hand

-- the admitted task that holds the ticket with this id
abbrev pub admitted_of : ℕ → DomainView → Option Task
admitted_of id d = find (λ t. t.ticket == id) d.admitted

-- some admitted task has this number
abbrev pub is_admitted : ℕ → DomainView → Bool
is_admitted number d = list_any (λ t. t.number == number) d.admitted

-- live: in a hand or in an admitted task
abbrev pub is_live_in : ℕ → DomainView → Bool
is_live_in id d = list_any (λ t. t.id == id) d.in_hand || list_any (λ t. t.ticket == id) d.admitted

-- the tickets, or the tasks, without the one of this id
abbrev pub without : ℕ → List Ticket → List Ticket
without id tickets = filter (λ t. not (t.id == id)) tickets

abbrev pub without_task : ℕ → List Task → List Task
without_task id tasks = filter (λ t. not (t.ticket == id)) tasks

-- the same, with a new bandwidth where it is the one of this id
abbrev pub with_bw : ℕ → ℕ → Ticket → Ticket
with_bw id bw t = if t.id == id then record t { bw = bw } else t

abbrev pub task_with_bw : ℕ → ℕ → Task → Task
task_with_bw id bw t = if t.ticket == id then record t { bw = bw } else t

-- the domain after a step, and the answer
pub record DomainStep : Type 0 where
  pub domain : DomainView
  pub outcome : Outcome

-- an answer that changes nothing
abbrev pub unchanged_step : DomainView → Outcome → DomainStep
unchanged_step d outcome = record { domain = d; outcome = outcome }

abbrev pub done : DomainView → DomainStep
done d = record { domain = d; outcome = Done }

-- the word: the cap, and what is used of it
abbrev pub word_in : DomainView → Word
word_in d = record { cap = d.cap; used = d.used }

-- the word is the one that the caller expects, in both parts
abbrev pub is_expected : Word → DomainView → Bool
is_expected expected d = (d.used == expected.used) && (d.cap == expected.cap)

-- why the used part is not exchanged for a wanted one: the word is not the expected one, else the
-- wanted one is above the cap. One equal to the cap is granted
abbrev pub refusal_of : Word → ℕ → DomainView → Option Outcome
refusal_of expected wanted d =
    if not (is_expected expected d) then Some (Lost (word_in d))
    else if nat_lt d.cap wanted then Some (Over (word_in d))
    else None

-- why the cap is not exchanged for another: the word is not the expected one, else more is used
-- than the other cap. A cap equal to what is used is granted. So a write to sched_rt_runtime_us is
-- answered, EBUSY where the tasks that are admitted would not fit (the knob and the inequality are
-- of sched-deadline.rst, "System wide settings", the EBUSY is of the kernel's
-- sched_dl_global_validate; that Lost comes first is our own)
abbrev pub limit_refusal_of : Word → ℕ → DomainView → Option Outcome
limit_refusal_of expected cap d =
    if not (is_expected expected d) then Some (Lost (word_in d))
    else if nat_lt cap d.used then Some (Over (word_in d))
    else None

-- the changed domain, unless the exchange is refused
abbrev pub step_unless_refused : DomainView → Option Outcome → DomainView → DomainStep
step_unless_refused d (Some outcome) changed = unchanged_step d outcome
step_unless_refused d None changed = done changed

-- Load
abbrev pub loaded : DomainView → DomainStep
loaded d = unchanged_step d (Saw (word_in d))

-- Take: where the exchange is granted, a new ticket is in hand
abbrev pub taken : ℕ → ℕ → Word → DomainView → DomainStep
taken id bw expected d =
    step_unless_refused d (refusal_of expected (d.used + bw) d)
    (record d { used = d.used + bw; in_hand = d.in_hand ++ record { id = id; bw = bw } ∷ [] })

-- Regrade of a ticket in hand that had the bandwidth `was`
abbrev pub regraded_in_hand : ℕ → ℕ → ℕ → Word → DomainView → DomainStep
regraded_in_hand id was bw expected d =
    step_unless_refused d (refusal_of expected (d.used - was + bw) d)
    (record d { used = d.used - was + bw; in_hand = map (with_bw id bw) d.in_hand })

-- Regrade of the ticket in the task t, which is a change of the book too
abbrev pub regraded_admitted : ℕ → Task → ℕ → Word → DomainView → DomainStep
regraded_admitted id t bw expected d =
    step_unless_refused d (refusal_of expected (d.used - t.bw + bw) d)
    (record d {
      used = d.used - t.bw + bw;
      admitted = map (task_with_bw id bw) d.admitted;
      changes = d.changes ++ Regraded t.number bw ∷ [];
    })

abbrev pub regraded_found : ℕ → ℕ → Word → DomainView → Option Ticket → Option Task → DomainStep
regraded_found id bw expected d (Some t) task = regraded_in_hand id t.bw bw expected d
regraded_found id bw expected d None (Some t) = regraded_admitted id t bw expected d
regraded_found id bw expected d None None = unchanged_step d Not

-- Regrade, which fits a live ticket
abbrev pub regraded : ℕ → ℕ → Word → DomainView → DomainStep
regraded id bw expected d = regraded_found id bw expected d (in_hand_of id d) (admitted_of id d)

abbrev pub given_found : ℕ → DomainView → Option Ticket → DomainStep
given_found id d None = unchanged_step d Not
given_found id d (Some t) = done (record d { used = d.used - t.bw; in_hand = without id d.in_hand })

-- Give, which fits a ticket in hand: its bandwidth goes back and it is gone
abbrev pub given : ℕ → DomainView → DomainStep
given id d = given_found id d (in_hand_of id d)

-- Enter of a ticket in hand that has the bandwidth bw: it goes into a task, and the word stays
abbrev pub entered_with : ℕ → ℕ → ℕ → DomainView → DomainStep
entered_with id number bw d =
    if is_admitted number d then unchanged_step d Not
    else done (record d {
      in_hand = without id d.in_hand;
      admitted = d.admitted ++ record { number = number; ticket = id; bw = bw } ∷ [];
      changes = d.changes ++ Entered number id bw ∷ [];
    })

abbrev pub entered_found : ℕ → ℕ → DomainView → Option Ticket → DomainStep
entered_found id number d None = unchanged_step d Not
entered_found id number d (Some t) = entered_with id number t.bw d

-- Enter, which fits a ticket in hand where no admitted task of the domain has the number
abbrev pub entered : ℕ → ℕ → DomainView → DomainStep
entered id number d = entered_found id number d (in_hand_of id d)

abbrev pub released_found : ℕ → DomainView → Option Task → DomainStep
released_found id d None = unchanged_step d Not
released_found id d (Some t) =
    done (record d {
      in_hand = d.in_hand ++ record { id = id; bw = t.bw } ∷ [];
      admitted = without_task id d.admitted;
      changes = d.changes ++ Released t.number ∷ [];
    })

-- Release, which fits an admitted ticket: it is in hand again, and the word stays
abbrev pub released : ℕ → DomainView → DomainStep
released id d = released_found id d (admitted_of id d)

-- Limit: where the exchange is granted, the word carries another cap
abbrev pub limited : ℕ → Word → DomainView → DomainStep
limited cap expected d =
    step_unless_refused d (limit_refusal_of expected cap d) (record d { cap = cap })
