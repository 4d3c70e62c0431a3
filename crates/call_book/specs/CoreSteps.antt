-- What a book does is what the pure core does with admitted tasks (own). To the core a book is the
-- admitted tasks of a domain: one for each ticket that the book holds, under its task's number. The
-- ticket of each has an id, and no two numbers have one.
use Rattle.std.specs.Prelude.{ℕ, ◌≡◌, ◌<◌, ◌++◌, List, [], ◌∷◌, map, filter, true, false, All, Option, Some}
use Rattle.std.specs.List.{list_any}
use Rattle.std.specs.Prelude.{◌==◌}
use Rattle.pass_seats.specs.Lists.{PassView}
use Rattle.bw_world.specs.declared.book.Change.TheVariants.{Entered, Released}
use Rattle.bw_world.specs.declared.ticket.Task.{Task}
use Rattle.bw_world.specs.WorldView.{DomainView}
use Rattle.bw_world.specs.DomainStep.{done, in_hand_of, without, entered, released, given}
use Rattle.bw_world.specs.WorldStep.{fits_move}
use Rattle.bw_gate.specs.Pieces.{BlankView, TicketView}
use Rattle.domain_run.specs.declared.call.Reply.{Reply}
use Rattle.calls_text.specs.declared.section.Entry.{Entry}
use Rattle.call_book.specs.declared.book.stock.Held.{Held}
use Rattle.call_book.specs.Pieces.{HoldsTickets, is_gone}
use Rattle.call_book.specs.Book.{BookView, AdmissionView, state_of}
use Rattle.call_book.specs.BookAnswers.{IsAdmittedInBook, IsAdvanced}
use Rattle.call_book.specs.MoveAnswers.{Sides, IsMoved}

-- ---- a book, as the core sees it

abbrev pub AreApart : (ℕ → ℕ) → Type 0
AreApart ids = (m n : ℕ) → ids m ≡ ids n → m ≡ n

abbrev pub core_task : (ℕ → ℕ) → Held → Task
core_task ids h = record { number = h.number; ticket = ids h.number; bw = h.ticket.bw }

-- a domain of the core with the tasks of a book
abbrev pub IsCoreOf : (ℕ → ℕ) → List Held → DomainView → Type 0
IsCoreOf ids tickets c = c.admitted ≡ map (core_task ids) tickets

-- a book as every one is: of one CPU at least, with a ticket for each listed task
pub record IsHeldBook (b : BookView) : Type 0 where
  pub some : 0 < b.cpus
  pub held : HoldsTickets (state_of b) b.tickets

-- the ticket with this id is in hand there, and has so much
abbrev pub IsInHand : ℕ → ℕ → DomainView → Type 0
IsInHand id bw c = in_hand_of id c ≡ Some (record { id = id; bw = bw })

-- no ticket in hand has this id
abbrev pub IsNotInHand : ℕ → DomainView → Type 0
IsNotInHand id c = list_any (λ t. t.id == id) c.in_hand ≡ false

-- ---- the steps

-- Enter is done: the ticket has gone out of hand into a task, and these tickets are held then
abbrev pub EntersTask : (ℕ → ℕ) → ℕ → ℕ → List Held → DomainView → Type 0
EntersTask ids number bw tickets c =
    entered (ids number) number c
    ≡ done (record c {
      in_hand = without (ids number) c.in_hand;
      admitted = map (core_task ids) tickets;
      changes = c.changes ++ Entered number (ids number) bw ∷ [];
    })

-- Release is done: the ticket has come out of its task into a hand, and these tickets are held then
abbrev pub ReleasesTask : (ℕ → ℕ) → ℕ → ℕ → List Held → DomainView → Type 0
ReleasesTask ids number bw tickets c =
    released (ids number) c
    ≡ done (record c {
      in_hand = c.in_hand ++ record { id = ids number; bw = bw } ∷ [];
      admitted = map (core_task ids) tickets;
      changes = c.changes ++ Released number ∷ [];
    })

-- for each of these tickets in turn Release is done, and then Give
abbrev pub SettleTasks : (ℕ → ℕ) → List Held → DomainView → DomainView → Type 0
SettleTasks ids [] c e = e ≡ c
SettleTasks ids (h ∷ gone) c e =
    (free : DomainView) × (left : DomainView)
    × (released (ids h.number) c ≡ done free)
    × (given (ids h.number) free ≡ done left)
    × SettleTasks ids gone left e

-- ---- what a book does

-- ADMIT is the core's Enter of the task's ticket
abbrev pub EntersAsTheCore : Type 0
EntersAsTheCore =
    (ids : ℕ → ℕ) (old new : BookView) (p q : PassView Entry) (a : AdmissionView)
    (ticket : TicketView) (blank : Option BlankView) (c : DomainView)
    → AreApart ids → IsHeldBook old → IsAdmittedInBook old new p q a ticket blank
    → IsCoreOf ids old.tickets c → IsInHand (ids a.number) ticket.bw c
    → EntersTask ids a.number ticket.bw new.tickets c

-- what an ADVANCE settles is the core's Release and Give of each ticket whose task has gone
pub record AreTasksSettled (ids : ℕ → ℕ) (old new : BookView) (c : DomainView) : Type 0 where
  pub left : DomainView
  pub settled : SettleTasks ids (filter (is_gone (state_of new)) old.tickets) c left
  pub rest : IsCoreOf ids new.tickets left
  pub hands : left.in_hand ≡ c.in_hand

abbrev pub SettlesAsTheCore : Type 0
SettlesAsTheCore =
    (ids : ℕ → ℕ) (old new : BookView) (p q : PassView Entry) (n : ℕ) (reply : Reply)
    (c : DomainView)
    → AreApart ids → IsHeldBook old → IsAdvanced old new p q n reply
    → IsCoreOf ids old.tickets c → All (λ h. IsNotInHand (ids h.number) c) old.tickets
    → AreTasksSettled ids old new c

-- A move is the core's Move, which is a Release in the one domain and an Enter in the other: it
-- fits, and both are done
pub record IsCoreMove (out into : ℕ → ℕ) (number bw : ℕ) (new : Sides) (c e : DomainView)
    : Type 0 where
  pub fits : fits_move (out number) (into number) number c e ≡ true
  pub leaves : ReleasesTask out number bw new.from.tickets c
  pub comes : EntersTask into number bw new.to.tickets e

abbrev pub MovesAsTheCore : Type 0
MovesAsTheCore =
    (out into : ℕ → ℕ) (old new : Sides) (a : AdmissionView) (ticket back : TicketView)
    (c e : DomainView)
    → AreApart out → IsHeldBook old.from → IsHeldBook old.to → IsMoved old new a ticket back
    → ticket.bw ≡ a.params.bw
    → IsCoreOf out old.from.tickets c → IsCoreOf into old.to.tickets e
    → IsInHand (into a.number) ticket.bw e
    → IsCoreMove out into a.number ticket.bw new c e
