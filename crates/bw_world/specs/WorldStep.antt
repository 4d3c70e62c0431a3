-- What one step makes of a world's domains, and what it answers (own).
use Rattle.std.specs.Prelude.{ℕ, ◌^◌, Bool, false, not, ◌&&◌, nat_le, if◌then◌else◌, ◌==◌, List, [], ◌∷◌, map, find, position, slice_get, slice_set, Option, Some, None}
use Rattle.std.specs.List.{list_any}
use Rattle.bw_world.specs.declared.step.Step.{Step}
use Rattle.bw_world.specs.declared.step.Step.TheVariants.{Load, Take, Regrade, Give, Enter, Release, Limit, Move}
use Rattle.bw_world.specs.declared.step.Outcome.{Outcome}
use Rattle.bw_world.specs.declared.step.Outcome.TheVariants.{Not}
use Rattle.bw_world.specs.declared.ticket.Ticket.{Ticket}
use Rattle.bw_world.specs.declared.ticket.Task.{Task}
use Rattle.bw_world.specs.WorldView.{DomainView, WorldView}
use Rattle.bw_world.specs.DomainStep.{DomainStep, unused_domain, in_hand_of, admitted_of, is_admitted, is_live_in, loaded, taken, regraded, given, entered, released, limited}
use Rattle.limits.specs.Limits.{unit}

-- a world before its first step
abbrev pub opened_world : List ℕ → WorldView
opened_world caps = record { domains = map unused_domain caps; applied = 0 }

-- live in some domain
abbrev pub is_live : ℕ → List DomainView → Bool
is_live id domains = list_any (is_live_in id) domains

-- the domains after a step, and the answer
pub record WorldStep : Type 0 where
  pub domains : List DomainView
  pub outcome : Outcome

-- a step that does not fit changes nothing
abbrev pub misfit : List DomainView → WorldStep
misfit domains = record { domains = domains; outcome = Not }

abbrev pub at_found : List DomainView → ℕ → (DomainView → DomainStep) → Option DomainView
    → WorldStep
at_found domains k rule None = misfit domains
at_found domains k rule (Some d) =
    record { domains = slice_set domains k (rule d).domain; outcome = (rule d).outcome }

-- a step within the domain of this index, which fits where there is one
abbrev pub at_domain : List DomainView → ℕ → (DomainView → DomainStep) → WorldStep
at_domain domains k rule = at_found domains k rule (slice_get domains k)

abbrev pub at_place : List DomainView → (DomainView → DomainStep) → Option ℕ → WorldStep
at_place domains rule None = misfit domains
at_place domains rule (Some k) = at_domain domains k rule

-- a step within the domain in which the ticket is live, which fits where there is one
abbrev pub at_home : List DomainView → ℕ → (DomainView → DomainStep) → WorldStep
at_home domains id rule = at_place domains rule (position (is_live_in id) domains)

-- a ticket may be taken where it is not live and asks for one CPU at most
abbrev pub may_take : ℕ → ℕ → List DomainView → Bool
may_take id bw domains = nat_le bw unit && not (is_live id domains)

-- the domain in which the ticket is live
abbrev pub home_of : ℕ → List DomainView → Option DomainView
home_of id domains = find (is_live_in id) domains

abbrev pub fits_found : ℕ → DomainView → Option Task → Option Ticket → Bool
fits_found number to (Some t) (Some u) =
    (t.number == number) && (t.bw == u.bw) && not (is_admitted number to)
fits_found number to (Some t) None = false
fits_found number to None hand = false

-- a task may move between two domains (own; a task has its bandwidth in one root domain,
-- sched-deadline.rst on cpusets): in `from` an admitted task of the number holds the ticket `old`;
-- in `to` the ticket `new` is in hand with equal bandwidth, and no admitted task has the number
abbrev pub fits_move : ℕ → ℕ → ℕ → DomainView → DomainView → Bool
fits_move old new number from to = fits_found number to (admitted_of old from) (in_hand_of new to)

abbrev pub fits_homes : ℕ → ℕ → ℕ → Option DomainView → Option DomainView → Bool
fits_homes old new number (Some from) (Some to) = fits_move old new number from to
fits_homes old new number (Some from) None = false
fits_homes old new number None to = false

-- a task may move where both tickets are live and their domains fit. These are two domains, since
-- one has the number admitted and the other has not
abbrev pub may_move : ℕ → ℕ → ℕ → List DomainView → Bool
may_move old new number domains =
    fits_homes old new number (home_of old domains) (home_of new domains)

-- a move: the old ticket is released and the new one enters a task of the number, as one step, so
-- that the task has its bandwidth throughout. Both words stay as they are
abbrev pub moved : ℕ → ℕ → ℕ → List DomainView → WorldStep
moved old new number domains =
    at_home (at_home domains old (released old)).domains new (entered new number)

-- one step, by cases
abbrev pub stepped : Step → List DomainView → WorldStep
stepped (Load k) domains = at_domain domains k loaded
stepped (Take id k bw expected) domains =
    if may_take id bw domains then at_domain domains k (taken id bw expected) else misfit domains
stepped (Regrade id bw expected) domains = at_home domains id (regraded id bw expected)
stepped (Give id) domains = at_home domains id (given id)
stepped (Enter id number) domains = at_home domains id (entered id number)
stepped (Release id) domains = at_home domains id (released id)
stepped (Limit k cap expected) domains =
    if nat_le cap (2 ^ 26) then at_domain domains k (limited cap expected) else misfit domains
stepped (Move old new number) domains =
    if may_move old new number domains then moved old new number domains else misfit domains

-- the domains after steps, one after another
abbrev pub after_steps : List Step → List DomainView → List DomainView
after_steps [] domains = domains
after_steps (s ∷ steps) domains = after_steps steps (stepped s domains).domains

-- the answer to each step
abbrev pub outcomes_of : List Step → List DomainView → List Outcome
outcomes_of [] domains = []
outcomes_of (s ∷ steps) domains =
    (stepped s domains).outcome ∷ outcomes_of steps (stepped s domains).domains
