-- What happens in several domains at once: what is left of each, and which of it comes next. The
-- events text knows nothing of these words.
use Rattle.std.specs.Prelude.{ℕ, ◌≡◌, ◌+◌, ◌<◌, ◌^◌, IsTrue, Bool, true, false, List, [], ◌∷◌, ◌++◌, length, map, filter, drop, slice_index, Option, Some, None}
use Rattle.std.specs.List.{AllByRecursion}
use Rattle.domain_run.specs.declared.happened.Happened.{Happened}
use Rattle.switch_text.specs.declared.logged.DomainEvents.{DomainEvents}
use Rattle.switch_text.specs.declared.logged_merge.NextLogged.{NextLogged}
use Rattle.switch_text.specs.LoggedLine.{has_line}
use Rattle.switch_text.specs.Events.{LoggedView, Event, logged_event, comes_before}
use Rattle.switch_text.specs.EventLines.{logged_view, logged_views, HasLoggedLine}
use Rattle.switch_text.specs.private.Merging.{places_stepped}

abbrev pub is_line_logged : Happened → Bool
is_line_logged h = has_line h.what

-- the events of a domain from its place on
abbrev pub events_from : LoggedView → ℕ → List Event
events_from t p = map (logged_event t) (filter is_line_logged (drop p t.happened))

-- the same of each domain, one after the other
abbrev pub left_logged : List LoggedView → List ℕ → List Event
left_logged [] places = []
left_logged (t ∷ logged) [] = []
left_logged (t ∷ logged) (p ∷ places) = events_from t p ++ left_logged logged places

-- how much is left, cuts too
abbrev pub count_left : List LoggedView → List ℕ → ℕ
count_left [] places = 0
count_left (t ∷ logged) [] = 0
count_left (t ∷ logged) (p ∷ places) = length (drop p t.happened) + count_left logged places

-- an event of this domain that is left, before those left before it, and not after those left after
-- it
pub record IsLoggedAhead (logged : List LoggedView) (places : List ℕ) (i : ℕ)
    (e : Event) : Type 0 where
  pub before : List Event
  pub after : List Event
  pub inside : i < length logged
  pub split : left_logged logged places ≡ before ++ e ∷ after
  pub moved : left_logged logged (places_stepped places i) ≡ before ++ after
  pub earlier : AllByRecursion (λ x. comes_before e x ≡ true) before
  pub not_later : AllByRecursion (λ x. comes_before x e ≡ false) after

abbrev pub next_logged_event : NextLogged → Event
next_logged_event n = logged_event (logged_view n.logged.now) n.happened.now

-- it has a line, and all for it
pub record IsShown (n : NextLogged) : Type 0 where
  pub shown : IsTrue (is_line_logged n.happened.now)
  pub line : HasLoggedLine n.logged.now.names.now n.logged.now.base n.happened.now

-- the next of all, or a cut, without which as much is left to be written
abbrev pub IsNextOrCut : List DomainEvents → List ℕ → NextLogged → Bool → Type 0
IsNextOrCut logged places n true = IsLoggedAhead (logged_views logged) places n.index
    (next_logged_event n)
    × IsShown n
IsNextOrCut logged places n false = left_logged (logged_views logged)
    (places_stepped places n.index)
    ≡ left_logged (logged_views logged) places

pub record IsNextLogged (logged : List DomainEvents) (places : List ℕ)
    (n : NextLogged) : Type 0 where
  pub inside : n.index < length logged
  pub place : slice_index places n.index + 1 < 2 ^ 64
  pub smaller : count_left (logged_views logged) (places_stepped places n.index) < count_left
      (logged_views logged) places
  pub next : IsNextOrCut logged places n (is_line_logged n.happened.now)

-- nothing is left, or what comes next is found
abbrev pub IsLoggedFound : List DomainEvents → List ℕ → Option NextLogged → Type 0
IsLoggedFound logged places None = left_logged (logged_views logged) places ≡ []
IsLoggedFound logged places (Some n) = IsNextLogged logged places n

-- what comes before the best so far
abbrev pub is_better_logged : NextLogged → Option NextLogged → Bool
is_better_logged n None = true
is_better_logged n (Some best) = comes_before (next_logged_event n) (next_logged_event best)
