-- The law that every word keeps (own): what is used of it is exactly what is in hand plus what is
-- admitted, and never above the cap that the word then carries.
use Rattle.std.specs.Prelude.{ℕ, ◌≡◌, ◌≤◌, ◌+◌, ◌==◌, not, if◌then◌else◌, List, [], ◌∷◌, ◌++◌, map, filter, fold, sum_by, count_by, All}
use Rattle.bw_world.specs.declared.book.Change.{Change}
use Rattle.bw_world.specs.declared.book.Change.TheVariants.{Entered, Regraded, Released}
use Rattle.bw_world.specs.declared.ticket.Task.{Task}
use Rattle.bw_world.specs.WorldView.{DomainView}

-- the bandwidth of all tickets in hand, and of all admitted tasks
abbrev pub sum_in_hand : DomainView → ℕ
sum_in_hand d = sum_by (λ t. t.bw) d.in_hand

abbrev pub sum_admitted : DomainView → ℕ
sum_admitted d = sum_by (λ t. t.bw) d.admitted

-- the task, with a new bandwidth where it has the number
abbrev pub numbered_with_bw : ℕ → ℕ → Task → Task
numbered_with_bw number bw t = if t.number == number then record t { bw = bw } else t

-- what one change of the book makes of the admitted tasks, by their numbers alone
abbrev pub after_change : List Task → Change → List Task
after_change tasks (Entered number ticket bw) =
    tasks ++ record { number = number; ticket = ticket; bw = bw } ∷ []
after_change tasks (Regraded number bw) = map (numbered_with_bw number bw) tasks
after_change tasks (Released number) = filter (λ t. not (t.number == number)) tasks

-- the admitted tasks that a book tells
abbrev pub tasks_after_changes : List Change → List Task
tasks_after_changes changes = fold after_change [] changes

-- how many live tickets have an id
abbrev pub live_in : ℕ → DomainView → ℕ
live_in id d = count_by (λ t. t.id == id) d.in_hand + count_by (λ t. t.ticket == id) d.admitted

abbrev pub live : ℕ → List DomainView → ℕ
live id domains = sum_by (live_in id) domains

-- of one domain
pub record IsExactDomain (d : DomainView) : Type 0 where
  pub sum : d.used ≡ sum_in_hand d + sum_admitted d
  pub capped : d.used ≤ d.cap
  pub book : d.admitted ≡ tasks_after_changes d.changes
  pub numbers : (number : ℕ) → count_by (λ t. t.number == number) d.admitted ≤ 1

-- of a world: each domain is exact, and no id is that of two live tickets, in whatever domains
pub record IsExact (domains : List DomainView) : Type 0 where
  pub each : All IsExactDomain domains
  pub ids : (id : ℕ) → live id domains ≤ 1
