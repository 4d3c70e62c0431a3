-- All that concerns tasks, in its order: what happens to one, and who leaves and comes by a switch
-- (own).
use Rattle.std.specs.Prelude.{ℕ, ◌==◌, List, [], ◌∷◌, ◌++◌, drop, filter, length, map, Option, Some, None}
use Rattle.domain_run.specs.declared.happened.Happened.{Happened}
use Rattle.domain_run.specs.Switch.{Switch}
use Rattle.run_figures.specs.Throttling.{up_to}
use Rattle.chart_pieces.specs.declared.status.Turn.{Turn}
use Rattle.chart_pieces.specs.declared.status.Turn.TheVariants.{Happens, Leaves, Comes}
use Rattle.chart_pieces.specs.declared.status.Moment.{Moment}

abbrev pub moment_of : Happened → Moment
moment_of h = record { time = h.time; number = h.number; turn = Happens h.what }

-- a turn of a task, if there is a task
abbrev pub moment_if : ℕ → Turn → Option ℕ → List Moment
moment_if time turn None = []
moment_if time turn (Some number) = record { time = time; number = number; turn = turn } ∷ []

-- one task leaves the CPU, and another comes
abbrev pub moments_by : Switch → List Moment
moments_by s =
    moment_if s.time (Leaves s.cpu s.state) s.prev ++ moment_if s.time (Comes s.cpu) s.next

-- what happens after a time
abbrev pub beyond : ℕ → List Happened → List Happened
beyond time happened = drop (length (up_to time happened)) happened

-- what happens at a time stands before the switches of that time
abbrev pub moments : List Happened → List Switch → List Moment
moments happened [] = map moment_of happened
moments happened (s ∷ ss) =
    map moment_of (up_to s.time happened) ++ (moments_by s ++ moments (beyond s.time happened) ss)

-- those of one task
abbrev pub moments_of : List Happened → List Switch → ℕ → List Moment
moments_of happened switches number =
    filter (λ m. m.number == number) (moments happened switches)
