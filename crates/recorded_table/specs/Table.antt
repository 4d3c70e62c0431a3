-- The jobs that a recording shows of tasks, as a table in the style of the summary (own).
use Rattle.std.specs.Prelude.{ℕ, ◌+◌, ◌-◌, ◌/◌, List, [], ◌∷◌, ◌++◌, length, map, min, max, fold, count_by, Option, Some, None, is_none, codes, decimal}
use Rattle.draft.specs.Columns.{right, column}
use Rattle.recorded_jobs.specs.declared.job.Release.{Release}
use Rattle.recorded_table.specs.declared.spread.Spread.{Spread}

-- a time that is shown: more than 10^12 us are shown as so many
abbrev pub shown_time : ℕ → ℕ
shown_time us = min us 1000000000000

-- the work of each job
abbrev pub works : List Release → List ℕ
works jobs = map (λ r. shown_time r.job.work) jobs

-- the time from a release to each that follows
unfoldable pub distances_after : ℕ → List Release → List ℕ
distances_after before [] = []
distances_after before (r ∷ rs) = shown_time (r.time - before) ∷ distances_after r.time rs

abbrev pub distances : List Release → List ℕ
distances [] = []
distances (r ∷ rs) = distances_after r.time rs

-- the smallest, the mean, rounded down, and the largest, if there is one
abbrev pub spread_of : List ℕ → Option Spread
spread_of [] = None
spread_of (x ∷ xs) =
    Some (record {
      least = fold min x xs;
      mean = fold (λ a b. a + b) x xs / length (x ∷ xs);
      greatest = fold max x xs;
    })

-- how many jobs a wake line released, and how many have no end
abbrev pub woken_jobs : List Release → ℕ
woken_jobs jobs = count_by (λ r. r.woken) jobs

abbrev pub open_jobs : List Release → ℕ
open_jobs jobs = count_by (λ r. is_none r.job.«end») jobs

-- ---- lines

abbrev pub columns_of_times : Option Spread → List ℕ
columns_of_times None = codes "          -          -          -"
columns_of_times (Some s) =
    column 10 (decimal s.least) ++ (column 10 (decimal s.mean) ++ column 10 (decimal s.greatest))

abbrev pub jobs_header : List ℕ
jobs_header =
    codes
    "#          task    jobs   woken    open   work_min   work_avg   work_max   dist_min   dist_avg   dist_max\n"

abbrev pub jobs_row : List ℕ → List Release → List ℕ
jobs_row name jobs =
    right 16 name ++ (column 7 (decimal (length jobs)) ++ (column 7 (decimal (woken_jobs jobs))
    ++ (column 7 (decimal (open_jobs jobs)) ++ (columns_of_times (spread_of (works jobs))
    ++ (columns_of_times (spread_of (distances jobs)) ++ codes "\n")))))

-- a row for each task, with the jobs of its number
unfoldable pub jobs_rows : List (List ℕ) → List (List Release) → List ℕ
jobs_rows [] jobs = []
jobs_rows (name ∷ names) [] = []
jobs_rows (name ∷ names) (js ∷ jobs) = jobs_row name js ++ jobs_rows names jobs

abbrev pub jobs_table : List (List ℕ) → List (List Release) → List ℕ
jobs_table names jobs = jobs_header ++ jobs_rows names jobs
