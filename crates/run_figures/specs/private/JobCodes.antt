-- The jobs of a task as numbers (own). A job's code begins with its marks and the distance from the
-- release of the job before it to its own release. What follows is there if the marks say so: the
-- distance from its release to its deadline, if that differs from the job before; the distance from
-- its release to its end; and how often its task was throttled.
use Rattle.std.specs.Prelude.{ℕ, zero, suc, ◌≡◌, ◌+◌, ◌-◌, ◌/◌, ◌%◌, ◌^◌, ◌<◌, ◌==◌, Bool, true, false, if◌then◌else◌, List, [], ◌∷◌, ◌++◌, length, All, Option, Some, None}
use Rattle.std.specs.Option.{option_map, option_to_list, is_some}
use Rattle.run_figures.specs.declared.job.Job.{Job}
use Rattle.run_figures.specs.WideJobs.{IsWide}
use Rattle.run_figures.specs.declared.job_codes.Before.{Before}
use Rattle.run_figures.specs.declared.job_codes.Parts.{Parts}

-- from one time to another, and the time at a distance; both go around at 2^64
abbrev pub wrapped_distance : ℕ → ℕ → ℕ
wrapped_distance from to = (to + (2 ^ 64 - from)) % 2 ^ 64

abbrev pub wrapped_by : ℕ → ℕ → ℕ
wrapped_by from d = (from + d) % 2 ^ 64

-- what a code needs of the job before it; before the first job there is none
abbrev pub no_job : Before
no_job = record { release = 0; span = 0 }

abbrev pub before_of : Job → Before
before_of j = record { release = j.release; span = wrapped_distance j.release j.deadline }

-- the parts of a job
abbrev pub unless_same : ℕ → ℕ → Option ℕ
unless_same usual n = if n == usual then None else Some n

abbrev pub parts_of : Before → Job → Parts
parts_of b j = record {
  cut = j.cut;
  step = wrapped_distance b.release j.release;
  span = unless_same b.span (wrapped_distance j.release j.deadline);
  took = option_map (wrapped_distance j.release) j.ended;
  throttled = unless_same 0 j.throttled;
}

abbrev pub or_usual : ℕ → Option ℕ → ℕ
or_usual usual None = usual
or_usual usual (Some n) = n

abbrev pub job_by : Before → Parts → Job
job_by b p = record {
  release = wrapped_by b.release p.step;
  deadline = wrapped_by (wrapped_by b.release p.step) (or_usual b.span p.span);
  ended = option_map (wrapped_by (wrapped_by b.release p.step)) p.took;
  throttled = or_usual 0 p.throttled;
  cut = p.cut;
}

-- the marks are powers of two, added up: the job was cut, it ended, it has another distance to its
-- deadline than the job before, its task was throttled
abbrev pub mark_if : Bool → ℕ → ℕ
mark_if marked mark = if marked then mark else 0

abbrev pub marks_of : Parts → ℕ
marks_of p =
    mark_if p.cut 1 + mark_if (is_some p.took) 2 + mark_if (is_some p.span) 4
    + mark_if (is_some p.throttled) 8

abbrev pub is_marked : ℕ → ℕ → Bool
is_marked mark marks = marks / mark % 2 == 1

-- the code of a job
abbrev pub code_of : Parts → List ℕ
code_of p =
    (((marks_of p ∷ p.step ∷ []) ++ option_to_list p.span) ++ option_to_list p.took)
    ++ option_to_list p.throttled

-- what is read from the front of numbers, and what is left of them
abbrev pub number_read : List ℕ → ℕ
number_read [] = 0
number_read (n ∷ ns) = n

abbrev pub read_if : Bool → List ℕ → Option ℕ
read_if false ns = None
read_if true [] = None
read_if true (n ∷ ns) = Some n

abbrev pub rest_if : Bool → List ℕ → List ℕ
rest_if false ns = ns
rest_if true [] = []
rest_if true (n ∷ ns) = ns

abbrev pub after_step : List ℕ → List ℕ
after_step ns = rest_if true ns

abbrev pub after_span : ℕ → List ℕ → List ℕ
after_span marks ns = rest_if (is_marked 4 marks) (after_step ns)

abbrev pub after_took : ℕ → List ℕ → List ℕ
after_took marks ns = rest_if (is_marked 2 marks) (after_span marks ns)

abbrev pub after_code : ℕ → List ℕ → List ℕ
after_code marks ns = rest_if (is_marked 8 marks) (after_took marks ns)

abbrev pub parts_read : ℕ → List ℕ → Parts
parts_read marks ns = record {
  cut = is_marked 1 marks;
  step = number_read ns;
  span = read_if (is_marked 4 marks) (after_step ns);
  took = read_if (is_marked 2 marks) (after_span marks ns);
  throttled = read_if (is_marked 8 marks) (after_took marks ns);
}

abbrev pub job_read : Before → ℕ → List ℕ → Job
job_read b marks ns = job_by b (parts_read marks ns)

-- the jobs of which these are the numbers, at most as the first argument says
abbrev pub read_jobs : ℕ → Before → List ℕ → List Job
read_jobs zero b ns = []
read_jobs (suc most) b [] = []
read_jobs (suc most) b (marks ∷ ns) =
    job_read b marks ns ∷ read_jobs most (before_of (job_read b marks ns)) (after_code marks ns)

abbrev pub jobs_coded : Before → List ℕ → List Job
jobs_coded b ns = read_jobs (length ns) b ns

-- the numbers of jobs
abbrev pub codes_of : Before → List Job → List ℕ
codes_of b [] = []
codes_of b (j ∷ js) = code_of (parts_of b j) ++ codes_of (before_of j) js

-- what the code of a job after these needs
abbrev pub before_after : Before → List Job → Before
before_after b [] = b
before_after b (j ∷ js) = before_after (before_of j) js

-- the numbers are exactly the codes of the jobs that are read from them
pub record AreCodes (b : Before) (numbers : List ℕ) : Type 0 where
  pub before : b.release < 2 ^ 64
  pub wide : All IsWide (jobs_coded b numbers)
  pub whole : numbers ≡ codes_of b (jobs_coded b numbers)

-- with what the code of a further job needs, and how many jobs there are
pub record AreCodesKept (numbers : List ℕ) (end : Before) (many : ℕ) : Type 0 where
  pub codes : AreCodes no_job numbers
  pub last : end ≡ before_after no_job (jobs_coded no_job numbers)
  pub count : many ≡ length (jobs_coded no_job numbers)
