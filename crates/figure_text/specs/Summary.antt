-- The summary of all domains, as a text (own): a table of the tasks, by domain and in their order,
-- one of the CPUs of the machine, and one of the domains.
use Rattle.std.specs.Prelude.{ℕ, ◌+◌, ◌≤◌, List, [], ◌∷◌, ◌++◌, length, flat_map, Option, Some, None, codes, decimal}
use Rattle.std.specs.Fmt.{signed_decimal}
use Rattle.run_figures.specs.declared.figures.Responses.{Responses}
use Rattle.run_figures.specs.declared.figures.TaskFigures.{TaskFigures}
use Rattle.run_figures.specs.declared.figures.CpuFigures.{CpuFigures}
use Rattle.run_figures.specs.Laws.{AreShort}
use Rattle.switch_text.specs.Names.{name_of_task}
use Rattle.figure_text.specs.declared.summary.DomainSummary.{DomainSummary}
use Rattle.draft.specs.Columns.{right, column}
use Rattle.figure_text.specs.Columns.{pid, share}
use Rattle.run_figures.specs.Lines.{digits_in, numbered_lines}

-- one domain: the names of its tasks by number, their figures and those of its CPUs; the sum of
-- bandwidths and the cap, in 1/2^20 of a CPU, and the time, in microseconds, at the end
pub record SummaryView : Type 0 where
  pub names : ℕ → List ℕ
  pub tasks : List TaskFigures
  pub cpus : List CpuFigures
  pub bandwidth : ℕ
  pub cap : ℕ
  pub time : ℕ

abbrev pub summary_view_of : DomainSummary → SummaryView
summary_view_of d = record {
  names = name_of_task d.names.now;
  tasks = d.tasks.now;
  cpus = d.cpus.now;
  bandwidth = d.bandwidth;
  cap = d.cap;
  time = d.time;
}

-- its times are short enough for shares of them
abbrev pub IsShortSummary : DomainSummary → Type 0
IsShortSummary d = AreShort d.tasks.now d.cpus.now

-- a domain of a machine has at most 64 CPUs
abbrev pub IsOfMachine : DomainSummary → Type 0
IsOfMachine d = length d.cpus.now ≤ 64

-- ---- THE TASKS

abbrev pub task_header : List ℕ
task_header = codes
    "#          task    pid dom    jobs    late   resp_min   resp_avg   resp_max   slack_min throttled throttled_us preempted migrated       cpu_us   used%    has%\n"

-- of the jobs that ended; dashes where none did
abbrev pub time_columns : Responses → List ℕ
time_columns r = column 10 (decimal r.least)
    ++ (column 10 (decimal r.mean) ++ column 10 (decimal r.most))

abbrev pub known_columns : Responses → List ℕ
known_columns r = time_columns r ++ column 11 (signed_decimal r.slack)

abbrev pub no_columns : List ℕ
no_columns =
    column 10 (codes "-") ++ (column 10 (codes "-")
    ++ (column 10 (codes "-") ++ column 11 (codes "-")))

abbrev pub response_columns : Option Responses → List ℕ
response_columns None = no_columns
response_columns (Some r) = known_columns r

-- how its jobs went
abbrev pub job_columns : TaskFigures → List ℕ
job_columns t =
    column 7 (decimal t.jobs) ++ (column 7 (decimal t.late) ++ response_columns t.responses)

-- how often it was throttled, and how long, preempted, migrated
abbrev pub count_columns : TaskFigures → List ℕ
count_columns t =
    column 9 (decimal t.throttled)
    ++ (column 12 (decimal t.throttled_us)
    ++ (column 9 (decimal t.preempted) ++ column 8 (decimal t.migrated)))

-- its CPU time, that as a share of the domain's time, and its runtime as a share of its period
abbrev pub share_columns : ℕ → TaskFigures → List ℕ
share_columns time t =
    column 12 (decimal t.cpu_us)
    ++ (share t.cpu_us time ++ share t.runtime t.period)

-- who it is, and in which domain
abbrev pub name_columns : ℕ → List ℕ → ℕ → List ℕ
name_columns domain name number =
    right 15 name ++ (column 6 (pid number) ++ column 3 (decimal domain))

abbrev pub task_row : ℕ → SummaryView → TaskFigures → List ℕ
task_row domain d t =
    name_columns domain (d.names t.number) t.number
    ++ (job_columns t ++ (count_columns t ++ (share_columns d.time t ++ codes "\n")))

abbrev pub tasks_of : ℕ → SummaryView → List ℕ
tasks_of domain d = flat_map (task_row domain d) d.tasks

-- the first domain is domain 0
abbrev pub task_rows : List SummaryView → List ℕ
task_rows domains = numbered_lines tasks_of 0 domains

-- ---- THE CPUS

abbrev pub cpu_header : List ℕ
cpu_header = codes "#  cpu dom      busy_us   busy%  switches\n"

-- three digits in a column of six
abbrev pub cpu_name : ℕ → ℕ → List ℕ
cpu_name domain cpu = codes "   " ++ (digits_in 3 cpu ++ column 3 (decimal domain))

abbrev pub cpu_line : ℕ → ℕ → ℕ → CpuFigures → List ℕ
cpu_line domain time cpu c =
    cpu_name domain cpu
    ++ (column 12 (decimal c.busy_us)
    ++ (share c.busy_us time ++ (column 9 (decimal c.switches) ++ codes "\n")))

-- the first CPU of a domain is this CPU of the machine
abbrev pub cpu_rows : ℕ → ℕ → SummaryView → List ℕ
cpu_rows domain cpu d = numbered_lines (cpu_line domain d.time) cpu d.cpus

-- the first domain has the first CPUs of the machine, the second the next ones, and so on
abbrev pub cpu_lines : ℕ → ℕ → List SummaryView → List ℕ
cpu_lines domain cpu [] = []
cpu_lines domain cpu (d ∷ ds) =
    cpu_rows domain cpu d ++ cpu_lines (domain + 1) (cpu + length d.cpus) ds

-- ---- THE DOMAINS

abbrev pub domain_header : List ℕ
domain_header = codes "#domain cpus  bandwidth        cap  taken%      time_us\n"

-- the sum of bandwidths, the cap, and the one as a share of the other
abbrev pub bandwidth_columns : SummaryView → List ℕ
bandwidth_columns d =
    column 10 (decimal d.bandwidth) ++ (column 10 (decimal d.cap) ++ share d.bandwidth d.cap)

abbrev pub domain_row : ℕ → SummaryView → List ℕ
domain_row domain d =
    right 7 (decimal domain)
    ++ (column 4 (decimal (length d.cpus))
    ++ (bandwidth_columns d ++ (column 12 (decimal d.time) ++ codes "\n")))

abbrev pub domain_rows : List SummaryView → List ℕ
domain_rows domains = numbered_lines domain_row 0 domains

-- ---- ALL

abbrev pub summary_text : List SummaryView → List ℕ
summary_text domains =
    task_header ++ (task_rows domains
    ++ (cpu_header ++ (cpu_lines 0 0 domains
    ++ (domain_header ++ domain_rows domains))))
