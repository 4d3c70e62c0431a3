-- What is promised of the tasks of a scenario, as a text (own): a line for each task.
use Rattle.std.specs.Prelude.{ℕ, List, ◌++◌, flat_map, Option, Some, None, codes, decimal}
use Rattle.deadline_promise.specs.declared.answer.Promise.{Promise}
use Rattle.deadline_promise.specs.declared.answer.Promise.TheVariants.{NeverLate, Refused, SeveralCpus, Reclaiming, ShortDeadline, FullLimit, OverBudget, NearReleases, MixedWaits}
use Rattle.figure_text.specs.declared.promises.PromiseRow.{PromiseRow}
use Rattle.draft.specs.Columns.{right, column}
use Rattle.figure_text.specs.Columns.{pid}

-- one task: its name, its number and the domain that admitted it; its longest stretch of work and
-- its shortest timer or sleep, in microseconds; and the answer
pub record PromiseView : Type 0 where
  pub name : List ℕ
  pub number : ℕ
  pub domain : Option ℕ
  pub work_max : Option ℕ
  pub gap_min : Option ℕ
  pub promise : Promise

abbrev pub promise_view_of : PromiseRow → PromiseView
promise_view_of r = record {
  name = r.name.now;
  number = r.number;
  domain = r.domain;
  work_max = r.work_max;
  gap_min = r.gap_min;
  promise = r.promise;
}

abbrev pub promise_header : List ℕ
promise_header = codes "#          task    pid dom   work_max    gap_min promise\n"

-- never late, or the first reason why that is not promised
abbrev pub promise_text : Promise → List ℕ
promise_text NeverLate = codes "never late"
promise_text Refused = codes "refused"
promise_text SeveralCpus = codes "several CPUs"
promise_text Reclaiming = codes "reclaiming"
promise_text ShortDeadline = codes "short deadline"
promise_text FullLimit = codes "full limit"
promise_text OverBudget = codes "over budget"
promise_text NearReleases = codes "near releases"
promise_text MixedWaits = codes "mixed waits"

-- a number in a column, or a dash if there is none
abbrev pub column_if_any : ℕ → Option ℕ → List ℕ
column_if_any width None = column width (codes "-")
column_if_any width (Some n) = column width (decimal n)

-- who it is, and in which domain
abbrev pub who_columns : PromiseView → List ℕ
who_columns r =
    right 15 r.name ++ (column 6 (pid r.number) ++ column_if_any 3 r.domain)

-- what its script asks for
abbrev pub demand_columns : PromiseView → List ℕ
demand_columns r = column_if_any 10 r.work_max ++ column_if_any 10 r.gap_min

abbrev pub promise_line : PromiseView → List ℕ
promise_line r =
    who_columns r
    ++ (demand_columns r ++ (codes " " ++ (promise_text r.promise ++ codes "\n")))

abbrev pub promises_text : List PromiseView → List ℕ
promises_text rows = promise_header ++ flat_map promise_line rows
