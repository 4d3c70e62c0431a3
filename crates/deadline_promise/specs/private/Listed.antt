-- What the answer needs of the listed tasks.
use Rattle.std.specs.Prelude.{◌+◌, ◌||◌, false, nat_lt, List, fold, Option, Some, None}
use Rattle.attr_check.specs.ParamsView.{ParamsView}
use Rattle.domain_run.specs.declared.task.Task.{Task}
use Rattle.deadline_promise.specs.declared.listed.Listed.{Listed}

abbrev pub none_listed : Listed
none_listed = record { count = 0; reclaims = false; short = false }

abbrev pub with_listed : Listed → ParamsView → Listed
with_listed l p = record {
  count = l.count + 1;
  reclaims = l.reclaims || p.reclaim;
  short = l.short || nat_lt p.deadline p.period;
}

abbrev pub with_if_any : Listed → Option ParamsView → Listed
with_if_any l None = l
with_if_any l (Some p) = with_listed l p

abbrev pub listed_of : List Task → Listed
listed_of tasks = fold (λ l t. with_listed l t.params) none_listed tasks
