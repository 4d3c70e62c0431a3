-- The figures and the jobs of the runs of sections, each of which was streamed while it was made.
use Rattle.std.specs.Prelude.{ℕ, Bool, ◌≡◌, ◌++◌, ◌∷◌, [], List, map, IsTrue}
use Rattle.calls_text.specs.SectionView.{SectionView}
use Rattle.calls_text.specs.Limits.{IsSection, AreRead}
use Rattle.calls_text.specs.Spelling.{spelling}
use Rattle.calls_text.specs.Reader.{ReaderView, IsAfter}
use Rattle.switch_text.specs.Names.{name_of_task}
use Rattle.figure_text.specs.Jobs.{JobsView}
use Rattle.figure_text.specs.Summary.{SummaryView}
use Rattle.calls_trace.specs.declared.streamed_jobs.NamedJobs.{NamedJobs}
use Rattle.calls_trace.specs.declared.summed_run.SummedRun.{SummedRun}
use Rattle.calls_trace.specs.DomainEvents.{jobs_view, summary_view}

-- as they are written
abbrev pub summed_as : SummedRun → SummaryView
summed_as r = record {
  names = name_of_task r.names;
  tasks = r.summary.tasks.items;
  cpus = r.summary.cpus.items;
  bandwidth = r.bandwidth;
  cap = r.cap;
  time = r.time;
}

abbrev pub jobs_as : SummedRun → JobsView
jobs_as r = record { names = name_of_task r.names; tasks = r.jobs.items }

abbrev pub named_as : NamedJobs → JobsView
named_as j = record { names = name_of_task j.names; tasks = j.jobs.items }

-- a section is read to its end, and this is its run, with its jobs if they are wanted
pub record IsSummedSection (text : List ℕ) (before : List SectionView) (jobs : Bool)
    (reader : ReaderView) (r : SummedRun) : Type 0 where
  pub section : SectionView
  pub is : IsSection section
  pub following : IsAfter text (before ++ section ∷ []) reader
  pub figures : summed_as r ≡ summary_view section
  pub are_jobs : IsTrue jobs → jobs_as r ≡ jobs_view section

-- the runs of the sections that were read so far
pub record AreSummedSoFar (text : List ℕ) (jobs : Bool) (reader : ReaderView)
    (runs : List SummedRun) : Type 0 where
  pub done : List SectionView
  pub following : IsAfter text done reader
  pub figures : map summed_as runs ≡ map summary_view done
  pub are_jobs : IsTrue jobs → map jobs_as runs ≡ map jobs_view done

-- the text spells sections, and these are their runs
pub record AreSummed (text : List ℕ) (jobs : Bool) (runs : List SummedRun) : Type 0 where
  pub sections : List SectionView
  pub read : AreRead sections
  pub spelled : text ≡ spelling sections
  pub figures : map summed_as runs ≡ map summary_view sections
  pub are_jobs : IsTrue jobs → map jobs_as runs ≡ map jobs_view sections
