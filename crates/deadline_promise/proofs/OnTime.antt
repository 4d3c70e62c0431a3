-- A task whose script keeps its budget, and its job under way, as a tick finds them.
use Rattle.std.proofs.Common.{◌≡◌, ℕ, ◌+◌, ◌*◌, ◌<◌, ◌≤◌, false, Option, Some, None, List, [], ◌∷◌, sym, subst}
use Rattle.std.specs.Prelude.{IfSome}
use Rattle.attr_check.specs.ParamsView.{ParamsView}
use Rattle.cbs_rules.specs.declared.server.Server.{Server}
use Rattle.cbs_rules.specs.Budget.{budget, above_zero}
use Rattle.task_script.specs.script.ScriptView.{CursorView, IsScript}
use Rattle.domain_run.specs.declared.task.Task.{Task}
use Rattle.domain_run.specs.declared.task.Condition.{Condition}
use Rattle.domain_run.specs.declared.task.Condition.TheVariants.{Ready, Throttled, Blocked, Waiting, Leaving}
use Rattle.run_figures.specs.declared.job.Job.{Job}
use Rattle.deadline_promise.specs.KeptBudget.{work_from, KeepsBudget}
use Rattle.deadline_promise.proofs.Asking.{Refers}
use Rattle.limits.specs.Limits.{unit}

-- a job that was released at a time and has not ended
abbrev pub under_way : ℕ → ℕ → ℕ → Job
under_way release period throttled =
    record { release = release; deadline = release + period; ended = None; throttled = throttled; cut = false }

-- the work, with the work after it in the script, is no more than this
abbrev pub Fits : CursorView → ℕ → ℕ → Type 0
Fits c work left = (count : ℕ) → (work + work_from c.script c.place count) * unit ≤ left

-- READY: its deadline is that of its job, and it has enough left
pub record Runs (time : ℕ) (p : ParamsView) (s : Server) (work : ℕ) (c : CursorView) (o : Option Job) : Type 0 where
  pub release : ℕ
  pub past : release ≤ time
  pub due : s.deadline ≡ Some (release + p.period)
  pub throttled : ℕ
  pub job : o ≡ Some (under_way release p.period throttled)
  pub some : 0 < work
  pub fits : Fits c work (above_zero s.left)
  pub refers : Refers c.script c.reference release

-- THROTTLED: its last job ended at its deadline, which is now, and the next one was released
pub record Holds (time : ℕ) (p : ParamsView) (s : Server) (work : ℕ) (c : CursorView) (o : Option Job) : Type 0 where
  pub due : s.deadline ≡ Some time
  pub throttled : ℕ
  pub job : o ≡ Some (under_way time p.period throttled)
  pub some : 0 < work
  pub fits : Fits c work (budget p)
  pub refers : Refers c.script c.reference time

-- BLOCKED: no job is under way, and its deadline has passed when it wakes
pub record Rests (from u : ℕ) (s : Server) (c : CursorView) (o : Option Job) : Type 0 where
  pub none : o ≡ None
  pub ahead : from ≤ u
  pub due : IfSome s.deadline (λ d. d ≤ u)
  pub refers : Refers c.script c.reference u

-- between two ticks
abbrev pub OnTimeIn : ℕ → ParamsView → Server → ℕ → CursorView → Option Job → Condition → Type 0
OnTimeIn time p s work c o Ready = Runs time p s work c o
OnTimeIn time p s work c o Throttled = Holds time p s work c o
OnTimeIn time p s work c o (Blocked u) = Rests time u s c o
OnTimeIn time p s work c o Waiting = ⊥
OnTimeIn time p s work c o Leaving = o ≡ None

-- and after part 3 of a tick
abbrev pub MidIn : ℕ → ParamsView → Server → ℕ → CursorView → Option Job → Condition → Type 0
MidIn time p s work c o Ready = Runs time p s work c o
MidIn time p s work c o Throttled = ⊥
MidIn time p s work c o (Blocked u) = Rests (time + 1) u s c o
MidIn time p s work c o Waiting = ⊥
MidIn time p s work c o Leaving = o ≡ None

pub record Keeps (p : ParamsView) (c : CursorView) : Type 0 where
  pub budgets : KeepsBudget p.runtime p.period c.script
  pub script : IsScript c.script

pub keeps_on : (p : ParamsView) (c d : CursorView) → d.script ≡ c.script → Keeps p c → Keeps p d
keeps_on p c d same h = record {
  budgets = subst (λ s. KeepsBudget p.runtime p.period s) (sym same) h.budgets;
  script = subst (λ s. IsScript s) (sym same) h.script;
}

abbrev pub OnTime : ℕ → Task → Option Job → Type 0
OnTime time t o = Keeps t.params t.cursor × OnTimeIn time t.params t.server t.work t.cursor o t.condition

abbrev pub Mid : ℕ → Task → Option Job → Type 0
Mid time t o = Keeps t.params t.cursor × MidIn time t.params t.server t.work t.cursor o t.condition

-- of the tasks of a number: there is one, or it has left
abbrev pub AreOnTime : ℕ → List Task → Option Job → Type 0
AreOnTime time [] o = o ≡ None
AreOnTime time (t ∷ []) o = OnTime time t o
AreOnTime time (t ∷ u ∷ ts) o = ⊥

abbrev pub AreMid : ℕ → List Task → Option Job → Type 0
AreMid time [] o = o ≡ None
AreMid time (t ∷ []) o = Mid time t o
AreMid time (t ∷ u ∷ ts) o = ⊥
