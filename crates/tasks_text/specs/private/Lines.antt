-- How a line is read, by an admission of a calls text. No public clause names it.
use Rattle.std.specs.Prelude.{◌≡◌, ℕ, ◌≤◌, false, List, [], ◌∷◌, ◌++◌, Option, Some, None, IfSome, slice_get, codes, decimal}
use Rattle.attr_check.specs.ParamsView.{ParamsView}
use Rattle.task_script.specs.NameView.{IsName}
use Rattle.domain_run.specs.declared.call.Call.{Call}
use Rattle.domain_run.specs.declared.call.Call.TheVariants.{Admit, Regrade, Wake, Leave, Advance, Limit, Depart, Arrive}
use Rattle.calls_text.specs.declared.section.Entry.{Entry}
use Rattle.calls_text.specs.SectionView.{SectionView}
use Rattle.calls_text.specs.Spelling.{line_of, flag_text}
use Rattle.calls_text.specs.Limits.{IsChecked}
use Rattle.tasks_text.specs.declared.task.Task.{Task}
use Rattle.tasks_text.specs.declared.line.Admission.{Admission}
use Rattle.tasks_text.specs.declared.fault.LineFault.{LineFault}
use Rattle.tasks_text.specs.declared.fault.LineFault.TheVariants.{Bad, Memory}
use Rattle.tasks_text.specs.Tasks.{pid_text, task_line, has_byte, IsTask}

-- the text has no such byte
abbrev pub LacksByte : ℕ → List ℕ → Type 0
LacksByte c [] = Unit {0}
LacksByte c (x ∷ xs) = (x ≡ c → ⊥) × LacksByte c xs

-- the fields of a line after the first
abbrev pub params_fields : ParamsView → List ℕ
params_fields p =
    line_of (decimal p.runtime ∷ decimal p.deadline ∷ decimal p.period ∷ flag_text p ∷ [])

-- a calls text of one admission
unfoldable pub admission_text : List ℕ → List ℕ → List ℕ → List ℕ
admission_text name rest delay =
    codes "dlcalls 1\ndomain 1 1048576\nadmit 1 1 "
    ++ (name ++ 32 ∷ (rest ++ 32 ∷ (delay ++ codes " 1:1{w}\n")))

-- the first call of the first section
abbrev pub first_entry : List SectionView → Option Entry
first_entry [] = None
first_entry (s ∷ ss) = slice_get s.entries 0

abbrev pub admission_of : Call → Option Admission
admission_of (Admit number name params delay script) =
    Some (record { name = name; params = params; delay = delay })
admission_of (Regrade number params word) = None
admission_of (Wake number) = None
admission_of (Leave number) = None
admission_of (Advance ticks) = None
admission_of (Limit limit word) = None
admission_of (Depart number) = None
admission_of (Arrive number name params script) = None

abbrev pub admission_at : Option Entry → Option Admission
admission_at None = None
admission_at (Some e) = admission_of e.call

pub record IsAdmissible (a : Admission) : Type 0 where
  pub named : IsName a.name
  pub checked : IsChecked a.params
  pub soon : a.delay ≤ 1000000000

-- these are the fields of an admission
pub record AreFieldsOf (a : Admission) (name rest delay : List ℕ) : Type 0 where
  pub name_is : name ≡ a.name
  pub rest_is : rest ≡ params_fields a.params
  pub delay_is : delay ≡ decimal a.delay

-- the task of a thread that is named by its number, which stands in place of the delay
abbrev pub numbered_task : Admission → Task
numbered_task a = record { name = a.name; pid = Some a.delay; params = a.params }

abbrev pub unnumbered_task : Admission → Task
unnumbered_task a = record { name = a.name; pid = None; params = a.params }

pub record IsOwnLine (t : Task) (line : List ℕ) : Type 0 where
  pub plain : has_byte 61 t.name ≡ false
  pub line_is : line ≡ task_line t

-- what an admission keeps of a task's limits
pub record IsTaskWithin (t : Task) : Type 0 where
  pub named : IsName t.name
  pub numbered : IfSome t.pid (λ pid. pid ≤ 1000000000)
  pub checked : IsChecked t.params

-- the line of a task is these, with a space between them
pub record AreTaskFields (t : Task) (first rest : List ℕ) : Type 0 where
  pub first_is : first ≡ t.name ++ pid_text t.pid
  pub rest_is : rest ≡ params_fields t.params

-- what is said of a line that is not taken
abbrev pub IsNoTask : List ℕ → LineFault → Type 0
IsNoTask line Bad = (t : Task) → IsTask t → line ≡ task_line t → ⊥
IsNoTask line Memory = Unit {0}
