-- Which sections have a spelling, and which of them are read (own).
use Rattle.std.specs.Prelude.{◌≡◌, ℕ, ◌≤◌, ◌<◌, ◌*◌, ◌^◌, List, length, All, None, IfSome, Ok, if◌then◌else◌}
use Rattle.attr_check.specs.declared.attr.SchedAttr.{SchedAttr}
use Rattle.attr_check.specs.ParamsView.{ParamsView}
use Rattle.attr_check.specs.Accepted.{accepted}
use Rattle.task_script.specs.NameView.{IsName}
use Rattle.task_script.specs.script.ScriptView.{ScriptView, IsScript}
use Rattle.domain_run.specs.declared.call.Call.{Call}
use Rattle.domain_run.specs.declared.call.Call.TheVariants.{Admit, Regrade, Wake, Leave, Advance, Limit, Depart, Arrive}
use Rattle.calls_text.specs.declared.section.Entry.{Entry}
use Rattle.calls_text.specs.SectionView.{SectionView}
use Rattle.calls_text.specs.OwnCalls.{IsNumbered}
use Rattle.limits.specs.Limits as limits
use Rattle.limits.specs.Limits.{unit, max_advance, max_script_number, max_history}

-- ---- calls

abbrev pub IsClient : ℕ → Type 0
IsClient c = (0 < c) × (c ≤ 64)

abbrev pub IsTaskNumber : ℕ → Type 0
IsTaskNumber n = (0 < n) × (n ≤ 65535)

-- a task's own times in nanoseconds, with SCHED_DEADLINE (policy 6) and, where it reclaims,
-- SCHED_FLAG_RECLAIM (2) (sched_setattr(2))
abbrev pub attr_of : ParamsView → SchedAttr
attr_of p = record {
  policy = 6;
  flags = if p.reclaim then 2 else 0;
  runtime = p.runtime * 1000;
  deadline = p.deadline * 1000;
  period = p.period * 1000;
}

-- The attribute check gives these very parameters for their own times. So the period is written
-- out: the check gives the deadline for a period of 0.
abbrev pub IsChecked : ParamsView → Type 0
IsChecked p = accepted (attr_of p) ≡ Ok p

pub record IsAdmission (number : ℕ) (name : List ℕ) (params : ParamsView) (delay : ℕ)
    (script : ScriptView) : Type 0 where
  pub numbered : IsTaskNumber number
  pub named : IsName name
  pub checked : IsChecked params
  pub soon : delay ≤ max_script_number
  pub scripted : IsScript script

abbrev pub IsCall : Call → Type 0
IsCall (Admit number name params delay script) = IsAdmission number name params delay script
IsCall (Regrade number params word) =
    IsTaskNumber number × IsChecked params × IfSome word (λ seen. seen ≤ 2 ^ 26)
IsCall (Wake number) = IsTaskNumber number
IsCall (Leave number) = IsTaskNumber number
IsCall (Advance ticks) = (0 < ticks) × (ticks ≤ max_advance)
IsCall (Limit limit word) =
    (limits.least_limit ≤ limit) × (limit ≤ unit) × IfSome word (λ seen. seen ≤ 2 ^ 26)
IsCall (Depart number) = IsTaskNumber number
IsCall (Arrive number name params script) = IsAdmission number name params 0 script

-- ---- entries

pub record IsEntry (e : Entry) : Type 0 where
  pub client : IsClient e.client
  pub call : IsCall e.call

-- ---- sections

pub record IsSection (s : SectionView) : Type 0 where
  pub some_cpus : 0 < s.cpus
  pub most_cpus : s.cpus ≤ 64
  pub least_limit : limits.least_limit ≤ s.limit
  pub most_limit : s.limit ≤ unit
  pub most_entries : length s.entries ≤ max_history
  pub entries : All IsEntry s.entries
  pub numbered : IsNumbered s.entries

-- 1 to 8 sections have a spelling
pub record AreSections (sections : List SectionView) : Type 0 where
  pub some : 0 < length sections
  pub most : length sections ≤ 8
  pub each : All IsSection sections

-- ---- what is read

-- replies are not written, so what is read has none
pub record AreRead (sections : List SectionView) : Type 0 where
  pub within : AreSections sections
  pub no_replies : All (λ s. All (λ e. e.reply ≡ None) s.entries) sections
