-- What a domain logged in a run under way, of which a front may be forgotten.
use Rattle.std.specs.Prelude.{ℕ, ◌≡◌, ◌<◌, List, [], ◌∷◌, ◌++◌, filter}
use Rattle.domain_run.specs.declared.call.Call.{Call}
use Rattle.domain_run.specs.declared.call.Call.TheVariants.{Admit, Regrade, Wake, Leave, Advance, Limit, Depart, Arrive}
use Rattle.domain_run.specs.declared.happened.Happened.{Happened}
use Rattle.domain_run.specs.Domain.{Domain, empty_domain}
use Rattle.domain_run.specs.Happened.{logged_by_calls}
use Rattle.domain_run.specs.LoggedRun.{LoggedRunView}
use Rattle.domain_run.specs.Passing.{without_switches}
use Rattle.domain_run.specs.Run.{run_of}
use Rattle.switch_text.specs.LoggedLine.{has_line}

-- what has a line: all but the cuts
abbrev pub with_lines : List Happened → List Happened
with_lines hs = filter (λ h. has_line h.what) hs

-- of what calls log, what has a line
abbrev pub lines_logged_by : Domain → List Call → List Happened
lines_logged_by d cs = with_lines (logged_by_calls d cs)

-- what is made of a call at once: an advance is made later, tick by tick
abbrev pub made_at_once : Call → List Call
made_at_once (Admit number name params delay script) =
    Admit number name params delay script ∷ []
made_at_once (Regrade number params word) = Regrade number params word ∷ []
made_at_once (Wake number) = Wake number ∷ []
made_at_once (Leave number) = Leave number ∷ []
made_at_once (Advance n) = []
made_at_once (Limit limit word) = Limit limit word ∷ []
made_at_once (Depart number) = Depart number ∷ []
made_at_once (Arrive number name params script) = Arrive number name params script ∷ []

-- calls led from an empty domain to this one, whatever switches wait; and what waits of what
-- happened is the end of what they logged and has a line
pub record IsLoggedSoFar (v : LoggedRunView) : Type 0 where
  pub cpus : ℕ
  pub limit : ℕ
  pub some : 0 < cpus
  pub made : List Call
  pub gone : List Happened
  pub domain : without_switches v.domain ≡ without_switches (run_of cpus limit made)
  pub logged : lines_logged_by (empty_domain cpus limit) made ≡ gone ++ v.logged
