-- The names and the parameters that a history gives, read off its replies.
use Rattle.std.specs.Prelude.{ℕ, ◌<◌, ◌≤◌, List, [], ◌∷◌, length, Option, Some}
use Rattle.attr_check.specs.ParamsView.{ParamsView}
use Rattle.domain_run.specs.declared.call.Call.{Call}
use Rattle.domain_run.specs.declared.call.Call.TheVariants.{Admit, Regrade, Arrive}
use Rattle.domain_run.specs.declared.call.Reply.{Reply}
use Rattle.domain_run.specs.declared.call.Reply.TheVariants.{Admitted, Changed}
use Rattle.domain_run.specs.Sound.{IsAdmitted}
use Rattle.calls_text.specs.declared.section.Entry.{Entry}
use Rattle.calls_trace.specs.Replay.{named_by}
use Rattle.calls_trace.specs.DomainEvents.{with_params}

-- an admission or an arrival that was granted names its number; an entry with any other reply, or
-- with none, names nobody
abbrev pub named_where : Option Reply → Call → (ℕ → List ℕ) → (ℕ → List ℕ)
named_where (Some Admitted) call names = named_by call names
named_where _ call names = names

abbrev pub names_given_by : Entry → (ℕ → List ℕ) → (ℕ → List ℕ)
names_given_by e names = named_where e.reply e.call names

-- the names after these entries
abbrev pub given_by_all : List Entry → (ℕ → List ℕ) → (ℕ → List ℕ)
given_by_all [] names = names
given_by_all (e ∷ es) names = given_by_all es (names_given_by e names)

-- each of these numbers has a name of 1 to 15 bytes
abbrev pub HaveNames : List ℕ → (ℕ → List ℕ) → Type 0
HaveNames used names =
    (n : ℕ) → IsAdmitted used n → (0 < length (names n)) × (length (names n) ≤ 15)

-- an admission or an arrival that was granted gives its number parameters, and so does a change
-- that was; an entry with any other reply, or with none, gives none
abbrev pub params_where : Call → Option Reply → (ℕ → ParamsView) → (ℕ → ParamsView)
params_where (Admit number name params delay script) (Some Admitted) given =
    with_params given number params
params_where (Arrive number name params script) (Some Admitted) given =
    with_params given number params
params_where (Regrade number params word) (Some Changed) given = with_params given number params
params_where _ _ given = given

abbrev pub params_given_by : Entry → (ℕ → ParamsView) → (ℕ → ParamsView)
params_given_by e given = params_where e.call e.reply given

-- the parameters after these entries
abbrev pub params_given_by_all : List Entry → (ℕ → ParamsView) → (ℕ → ParamsView)
params_given_by_all [] given = given
params_given_by_all (e ∷ es) given = params_given_by_all es (params_given_by e given)
