-- How the program ends: what it says on standard error, and its exit status (own).
use Rattle.std.specs.Prelude.{◌≡◌, ℕ, List, [], ◌∷◌, ◌++◌, Result, Ok, Err, codes}
use Rattle.std.specs.List.{flat_map}
use Rattle.dl_session.specs.Lines.{fault_text, refused_line}
use Rattle.dl_session.specs.Status.{exit_status}
use Rattle.run_options.specs.Words.{words_status, words_text}
use Rattle.dl_session.specs.declared.ending.Ending.{Ending}
use Rattle.dl_session.specs.declared.ending.Ending.TheVariants as ends
use Rattle.dl_session.specs.declared.fault.SessionFault.{SessionFault}
use Rattle.session.specs.declared.refusal.Refusal.{Refusal}
use Rattle.session.specs.declared.report.Report.{Report}

-- a text as a line of its own
abbrev pub as_line : List ℕ → List ℕ
as_line text = text ++ (10 ∷ [])

-- the line of a refused task
abbrev pub refused_task_line : ℕ × Refusal → List ℕ
refused_task_line refused =
    as_line (refused_line (record { number = refused.0; refusal = refused.1 }))

-- what is said on standard error: a line for each refused task in their order, or the one line of
-- the fault
abbrev pub ending_text : Ending → List ℕ
ending_text (ends.Done refused) = flat_map refused_task_line refused.now
ending_text (ends.Fault fault) = as_line (codes "dlsim: " ++ fault_text fault.now)
ending_text (ends.Words fault) = as_line (codes "dlsim: " ++ words_text fault)

-- 0 where the text was written, else the fault's own
abbrev pub ending_status : Ending → ℕ
ending_status (ends.Done refused) = 0
ending_status (ends.Fault fault) = exit_status fault.now
ending_status (ends.Words fault) = words_status fault

-- a run that answered Ok ends with the refused tasks of its report, another one with its fault
abbrev pub IsEndOfRun : Result Report SessionFault → Ending → Type 0
IsEndOfRun (Ok report) (ends.Done refused) = refused.now ≡ report.refused.items
IsEndOfRun (Ok report) (ends.Fault fault) = ⊥
IsEndOfRun (Ok report) (ends.Words fault) = ⊥
IsEndOfRun (Err fault) (ends.Fault logged) = logged.now ≡ fault
IsEndOfRun (Err fault) (ends.Done refused) = ⊥
IsEndOfRun (Err fault) (ends.Words other) = ⊥

-- a replay that answered Ok ends with no line, another one with its fault
abbrev pub IsEndOfReplay : {A : Type 0} → Result A SessionFault → Ending → Type 0
IsEndOfReplay (Ok done) (ends.Done refused) = refused.now ≡ []
IsEndOfReplay (Ok done) (ends.Fault fault) = ⊥
IsEndOfReplay (Ok done) (ends.Words fault) = ⊥
IsEndOfReplay (Err fault) (ends.Fault logged) = logged.now ≡ fault
IsEndOfReplay (Err fault) (ends.Done refused) = ⊥
IsEndOfReplay (Err fault) (ends.Words other) = ⊥
