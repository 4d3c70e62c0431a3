-- What `import` prints, from the text at `print`.
use Rattle.std.proofs.Common.{◌≡◌, ◌∙◌, ℕ, List, Option, Some, None, ap, arith, codes, length, refl, sym}
use Rattle.clap.specs.Words.{Row, first_of}
use Rattle.command_line.specs.Found.{IsTextAt}
use Rattle.command_line.specs.Importing.{IsImportPrintAt}
use Rattle.command_line.specs.declared.importing.ImportPrint.TheVariants.{Calls, Jobs}

no_text : length (codes "") ≡ length (codes "jobs") → ⊥
no_text bad = absurd (omega (arith, bad))

pub jobs_asked : (rows : List Row) (text : List ℕ) → IsTextAt rows (codes "print") text → text ≡ codes "jobs" → IsImportPrintAt rows Jobs
jobs_asked rows text read is = record {
  jobs = λ at. refl;
  calls = λ differs. absurd (found (first_of (codes "print") rows) refl differs);
}
  where
    found : (o : Option (List ℕ)) → first_of (codes "print") rows ≡ o → (first_of (codes "print") rows ≡ Some (codes "jobs") → ⊥) → ⊥
    found None at differs = no_text (ap length (sym (read.absent at) ∙ is))
    found (Some t) at differs = differs (at ∙ ap (λ x. Some x) (sym (read.some t at) ∙ is))

pub calls_asked : (rows : List Row) (text : List ℕ) → IsTextAt rows (codes "print") text → (text ≡ codes "jobs" → ⊥) → IsImportPrintAt rows Calls
calls_asked rows text read differs = record {
  jobs = λ at. absurd (differs (read.some (codes "jobs") at));
  calls = λ other. refl;
}
