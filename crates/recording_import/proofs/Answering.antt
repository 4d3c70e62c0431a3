-- What an import answers to a fault of the tasks file.
use Rattle.std.proofs.Common.{◌≡◌, ◌∙◌, ℕ, List, Option, Some, None, Result, Ok, Err, refl, sym, ap, subst}
use Rattle.std.specs.Prelude.{IfOk}
use Rattle.std.specs.declared.vec.Vec.{Vec}
use Rattle.std.specs.Global.{Global}
use Rattle.std.specs.Io.KnownBytes.{Keeps}
use Rattle.counted_io.specs.Sides.{Side, IsUntouched}
use Rattle.recording_import.specs.declared.options.ImportOptions.{ImportOptions}
use Rattle.recording_import.specs.declared.fault.ImportInput.TheVariants.{Tasks}
use Rattle.recording_import.specs.declared.fault.TextFault.{TextFault}
use Rattle.recording_import.specs.declared.fault.TextFault.TheVariants as text
use Rattle.recording_import.specs.Answer.{ImportStreams, IsImportFault}
use Rattle.recording_import.specs.Jobs.{IsTableFault}
use Rattle.recording_import.specs.private.Met.{import_fault_of, IsInputFault}

keeps : (o : Option (List ℕ)) → Keeps o o
keeps None = tt
keeps (Some bytes) = refl

pub untouched : (s : Side) → s.after ≡ s.before → IsUntouched s
untouched s e = record {
  kept = subst (λ (o : Option (List ℕ)). Keeps s.before.bytes o) (sym (ap (λ m. m.bytes) e)) (keeps s.before.bytes);
  no_fault = ap (λ m. m.faults) e;
}

-- a fault of the tasks file
pub of_tasks : (o : ImportOptions) (s : ImportStreams) (e : TextFault) → IsInputFault Tasks s.tasks e → IsUntouched s.recorded → IsUntouched s.writer → IsImportFault o s (import_fault_of Tasks e)
of_tasks o s (text.BadLine n) h order unwritten = record { here = h; order = order; unwritten = unwritten }
of_tasks o s text.Read h order unwritten = record { here = h; order = order; unwritten = unwritten }
of_tasks o s text.Memory h order unwritten = record { tasks = h; recorded = order.no_fault; unwritten = unwritten }

pub table_of_tasks : (o : ImportOptions) (s : ImportStreams) (e : TextFault) → IsInputFault Tasks s.tasks e → IsUntouched s.recorded → IsUntouched s.writer → IsTableFault o s (import_fault_of Tasks e)
table_of_tasks o s (text.BadLine n) h order unwritten = record { here = h; order = order; unwritten = unwritten }
table_of_tasks o s text.Read h order unwritten = record { here = h; order = order; unwritten = unwritten }
table_of_tasks o s text.Memory h order unwritten = record { tasks = h; recorded = order.no_fault; unwritten = unwritten }

-- a text that is another
pub same_text : {E : Type 0} (r : Result (Vec ℕ Global) E) (a b : List ℕ) → a ≡ b → IfOk r (λ v. v.items ≡ a) → IfOk r (λ v. v.items ≡ b)
same_text (Ok v) a b e h = h ∙ e
same_text (Err x) a b e h = tt
