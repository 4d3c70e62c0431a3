use Rattle.std.proofs.Common.{refl, subst, sym}
use Rattle.counted_io.specs.Sides.{side}
use Rattle.recording_import.specs.declared.fault.ImportFault.{ImportFault}
use Rattle.recording_import.specs.Answer.{import_streams}
use Rattle.recording_import.specs.Jobs.{IsTableFault}
use Rattle.recording_import.proofs.Answering.{untouched, table_of_tasks}
use Rattle.recording_import.proofs.tabling.import_jobs.Goals as goal

pub returns-in-Err-clause-err : goal.returns-in-Err-clause-err
returns-in-Err-clause-err g c =
    let s = import_streams (side g.T.Read.remaining c.args.tasks.now c.tasks_from.new.reader) (side g.R.Read.remaining c.args.recorded.now c.args.recorded.now) (side g.W.Write.contents c.args.writer.now c.args.writer.now) in
    subst (λ (e : ImportFault). IsTableFault c.args.options s e) (sym c.fault_of.ensures) (table_of_tasks c.args.options s c.in-Err.fault c.in-Err.ensures.fault (untouched s.recorded refl) (untouched s.writer refl))
