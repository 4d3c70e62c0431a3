use Rattle.std.proofs.Common.{List, ℕ, refl, subst, sym}
use Rattle.std.specs.Io.KnownBytes.{Appends}
use Rattle.counted_io.specs.Sides.{side, inner_of}
use Rattle.counted_io.specs.Faults.{TakesFront}
use Rattle.trace_compare.specs.Tasks.{HaveSmallTimes}
use Rattle.compare_report.specs.Answer.{compare_streams}
use Rattle.compare_report.proofs.Answering.{of_model, of_recorded, report_is, untouched, well, within_names}
use Rattle.compare_report.proofs.comparing.compare_texts.Goals as goal

pub read_text-requires : goal.read_text-requires
read_text-requires g c = c.requires.model

pub returns-in-Err-clause-ok : goal.returns-in-Err-clause-ok
returns-in-Err-clause-ok g c = tt

pub returns-in-Err-clause-err : goal.returns-in-Err-clause-err
returns-in-Err-clause-err g c =
    let s = compare_streams (side g.M.Read.remaining c.args.model.now c.read_text.new.reader) (side g.R.Read.remaining c.args.recorded.now c.args.recorded.now) (side g.W.Write.contents c.args.writer.now c.args.writer.now) in
    of_model c.args.options s c.in-Err.fault c.in-Err.ensures.fault (untouched s.recorded refl) (untouched s.writer refl)

pub read_text-requires-2 : goal.read_text-requires-2
read_text-requires-2 g c = c.requires.recorded

pub returns-in-Err-read_text-clause-ok : goal.returns-in-Err-read_text-clause-ok
returns-in-Err-read_text-clause-ok g c = tt

pub returns-in-Err-read_text-clause-err : goal.returns-in-Err-read_text-clause-err
returns-in-Err-read_text-clause-err g c =
    let s = compare_streams (side g.M.Read.remaining c.args.model.now c.read_text.new.reader) (side g.R.Read.remaining c.args.recorded.now c.read_text-2.new.reader) (side g.W.Write.contents c.args.writer.now c.args.writer.now) in
    of_recorded c.args.options s c.in-Err-read_text.fault c.in-Err-read_text.ensures.fault (well s.model _ _ c.in-Ok.steps.items c.new-names.ensures c.in-Ok.ensures.read c.in-Ok.ensures.fine) (untouched s.writer refl)

pub report_of-told-requires-clause-many : goal.report_of-told-requires-clause-many
report_of-told-requires-clause-many g c = within_names _ _ c.len-many.result c.len-many.ensures c.in-Ok-read_text.ensures.grows

pub report_of-told-requires-clause-model : goal.report_of-told-requires-clause-model
report_of-told-requires-clause-model g c = subst HaveSmallTimes (sym c.deref.ensures.value) c.in-Ok.ensures.small

pub report_of-told-requires-clause-recorded : goal.report_of-told-requires-clause-recorded
report_of-told-requires-clause-recorded g c = subst HaveSmallTimes (sym c.deref-2.ensures.value) c.in-Ok-read_text.ensures.small

pub returns-in-Err-told-clause-ok : goal.returns-in-Err-told-clause-ok
returns-in-Err-told-clause-ok g c = tt

pub returns-in-Err-told-clause-err : goal.returns-in-Err-told-clause-err
returns-in-Err-told-clause-err g c = record {
  model = c.in-Ok.ensures.fine;
  recorded = c.in-Ok-read_text.ensures.fine;
  unwritten = untouched (side g.W.Write.contents c.args.writer.now c.args.writer.now) refl;
}

pub write_all-requires : goal.write_all-requires
write_all-requires g c = c.requires.writer

pub returns-in-Ok-write_all-clause-ok : goal.returns-in-Ok-write_all-clause-ok
returns-in-Ok-write_all-clause-ok g c =
    let s = compare_streams (side g.M.Read.remaining c.args.model.now c.read_text.new.reader) (side g.R.Read.remaining c.args.recorded.now c.read_text-2.new.reader) (side g.W.Write.contents c.args.writer.now c.write_all.new.self) in
    record {
      text = c.in-Ok-told.report.text.items;
      report = report_is c.args.options s _ _ _ c.len-many.result c.in-Ok.steps.items c.in-Ok-read_text.steps.items c.deref.result.now c.deref-2.result.now c.in-Ok-told.report.text.items c.in-Ok-told.report.tally
          c.new-names.ensures c.len-many.ensures c.in-Ok-read_text.ensures.grows c.deref.ensures.value c.deref-2.ensures.value
          c.in-Ok.ensures.read c.in-Ok-read_text.ensures.read c.in-Ok-told.ensures c.in-Ok.ensures.fine c.in-Ok-read_text.ensures.fine;
      written = subst (λ (t : List ℕ). Appends (g.W.Write.contents (inner_of c.args.writer.now)) (g.W.Write.contents (inner_of c.write_all.new.self)) t) c.deref-3.ensures.value c.in-Ok-write_all.ensures.ok;
      writes = c.in-Ok-write_all.ensures.faults;
    }

pub returns-in-Ok-write_all-clause-err : goal.returns-in-Ok-write_all-clause-err
returns-in-Ok-write_all-clause-err g c = tt

pub returns-clause-ok : goal.returns-clause-ok
returns-clause-ok g c = tt

pub returns-clause-err : goal.returns-clause-err
returns-clause-err g c =
    let s = compare_streams (side g.M.Read.remaining c.args.model.now c.read_text.new.reader) (side g.R.Read.remaining c.args.recorded.now c.read_text-2.new.reader) (side g.W.Write.contents c.args.writer.now c.write_all.new.self) in
    record {
      text = c.in-Ok-told.report.text.items;
      tally = c.in-Ok-told.report.tally;
      report = report_is c.args.options s _ _ _ c.len-many.result c.in-Ok.steps.items c.in-Ok-read_text.steps.items c.deref.result.now c.deref-2.result.now c.in-Ok-told.report.text.items c.in-Ok-told.report.tally
          c.new-names.ensures c.len-many.ensures c.in-Ok-read_text.ensures.grows c.deref.ensures.value c.deref-2.ensures.value
          c.in-Ok.ensures.read c.in-Ok-read_text.ensures.read c.in-Ok-told.ensures c.in-Ok.ensures.fine c.in-Ok-read_text.ensures.fine;
      taken = subst (λ (t : List ℕ). TakesFront (g.W.Write.contents (inner_of c.args.writer.now)) (g.W.Write.contents (inner_of c.write_all.new.self)) t c.in-Err-write_all.written) c.deref-3.ensures.value c.in-Err-write_all.ensures.err;
      writes = c.in-Err-write_all.ensures.faults;
    }
