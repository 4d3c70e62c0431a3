use Rattle.std.proofs.lemmas.Result.{err_from_is_err_and}
use Rattle.counted_io.specs.Sides.{Side, side}
use Rattle.reply_text.specs.Replies.{replies_of}
use Rattle.calls_trace.proofs.Replayed.{unwritten}
use Rattle.calls_trace.proofs.writing.write_answered_text.Goals as goal

pub returns-in_err-write_answered-clause-err : goal.returns-in_err-write_answered-clause-err
returns-in_err-write_answered-clause-err g c =
    let w : Side = side g.W.Write.contents c.args.writer.now c.write_answered.new.writer in
    let read = c.in_ok-sections.ensures.found in
    let p = err_from_is_err_and c.from_residual-in_err-write_answered.result c.from_residual-in_err-write_answered.ensures.1 in
    rw (p.1, p.2) (unwritten c.args.text.now replies_of w c.in_ok-sections.sections.items c.in_err-write_answered.field-0.0 read.0 read.1 c.in_err-write_answered.ensures.err)

pub returns-clause-ok : goal.returns-clause-ok
returns-clause-ok g c =
    let read = c.in_ok-sections.ensures.found in
    record { spells = record { sections = c.in_ok-sections.sections.items; read = read.0; spelled = read.1 }; written = c.in_ok-write_answered.ensures.ok }
