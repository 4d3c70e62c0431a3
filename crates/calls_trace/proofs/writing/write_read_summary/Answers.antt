use Rattle.std.proofs.Common.{List, ℕ, length, ap, subst, arith}
use Rattle.std.proofs.lemmas.Result.{err_from_is_err_and}
use Rattle.counted_io.specs.Sides.{Side, side}
use Rattle.calls_trace.specs.declared.run_text.RunText.TheVariants.{Summary}
use Rattle.calls_trace.specs.Written.{IsUnwritten, IsWritten}
use Rattle.calls_trace.specs.private.RunTexts.{text_of_all}
use Rattle.calls_trace.proofs.StreamedCalls.{as_many_summed, summed_text_is}
use Rattle.calls_trace.proofs.Replayed.{unwritten}
use Rattle.calls_trace.proofs.writing.write_read_summary.Goals as goal

pub write_summed-requires-clause-few : goal.write_summed-requires-clause-few
write_summed-requires-clause-few g c =
    let r = c.in_ok-runs.ensures.runs in
    let most = r.read.within.most in
    omega (arith, as_many_summed c.in_ok-runs.runs.items r.sections r.figures, most, ap (λ rs. length rs) c.deref.ensures.value)

pub returns-in_err-write_summed-clause-err : goal.returns-in_err-write_summed-clause-err
returns-in_err-write_summed-clause-err g c =
    let w : Side = side g.W.Write.contents c.args.writer.now c.write_summed.new.writer in
    let r = c.in_ok-runs.ensures.runs in
    let e = c.in_err-write_summed.field-0.0 in
    let p = err_from_is_err_and c.from_residual-in_err-write_summed.result c.from_residual-in_err-write_summed.ensures.1 in
    rw (p.1, p.2) (unwritten c.args.text.now (text_of_all Summary) w r.sections e r.read r.spelled (subst (λ (t : List ℕ). IsUnwritten w t e) (summed_text_is c.deref.result.now c.in_ok-runs.runs.items r.sections c.deref.ensures.value r.figures) c.in_err-write_summed.ensures.err))

pub returns-clause-ok : goal.returns-clause-ok
returns-clause-ok g c =
    let w : Side = side g.W.Write.contents c.args.writer.now c.write_summed.new.writer in
    let r = c.in_ok-runs.ensures.runs in
    record {
      spells = record { sections = r.sections; read = r.read; spelled = r.spelled };
      written = subst (λ (t : List ℕ). IsWritten w t) (summed_text_is c.deref.result.now c.in_ok-runs.runs.items r.sections c.deref.ensures.value r.figures) c.in_ok-write_summed.ensures.ok;
    }
