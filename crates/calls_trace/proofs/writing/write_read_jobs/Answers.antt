use Rattle.std.proofs.Common.{List, ℕ, refl, subst}
use Rattle.std.proofs.lemmas.Result.{err_from_is_err_and}
use Rattle.counted_io.specs.Sides.{Side, side}
use Rattle.calls_trace.specs.declared.run_text.RunText.TheVariants.{Jobs}
use Rattle.calls_trace.specs.Written.{IsUnwritten, IsWritten}
use Rattle.calls_trace.specs.private.RunTexts.{text_of_all}
use Rattle.calls_trace.proofs.StreamedJobs.{jobs_text_is}
use Rattle.calls_trace.proofs.Replayed.{unwritten}
use Rattle.calls_trace.proofs.writing.write_read_jobs.Goals as goal

pub returns-in_err-write_summed_jobs-clause-err : goal.returns-in_err-write_summed_jobs-clause-err
returns-in_err-write_summed_jobs-clause-err g c =
    let w : Side = side g.W.Write.contents c.args.writer.now c.write_summed_jobs.new.writer in
    let r = c.in_ok-runs.ensures.runs in
    let e = c.in_err-write_summed_jobs.field-0.0 in
    let p = err_from_is_err_and c.from_residual-in_err-write_summed_jobs.result c.from_residual-in_err-write_summed_jobs.ensures.1 in
    rw (p.1, p.2) (unwritten c.args.text.now (text_of_all Jobs) w r.sections e r.read r.spelled (subst (λ (t : List ℕ). IsUnwritten w t e) (jobs_text_is c.deref.result.now c.in_ok-runs.runs.items r.sections c.deref.ensures.value (r.are_jobs refl)) c.in_err-write_summed_jobs.ensures.err))

pub returns-clause-ok : goal.returns-clause-ok
returns-clause-ok g c =
    let w : Side = side g.W.Write.contents c.args.writer.now c.write_summed_jobs.new.writer in
    let r = c.in_ok-runs.ensures.runs in
    record {
      spells = record { sections = r.sections; read = r.read; spelled = r.spelled };
      written = subst (λ (t : List ℕ). IsWritten w t) (jobs_text_is c.deref.result.now c.in_ok-runs.runs.items r.sections c.deref.ensures.value (r.are_jobs refl)) c.in_ok-write_summed_jobs.ensures.ok;
    }
