use Rattle.std.proofs.Common.{List, ℕ, arith, subst}
use Rattle.std.proofs.lemmas.Result.{err_from_is_err_and}
use Rattle.counted_io.specs.Sides.{Side, side}
use Rattle.calls_trace.specs.declared.run_text.RunText.TheVariants.{Chart}
use Rattle.calls_trace.specs.Written.{IsUnwritten, IsWritten}
use Rattle.calls_trace.specs.private.RunTexts.{text_of_all}
use Rattle.calls_trace.proofs.Replayed.{unwritten}
use Rattle.calls_trace.proofs.Sketches.{as_many_ahead, chart_ahead_is}
use Rattle.calls_trace.proofs.writing.write_read_chart.Goals as goal

pub write_sketched-requires-clause-few : goal.write_sketched-requires-clause-few
write_sketched-requires-clause-few g c =
    let r = c.in_ok-sections.ensures.sections in
    let most = r.read.within.most in
    omega (arith, as_many_ahead c.in_ok-sections.sections.items r.sections r.same, most)

pub write_sketched-requires-clause-ready : goal.write_sketched-requires-clause-ready
write_sketched-requires-clause-ready g c = c.in_ok-sections.ensures.sections.ready

pub returns-in_err-write_sketched-clause-err : goal.returns-in_err-write_sketched-clause-err
returns-in_err-write_sketched-clause-err g c =
    let w : Side = side g.W.Write.contents c.args.writer.now c.write_sketched.new.writer in
    let r = c.in_ok-sections.ensures.sections in
    let e = c.in_err-write_sketched.field-0.0 in
    let p = err_from_is_err_and c.from_residual-in_err-write_sketched.result c.from_residual-in_err-write_sketched.ensures.1 in
    rw (p.1, p.2) (unwritten c.args.text.now (text_of_all (Chart c.args.span)) w r.sections e r.read r.spelled (subst (λ (t : List ℕ). IsUnwritten w t e) (chart_ahead_is c.args.span c.in_ok-sections.sections.items r.sections r.same) c.in_err-write_sketched.ensures.err))

pub returns-clause-ok : goal.returns-clause-ok
returns-clause-ok g c =
    let w : Side = side g.W.Write.contents c.args.writer.now c.write_sketched.new.writer in
    let r = c.in_ok-sections.ensures.sections in
    record {
      spells = record { sections = r.sections; read = r.read; spelled = r.spelled };
      written = subst (λ (t : List ℕ). IsWritten w t) (chart_ahead_is c.args.span c.in_ok-sections.sections.items r.sections r.same) c.in_ok-write_sketched.ensures.ok;
    }
