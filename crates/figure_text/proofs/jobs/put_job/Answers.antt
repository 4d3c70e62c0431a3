use Rattle.std.proofs.Common.{◌≡◌, ℕ, List, ◌++◌, ap, ◌∙◌, subst}
use Rattle.counted_io.specs.Sides.{inner_of}
use Rattle.draft.specs.Columns.{right}
use Rattle.figure_text.specs.Jobs.{job_line}
use Rattle.figure_text.specs.private.JobLine.{after_name}
use Rattle.figure_text.specs.private.Outgoing.{Puts, Stops}
use Rattle.figure_text.proofs.Sending.{line_is, puts_then, stops_then, stops_before, on_ok, on_err, anyway}
use Rattle.figure_text.proofs.jobs.put_job.Goals as goal

pub returns-in_err-put_name-clause-err : goal.returns-in_err-put_name-clause-err
returns-in_err-put_name-clause-err g c =
    let name = right 15 c.args.name.now in
    let before = g.W.Write.contents (inner_of c.args.writer.now) in
    let mid = g.W.Write.contents (inner_of c.put_name.new.writer) in
    anyway c.from_residual.result
    (subst (Stops before mid c.args.out.now c.put_name.new.out) (line_is c.args.name.now c.args.number c.args.place c.args.job.now)
    (stops_before before mid c.args.out.now c.put_name.new.out name (after_name c.args.number c.args.place c.args.job.now) c.in_err-put_name.ensures.err))

pub returns-clause-ok : goal.returns-clause-ok
returns-clause-ok g c =
    let name = right 15 c.args.name.now in
    let before = g.W.Write.contents (inner_of c.args.writer.now) in
    let mid = g.W.Write.contents (inner_of c.put_name.new.writer) in
    let after = g.W.Write.contents (inner_of c.put.new.writer) in
    let line = c.as_slice.result.now in
    let whole : name ++ line ≡ job_line c.args.name.now c.args.number c.args.place c.args.job.now =
    ap (λ (xs : List ℕ). name ++ xs) (c.as_slice.ensures ∙ c.after_name.ensures) ∙ line_is c.args.name.now c.args.number c.args.place c.args.job.now in
    on_ok c.put.result
    (λ p. subst (Puts before after c.args.out.now c.put.new.self) whole
    (puts_then before mid after c.args.out.now c.put_name.new.out c.put.new.self name line c.in_ok-put_name.ensures.ok p))
    c.put.ensures.ok

pub returns-clause-err : goal.returns-clause-err
returns-clause-err g c =
    let name = right 15 c.args.name.now in
    let before = g.W.Write.contents (inner_of c.args.writer.now) in
    let mid = g.W.Write.contents (inner_of c.put_name.new.writer) in
    let after = g.W.Write.contents (inner_of c.put.new.writer) in
    let line = c.as_slice.result.now in
    let whole : name ++ line ≡ job_line c.args.name.now c.args.number c.args.place c.args.job.now =
    ap (λ (xs : List ℕ). name ++ xs) (c.as_slice.ensures ∙ c.after_name.ensures) ∙ line_is c.args.name.now c.args.number c.args.place c.args.job.now in
    on_err c.put.result
    (λ s. subst (Stops before after c.args.out.now c.put.new.self) whole
    (stops_then before mid after c.args.out.now c.put_name.new.out c.put.new.self name line c.in_ok-put_name.ensures.ok s))
    c.put.ensures.err
