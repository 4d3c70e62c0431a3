use Rattle.std.proofs.Common.{map, ap, arith}
use Rattle.counted_io.specs.Sides.{inner_of}
use Rattle.figure_text.specs.Jobs.{jobs_text, jobs_view_of}
use Rattle.std.proofs.Common.{◌<◌, ◌^◌}
use Rattle.figure_text.specs.private.Outgoing.{OutgoingView}
use Rattle.figure_text.proofs.Sending.{all_out, front_out}
use Rattle.figure_text.proofs.jobs.write_jobs.Goals as goal

pub returns-in-Ok-clause-ok : goal.returns-in-Ok-clause-ok
returns-in-Ok-clause-ok g c =
    let after = g.W.Write.contents (inner_of c.put_all.new.writer) in
    all_out (g.W.Write.contents (inner_of c.args.writer.now)) after c.new-out.result c.put_all.new.out (jobs_text (map jobs_view_of c.args.domains.now)) (ap (λ (o : OutgoingView). o.waiting) c.new-out.ensures) c.in-Ok.ensures.emptied c.in-Ok.ensures.ok

pub returns-in-Err-clause-err : goal.returns-in-Err-clause-err
returns-in-Err-clause-err g c =
    let after = g.W.Write.contents (inner_of c.put_all.new.writer) in
    let small : c.written.result < 2 ^ 64 = omega arith in
    front_out (g.W.Write.contents (inner_of c.args.writer.now)) after c.new-out.result c.put_all.new.out (jobs_text (map jobs_view_of c.args.domains.now)) c.written.result (ap (λ (o : OutgoingView). o.waiting) c.new-out.ensures) (ap (λ (o : OutgoingView). o.written) c.new-out.ensures) c.requires.countable c.written.ensures small c.in-Err.ensures.err
