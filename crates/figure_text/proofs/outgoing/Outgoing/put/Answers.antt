use Rattle.std.proofs.Common.{[]}
use Rattle.counted_io.specs.Sides.{inner_of}
use Rattle.figure_text.proofs.Sending.{puts_waiting, puts_then, stops_then, stops_before, on_ok, on_err, anyway}
use Rattle.figure_text.proofs.outgoing.Outgoing.put.Goals as goal

pub returns-then-has_room-clause-ok : goal.returns-then-has_room-clause-ok
returns-then-has_room-clause-ok g c = puts_waiting _ c.args.self.now c.append.new.self c.args.text.now c.append.ensures

pub returns-in_err-flush-clause-err : goal.returns-in_err-flush-clause-err
returns-in_err-flush-clause-err g c =
    anyway c.from_residual.result
    (stops_before (g.W.Write.contents (inner_of c.args.writer.now)) (g.W.Write.contents (inner_of c.flush.new.writer)) c.args.self.now c.flush.new.self [] c.args.text.now c.in_err-flush.ensures.err)

pub returns-clause-ok : goal.returns-clause-ok
returns-clause-ok g c =
    let known = g.W.Write.contents in
    on_ok c.start.result
    (puts_then (known (inner_of c.args.writer.now)) (known (inner_of c.flush.new.writer)) (known (inner_of c.start.new.writer)) c.args.self.now c.flush.new.self c.start.new.self [] c.args.text.now c.in_ok-flush.ensures.ok)
    c.start.ensures.ok

pub returns-clause-err : goal.returns-clause-err
returns-clause-err g c =
    let known = g.W.Write.contents in
    on_err c.start.result
    (stops_then (known (inner_of c.args.writer.now)) (known (inner_of c.flush.new.writer)) (known (inner_of c.start.new.writer)) c.args.self.now c.flush.new.self c.start.new.self [] c.args.text.now c.in_ok-flush.ensures.ok)
    c.start.ensures.err
