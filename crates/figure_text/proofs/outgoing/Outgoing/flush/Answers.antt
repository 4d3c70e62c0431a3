use Rattle.std.proofs.Common.{◌+◌, ◌%◌, ◌^◌, refl, [], append-nil, subst, take}
use Rattle.counted_io.specs.Sides.{inner_of}
use Rattle.figure_text.specs.private.Outgoing.{OutgoingView, Stops}
use Rattle.figure_text.proofs.Sending.{stops_at}
use Rattle.figure_text.proofs.outgoing.Outgoing.flush.Goals as goal

pub returns-in-Err-clause-err : goal.returns-in-Err-clause-err
returns-in-Err-clause-err g c =
    let o = c.self.inside in
    let first : OutgoingView = record { waiting = take o.len o.bytes; written = o.written } in
    let last : OutgoingView = record { waiting = take o.len o.bytes; written = (o.written + c.in-Err.n) % 2 ^ 64 } in
    subst (λ (v : OutgoingView). Stops (g.W.Write.contents (inner_of c.args.writer.now)) (g.W.Write.contents (inner_of c.write_all.new.self)) v last []) c.self.view_is
    (stops_at (g.W.Write.contents (inner_of c.args.writer.now)) (g.W.Write.contents (inner_of c.write_all.new.self)) first last [] (take o.len o.bytes) c.in-Err.n (append-nil (take o.len o.bytes)) refl c.in-Err.ensures.err)
