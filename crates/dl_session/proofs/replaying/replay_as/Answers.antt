use Rattle.std.proofs.Common.{sym, subst}
use Rattle.counted_io.specs.Sides.{side}
use Rattle.calls_trace.specs.Answer.{Streams, replayed_text, streams}
use Rattle.dl_session.specs.Answer.{IsSessionFaultBy}
use Rattle.dl_session.proofs.DomainEvents.{logged}
use Rattle.dl_session.proofs.replaying.replay_as.Goals as goal

pub returns-in-Err-clause-err : goal.returns-in-Err-clause-err
returns-in-Err-clause-err g c =
    let r = side g.R.Read.remaining c.args.reader.now c.replay_as.new.reader in
    let w = side g.W.Write.contents c.args.writer.now c.replay_as.new.writer in
    let s : Streams = streams r w in
    let text = replayed_text c.args.print in
    subst (IsSessionFaultBy text s) (sym c.from.ensures) (logged text s c.in-Err.fault c.in-Err.ensures.err)
