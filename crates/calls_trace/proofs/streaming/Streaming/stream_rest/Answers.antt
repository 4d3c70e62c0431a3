use Rattle.calls_trace.proofs.StreamedCalls.{still_among_rest}
use Rattle.calls_trace.proofs.streaming.Streaming.stream_rest.Goals as goal

pub returns-clause-among : goal.returns-clause-among
returns-clause-among c =
    let done = c.advance_streamed_on in
    still_among_rest c.args.self.now done.new.state done.new.accounting done.result.ticks c.requires.before done.ensures.state done.ensures.streamed
