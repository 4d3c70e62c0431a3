use Rattle.calls_trace.specs.private.Sketched.{streamed_as}
use Rattle.calls_trace.proofs.StreamedCalls.{still_among_rest}
use Rattle.calls_trace.proofs.sketching.Sketching.stream_rest.Goals as goal

pub returns-clause-among : goal.returns-clause-among
returns-clause-among c =
    let done = c.advance_streamed_on in
    still_among_rest (streamed_as c.args.self.now) done.new.state done.new.accounting.streamed done.result.ticks c.requires.before done.ensures.state done.ensures.streamed
