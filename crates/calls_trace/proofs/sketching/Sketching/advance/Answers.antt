use Rattle.std.proofs.Common.{◌≡◌, refl, arith}
use Rattle.domain_run.specs.declared.call.Call.TheVariants.{Advance}
use Rattle.calls_trace.specs.declared.streaming.Streaming.{Streaming}
use Rattle.calls_trace.specs.private.Sketched.{streamed_as}
use Rattle.calls_trace.proofs.StreamedCalls.{advance_before, advance_leads, ticks_of_first}
use Rattle.calls_trace.proofs.sketching.Sketching.advance.Goals as goal

pub advance_streamed_on-done-requires : goal.advance_streamed_on-done-requires
advance_streamed_on-done-requires c =
    let h = streamed_as c.args.self.now in
    let b = c.requires.before in
    record {
      early = omega (arith, b.ends, ticks_of_first (Advance c.args.ticks) h.calls);
      end = b.last;
      wanted = b.wanted;
      up_to = b.up_to;
    }

pub returns-clause-before : goal.returns-clause-before
returns-clause-before c =
    let h = streamed_as c.args.self.now in
    let done = c.advance_streamed_on-done in
    let k : Streaming = record { run = record { state = done.new.state; names = h.run.names; given = h.run.given; log = done.new.log }; accounting = done.new.accounting.streamed; calls = h.calls } in
    let all : done.result.ticks ≡ c.args.ticks = omega (arith, c.if-done-ticks.false, done.ensures.most) in
    advance_before h k c.args.ticks done.result.ticks c.now.ensures.domain all c.requires.before refl refl done.ensures.state done.ensures.streamed done.ensures.wanted done.ensures.empty done.ensures.up_to

pub returns-clause-leads : goal.returns-clause-leads
returns-clause-leads c =
    let h = streamed_as c.args.self.now in
    let done = c.advance_streamed_on-done in
    let k : Streaming = record { run = record { state = done.new.state; names = h.run.names; given = h.run.given; log = done.new.log }; accounting = done.new.accounting.streamed; calls = h.calls } in
    let all : done.result.ticks ≡ c.args.ticks = omega (arith, c.if-done-ticks.false, done.ensures.most) in
    advance_leads h k c.args.ticks done.result.ticks all refl refl refl done.ensures.state done.ensures.streamed done.ensures.empty
