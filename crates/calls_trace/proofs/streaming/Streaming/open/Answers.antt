use Rattle.std.proofs.Common.{refl}
use Rattle.calls_trace.specs.declared.streaming.Streaming.{Streaming}
use Rattle.calls_trace.proofs.StreamedCalls.{opened_before, opened_leads}
use Rattle.calls_trace.proofs.streaming.Streaming.open.Goals as goal

pub returns : goal.returns
returns c =
    let f = c.args.foreseen in
    let r = c.in-Ok-open.ensures in
    let h : Streaming = record { run = c.in-Ok-open.run'; accounting = c.in-Ok.accounting; calls = c.into_left.result } in
    record {
      before = opened_before h c.args.cpus c.args.limit f c.requires.foreseen c.requires.few r.state r.wanted (r.unlogged refl) c.in-Ok.ensures c.into_left.ensures;
      leads = opened_leads h c.args.cpus c.args.limit f r.state r.names r.given (r.unlogged refl) c.in-Ok.ensures c.into_left.ensures;
    }
