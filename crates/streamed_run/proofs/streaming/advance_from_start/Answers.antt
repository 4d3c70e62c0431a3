use Rattle.std.proofs.Common.{◌++◌, ◌∙◌, ap, arith}
use Rattle.domain_run.specs.Happened.{logged_by_ticks}
use Rattle.domain_run.specs.Tick.{ticks}
use Rattle.run_figures.specs.Accounting.{AccountingView, with_piece}
use Rattle.streamed_run.proofs.Pieces.{nothing_up_to}
use Rattle.streamed_run.proofs.streaming.advance_from_start.Goals as goal

pub advance_streamed_on-requires : goal.advance_streamed_on-requires
advance_streamed_on-requires g c =
    let d = c.args.state.now in
    let time = ap (λ (x : AccountingView). x.time) c.requires.new in
    record {
      early = omega (arith, time);
      end = omega (arith, time, c.requires.early);
      wanted = c.open-log.ensures.wanted;
      up_to = nothing_up_to c.args.n d (g.H.Sink.streamed c.args.accounting.now) c.open-log.result.happened c.now.ensures.domain c.requires.early c.requires.new c.open-log.ensures.empty;
    }

pub returns-clause-streamed : goal.returns-clause-streamed
returns-clause-streamed g c =
    let d = c.args.state.now in
    let k = c.advance_streamed_on.result.ticks in
    c.advance_streamed_on.ensures.streamed
    ∙ (λ i. with_piece (c.requires.new i) (c.open-log.ensures.empty i ++ logged_by_ticks k d) (ticks k d).switches)
