use Rattle.std.proofs.Common.{◌++◌, ◌∙◌, ap, arith}
use Rattle.domain_run.specs.Happened.{logged_by_ticks}
use Rattle.domain_run.specs.Tick.{ticks}
use Rattle.run_figures.specs.Accounting.{AccountingView, with_piece}
use Rattle.streamed_run.proofs.Pieces.{nothing_up_to}
use Rattle.streamed_run.proofs.repeating.advance_streamed.Goals as goal

pub advance_streamed_in_periods-requires : goal.advance_streamed_in_periods-requires
advance_streamed_in_periods-requires c =
    let d = c.args.state.now in
    let time = ap (λ (x : AccountingView). x.time) c.requires.new in
    record {
      early = omega (arith, time);
      end = omega (arith, time, c.requires.early);
      wanted = c.open-log.ensures.wanted;
      up_to = nothing_up_to c.args.n d c.args.accounting.now c.open-log.result.happened c.now.ensures.domain c.requires.early c.requires.new c.open-log.ensures.empty;
    }

pub returns-clause-streamed : goal.returns-clause-streamed
returns-clause-streamed c =
    let d = c.args.state.now in
    let k = c.advance_streamed_in_periods.result.ticks in
    c.advance_streamed_in_periods.ensures.streamed
    ∙ (λ i. with_piece (c.requires.new i) (c.open-log.ensures.empty i ++ logged_by_ticks k d) (ticks k d).switches)
