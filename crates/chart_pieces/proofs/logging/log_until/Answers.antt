use Rattle.std.proofs.Common.{map, take, refl, ap, ◌∙◌, arith}
use Rattle.std.proofs.lemmas.List.{get_or_default}
use Rattle.domain_run.specs.declared.happened.Happened.{Happened}
use Rattle.chart_pieces.specs.declared.status.Moment.{Moment}
use Rattle.chart_pieces.specs.Moments.{moment_of}
use Rattle.chart_pieces.specs.private.Lines.{bars_if}
use Rattle.chart_pieces.proofs.Moments.{none_logged, one_logged, numbers_of_lines, one_passed, all_passed, blank}
use Rattle.chart_pieces.proofs.logging.log_until.Goals as goal

pub loop-entry-init : goal.loop-entry-init
loop-entry-init c = record {
  count = refl;
  logged = none_logged c.args.window.now c.args.table.now.items;
  passed = λ k d l. absurd (omega (arith, l));
}

pub say-requires : goal.say-requires
say-requires c =
    record { keyed = numbers_of_lines c.args.window.now (map moment_of (take c.loop-entry.entry-index c.args.happened.now)) c.args.table.now.items c.loop-entry.table.items c.args.places.now c.loop-entry.invariant.logged c.requires.keyed }

pub loop-entry-preserved : goal.loop-entry-preserved
loop-entry-preserved c = record {
  count = omega (arith, c.loop-entry.invariant.count);
  logged = one_logged c.args.window.now c.args.happened.now c.loop-entry.entry-index _ c.args.table.now.items c.loop-entry.table.items c.say.new.table.items c.loop-entry-test.true c.loop-entry.invariant.logged
      (c.in_ok-say.ensures ∙ ap (λ (m : Moment). map (λ l. bars_if c.args.window.now l m) c.loop-entry.table.items) c.moment_of.ensures);
  passed = one_passed c.args.happened.now c.loop-entry.entry-index _ c.args.time c.loop-entry-test.true c.loop-entry.invariant.passed c.if-entry-time.false;
}

pub returns-then-entry-time-clause-count : goal.returns-then-entry-time-clause-count
returns-then-entry-time-clause-count c =
    let hs = c.args.happened.now in
    let i = c.loop-entry.entry-index in
    let l = c.loop-entry-test.true in
    c.loop-entry.invariant.count
    ∙ all_passed hs i c.args.time (omega (arith, l)) c.loop-entry.invariant.passed
    (λ d m. omega (arith, c.if-entry-time.true, ap (λ (x : Happened). x.time) (get_or_default hs i d blank l)))

pub returns-clause-count : goal.returns-clause-count
returns-clause-count c =
    let end = c.loop-entry-test.false in
    c.loop-entry.invariant.count
    ∙ all_passed c.args.happened.now c.loop-entry.entry-index c.args.time (omega arith) c.loop-entry.invariant.passed
    (λ d m. absurd (omega (arith, end, m)))
