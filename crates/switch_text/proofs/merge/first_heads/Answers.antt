use Rattle.std.proofs.Common.{◌+◌, replicate, subst, sym, arith}
use Rattle.std.proofs.lemmas.List.Elements.{All-get_or}
use Rattle.switch_text.specs.Runs.{IsPrintable}
use Rattle.switch_text.proofs.Merged.{IsPlaced, AreStarted, AreStarted-more, AreStarted-all}
use Rattle.switch_text.proofs.merge.first_heads.Goals as goal

pub loop-i-init : goal.loop-i-init
loop-i-init c = record {
  started = record { long = c.none-heads.ensures.long; seen = λ j lt. absurd (omega (arith, lt)); others = λ j ge lt. c.none-heads.ensures.heads j lt };
  tree = c.none-heads.ensures.tree;
}

pub loop-i-preserved : goal.loop-i-preserved
loop-i-preserved c =
    let runs = c.args.runs.now in
    let i = c.loop-i.i in
    let run = c.index-runs-i.result in
    let at : IsPlaced runs (replicate 8 0) i run = record { inside = c.loop-i-test.true; room = omega arith; is = c.index-runs-i.is } in
    record {
      started = subst (λ hs. AreStarted runs hs (i + 1)) (sym c.change.ensures.heads) (AreStarted-more runs c.loop-i.heads.heads i run c.head_at.result (omega arith) at c.head_at.ensures c.loop-i.invariant.started);
      tree = c.change.ensures.tree;
    }

pub returns-clause-heads : goal.returns-clause-heads
returns-clause-heads c = AreStarted-all c.args.runs.now c.loop-i.heads.heads c.loop-i.i (omega arith) c.loop-i.invariant.started

pub head_at-requires : goal.head_at-requires
head_at-requires c = subst IsPrintable (sym c.index-runs-i.is) (All-get_or IsPrintable c.args.runs.now c.loop-i.i c.index-runs-i.result c.loop-i-test.true c.requires.runs)

pub change-requires-clause-place : goal.change-requires-clause-place
change-requires-clause-place c = omega arith
