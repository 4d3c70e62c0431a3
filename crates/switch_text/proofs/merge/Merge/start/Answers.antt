use Rattle.std.proofs.Common.{arith}
use Rattle.std.proofs.lemmas.List.{length-map}
use Rattle.switch_text.specs.Runs.{switches_view_of}
use Rattle.switch_text.proofs.merge.Merge.start.Goals as goal

pub returns-then-runs-gt1-clause-heads : goal.returns-then-runs-gt1-clause-heads
returns-then-runs-gt1-clause-heads c = record {
  several = λ more. record { heads = c.first_heads.ensures.heads; tree = c.first_heads.ensures.tree };
  alone = λ one. absurd (omega (arith, length-map c.args.runs.now switches_view_of, one));
}

pub returns-clause-heads : goal.returns-clause-heads
returns-clause-heads c = record { several = λ more. absurd (omega (arith, length-map c.args.runs.now switches_view_of, more)); alone = λ one. c.none.ensures.first }
