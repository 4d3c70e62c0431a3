use Rattle.std.proofs.Common.{subst, sym, arith}
use Rattle.std.proofs.lemmas.List.{length-map}
use Rattle.std.proofs.lemmas.List.Elements.{All-get_or}
use Rattle.switch_text.specs.Runs.{IsPrintable, switches_view_of, views}
use Rattle.switch_text.specs.private.Winning.{AreHeads}
use Rattle.switch_text.proofs.Merged.{IsPlaced, heads_stepped}
use Rattle.switch_text.proofs.merge.Merge.step.Goals as goal

pub change-requires-clause-tree : goal.change-requires-clause-tree
change-requires-clause-tree c =
    let are : AreHeads (views c.args.runs.now) c.args.self.now = c.requires.heads.several (omega (arith, length-map c.args.runs.now switches_view_of)) in
    are.tree

pub returns-then-runs-gt1-clause-heads : goal.returns-then-runs-gt1-clause-heads
returns-then-runs-gt1-clause-heads c =
    let runs = c.args.runs.now in
    let m = c.args.self.now in
    let n = c.args.next.now in
    let inside = c.requires.run.inside in
    let at : IsPlaced runs m.places n.index n.run.now = record { inside = inside; room = omega (arith, inside, c.requires.few); is = c.requires.run.is } in
    let are : AreHeads (views runs) m = c.requires.heads.several (omega (arith, length-map runs switches_view_of)) in
    record {
      several = λ more. record {
        heads = heads_stepped runs m n.index n.run.now c.head_at.result c.change.new.self.heads are at (omega (arith, inside, c.requires.few)) c.head_at.ensures c.change.ensures.heads;
        tree = c.change.ensures.tree;
      };
      alone = λ one. absurd (omega (arith, length-map runs switches_view_of, one));
    }

pub returns-else-runs-gt1-clause-heads : goal.returns-else-runs-gt1-clause-heads
returns-else-runs-gt1-clause-heads c = record { several = λ more. absurd (omega (arith, length-map c.args.runs.now switches_view_of, more)); alone = c.requires.heads.alone }

pub head_at-requires : goal.head_at-requires
head_at-requires c = (let n = c.args.next.now in subst IsPrintable (sym c.requires.run.is) (All-get_or IsPrintable c.args.runs.now n.index n.run.now c.requires.run.inside c.requires.runs))

pub change-requires-clause-place : goal.change-requires-clause-place
change-requires-clause-place c = omega (arith, c.requires.run.inside, c.requires.few)
