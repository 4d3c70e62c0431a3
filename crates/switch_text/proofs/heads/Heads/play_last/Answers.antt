use Rattle.std.proofs.Common.{arith}
use Rattle.switch_text.proofs.heads.Heads.play_last.Goals as goal

pub returns-clause-tree : goal.returns-clause-tree
returns-clause-tree c = record {
  pairs = c.requires.pairs;
  halves = c.requires.halves;
  first = c.winner-self.ensures 0 4 8 (c.requires.halves 0 (omega arith)) (c.requires.halves 1 (omega arith));
}
