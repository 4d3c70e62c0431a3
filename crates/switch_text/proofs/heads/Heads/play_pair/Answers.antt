use Rattle.std.proofs.Common.{◌+◌, ◌*◌, ◌/◌, arith}
use Rattle.switch_text.proofs.Winning.{Wins-alone, nodes_played}
use Rattle.switch_text.proofs.heads.Heads.play_pair.Goals as goal

pub returns-clause-pairs : goal.returns-clause-pairs
returns-clause-pairs c =
    let heads = c.args.self.now.heads in
    let pair = c.args.place / 2 in
    nodes_played heads c.args.self.now.pairs 4 2 pair c.winner.result (omega arith) (omega arith) c.requires.others
    (c.winner.ensures (2 * pair) (2 * pair + 1) (2 * pair + 2) (Wins-alone heads (2 * pair) (2 * pair + 1) (omega arith)) (Wins-alone heads (2 * pair + 1) (2 * pair + 2) (omega arith)))
