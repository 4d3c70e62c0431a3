use Rattle.std.proofs.Common.{◌+◌, ◌*◌, ◌/◌, get_or, arith}
use Rattle.switch_text.proofs.Winning.{Wins-range, nodes_played}
use Rattle.switch_text.proofs.heads.Heads.play_half.Goals as goal

pub returns-clause-halves : goal.returns-clause-halves
returns-clause-halves c =
    let heads = c.args.self.now.heads in
    let pairs = c.args.self.now.pairs in
    let half = c.args.place / 4 in
    let one = Wins-range heads (2 * (2 * half)) (4 * half) (2 * (2 * half) + 2) (4 * half + 2) (get_or pairs (2 * half) 0) (omega arith) (omega arith) (c.requires.pairs (2 * half) (omega arith)) in
    let other = Wins-range heads (2 * (2 * half + 1)) (4 * half + 2) (2 * (2 * half + 1) + 2) (4 * half + 4) (get_or pairs (2 * half + 1) 0) (omega arith) (omega arith) (c.requires.pairs (2 * half + 1) (omega arith)) in
    nodes_played heads c.args.self.now.halves 2 4 half c.winner.result (omega arith) (omega arith) c.requires.others (c.winner.ensures (4 * half) (4 * half + 2) (4 * half + 4) one other)
