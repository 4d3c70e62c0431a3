use Rattle.std.proofs.Common.{[]}
use Rattle.switch_text.proofs.Digits.{pairs_from, pair_at}
use Rattle.switch_text.proofs.lines.two_digits.Goals as goal

pub returns : goal.returns
unfolding pairs_from
returns c = pair_at c.args.n [] c.requires
