use Rattle.std.proofs.Common.{◌+◌, sym, arith}
use Rattle.calls_text.proofs.Cuts.{cut_found, cut_missing, rest_is}
use Rattle.calls_text.proofs.cut.cut.Goals as goal

pub returns-then-b-at : goal.returns-then-b-at
returns-then-b-at c = rw (rest_is (c.loop-i.i + 1) c.args.text.now) (sym (cut_found c.args.at c.loop-i.i c.args.text.now c.loop-i-test.true c.loop-i.invariant c.if-b-at.true))

pub returns : goal.returns
returns c = sym (cut_missing c.args.at c.args.text.now (λ k lt. c.loop-i.invariant k (omega arith)))
