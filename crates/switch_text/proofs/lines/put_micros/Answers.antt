use Rattle.std.proofs.Common.{◌++◌, take, ap, ◌∙◌, arith}
use Rattle.switch_text.specs.Line.{digits_in}
use Rattle.switch_text.proofs.Digits.{six_text}
use Rattle.switch_text.proofs.Joined.{joined_3}
use Rattle.switch_text.proofs.lines.put_micros.Goals as goal

pub returns-clause-text : goal.returns-clause-text
returns-clause-text c =
    joined_3 _ _ _ _ _ _ _ c.put-at.ensures.text c.put-at-2.ensures.text c.put.ensures.text
    ∙ ap (λ ds. take c.args.at c.args.out.now ++ ds) (six_text c.args.n _ _ _ c.requires.small c.two_digits.ensures (c.two_digits-2.ensures ∙ ap (digits_in 2) (omega arith)) (c.two_digits-3.ensures ∙ ap (digits_in 2) (omega arith)))
