use Rattle.std.proofs.Common.{◌++◌, ◌/◌, ◌+◌, [], ◌∷◌, take, ap, sym, ◌∙◌}
use Rattle.switch_text.proofs.Digits.{digits_three}
use Rattle.switch_text.proofs.Joined.{joined_2}
use Rattle.switch_text.proofs.logged_lines.put_three.Goals as goal

pub returns-clause-text : goal.returns-clause-text
returns-clause-text c =
    let n = c.args.n in
    joined_2 _ _ _ _ _ c.put-at.ensures.text c.put.ensures.text
    ∙ ap (λ ds. take c.args.at c.args.out.now ++ ds) (ap (λ ds. ((48 + n / 100) ∷ []) ++ ds) c.two_digits.ensures ∙ sym (digits_three n c.requires.small))
