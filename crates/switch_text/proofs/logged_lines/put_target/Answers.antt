use Rattle.std.proofs.Common.{◌++◌, take, ap, ◌∙◌}
use Rattle.std.specs.Prelude.{codes}
use Rattle.switch_text.specs.Line.{digits_in}
use Rattle.switch_text.specs.LoggedLine.{target_part}
use Rattle.switch_text.proofs.Joined.{joined_2}
use Rattle.switch_text.proofs.logged_lines.put_target.Goals as goal

pub returns-clause-text : goal.returns-clause-text
unfolding target_part
returns-clause-text c =
    joined_2 _ _ _ _ _ c.put-at.ensures.text c.put_three.ensures.text
    ∙ ap (λ n. take c.args.at c.args.out.now ++ (codes " prio=-1 target_cpu=" ++ digits_in 3 n)) c.from.ensures
