use Rattle.std.proofs.Common.{◌++◌, take, ap, ◌∙◌}
use Rattle.switch_text.proofs.Joined.{joined_4}
use Rattle.switch_text.proofs.Room.{length-cpu_part, cpu_text}
use Rattle.switch_text.proofs.lines.put_cpu.Goals as goal

pub returns-clause-long : goal.returns-clause-long
returns-clause-long c = length-cpu_part c.args.cpu c.requires.small

pub returns-clause-text : goal.returns-clause-text
returns-clause-text c =
    joined_4 _ _ _ _ _ _ _ _ _ c.put-at.ensures.text c.put-at-2.ensures.text c.put-at-3.ensures.text c.put.ensures.text
    ∙ ap (λ ds. take c.args.at c.args.out.now ++ ds) (cpu_text c.args.cpu c.from-n.result c.two_digits.result c.from-n.ensures c.requires.small c.two_digits.ensures)
