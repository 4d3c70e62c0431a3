use Rattle.std.proofs.Common.{sym, ap, subst, ◌∙◌, arith}
use Rattle.std.proofs.lemmas.Grind.{common_steps}
use Rattle.grub_rules.specs.declared.share.Share.{Share}
use Rattle.grub_rules.specs.Accounts.{Holds}
use Rattle.domain_run.specs.Tick.{share_of}
use Rattle.domain_run.proofs.task_table.choosing.start.Goals as goal

pub shift-requires-clause-held : goal.shift-requires-clause-held
shift-requires-clause-held c = subst (λ (x : Share). Holds c.args.accounts.now x) (sym (c.share_of.ensures ∙ ap share_of c.settle.ensures.task)) c.requires.held

pub shift-requires-clause-home : goal.shift-requires-clause-home
shift-requires-clause-home c = grind (arith, common_steps)

pub returns-clause-task : goal.returns-clause-task
returns-clause-task c = grind (arith, common_steps)

pub returns-clause-sums : goal.returns-clause-sums
returns-clause-sums c = grind (arith, common_steps)

pub returns-clause-charges : goal.returns-clause-charges
returns-clause-charges c = grind (arith, common_steps)
