use Rattle.std.proofs.Common.{◌/◌, List, ℕ, ap, sym, ◌∙◌, arith}
use Rattle.std.proofs.lemmas.List.{get_or_default}
use Rattle.std.proofs.lemmas.Grind.{common_steps}
use Rattle.due_times.specs.private.TimerTree.{least_below}
use Rattle.due_times.proofs.Carrying.{carried, right_already}
use Rattle.due_times.proofs.timer_tree.carry.Goals as goal

pub returns-then-index-least-clause-tree : goal.returns-then-index-least-clause-tree
returns-then-index-least-clause-tree c =
    right_already c.args.nodes.now.items (c.args.at / 4) c.requires.tree
    (get_or_default c.args.nodes.now.items (c.args.at / 4) 0 c.index.result.now (omega (arith, c.requires.there)) ∙ sym c.index.ensures ∙ c.if-index-least.true ∙ c.least_beside-least.ensures ∙ ap (λ (xs : List ℕ). least_below xs (c.args.at / 4)) c.deref.ensures.value)

pub returns-clause-but : goal.returns-clause-but
returns-clause-but c =
    carried c.args.nodes.now.items c.args.at c.least_beside-least.result c.requires.tree c.requires.inner c.requires.there
    (c.least_beside-least.ensures ∙ ap (λ (xs : List ℕ). least_below xs (c.args.at / 4)) c.deref.ensures.value)

pub least_beside-least-requires-clause-time : goal.least_beside-least-requires-clause-time
least_beside-least-requires-clause-time c = grind (arith, common_steps)

pub returns-clause-time : goal.returns-clause-time
returns-clause-time c = grind (arith, common_steps)

pub returns-clause-leaves : goal.returns-clause-leaves
returns-clause-leaves c = grind (arith, common_steps)
