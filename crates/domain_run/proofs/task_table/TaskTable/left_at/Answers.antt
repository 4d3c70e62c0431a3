use Rattle.std.proofs.Common.{◌≡◌, ◌<◌, ◌&&◌, not, true, false, length, get_or, sym, subst, ◌∙◌, arith}
use Rattle.std.proofs.lemmas.Grind.{common_steps}
use Rattle.std.specs.Prelude.{is_none}
use Rattle.domain_run.specs.Conditions.{is_leaving}
use Rattle.domain_run.specs.Parts.{is_listed}
use Rattle.domain_run.specs.private.TaskTable.{TaskTableView}
use Rattle.domain_run.specs.private.Owed.{owed_all}
use Rattle.domain_run.proofs.DeferringTimers.{seen_alike}
use Rattle.domain_run.proofs.task_table.TaskTable.left_at.Goals as goal

pub returns-then-is_listed-clause-number : goal.returns-then-is_listed-clause-number
returns-then-is_listed-clause-number c = grind (arith, common_steps)

pub returns-then-is_listed-clause-left : goal.returns-then-is_listed-clause-left
returns-then-is_listed-clause-left c = grind (arith, common_steps)

pub returns-then-is_listed-clause-numbered : goal.returns-then-is_listed-clause-numbered
returns-then-is_listed-clause-numbered c = grind (arith, common_steps)

pub returns-clause-stays : goal.returns-clause-stays
returns-clause-stays c = grind (arith, common_steps)

pub returns-clause-numbered : goal.returns-clause-numbered
returns-clause-numbered c = grind (arith, common_steps)

pub returns-then-is_listed-clause-stays : goal.returns-then-is_listed-clause-stays
returns-then-is_listed-clause-stays c d =
    let s = c.self.inside in
    let p = c.args.place in
    let x = c.at-task.result.now in
    let within = subst (λ (r : TaskTableView). p < length r.tasks) (sym c.self.view_is) c.requires in
    let a = seen_alike s.charges s.tasks p x d within c.at-task.ensures in
    let same : is_listed (get_or (owed_all s.charges s.tasks) p d) ≡ is_listed x = λ i. not (is_leaving (a.condition i) && is_none (a.zero_lag i)) in
    subst (λ (r : TaskTableView). is_listed (get_or r.tasks p d) ≡ true) c.self.view_is (same ∙ sym c.is_listed.ensures ∙ c.if-is_listed.true)

pub returns-clause-left : goal.returns-clause-left
returns-clause-left c d =
    let s = c.self.inside in
    let p = c.args.place in
    let x = c.at-task.result.now in
    let within = subst (λ (r : TaskTableView). p < length r.tasks) (sym c.self.view_is) c.requires in
    let a = seen_alike s.charges s.tasks p x d within c.at-task.ensures in
    let same : is_listed (get_or (owed_all s.charges s.tasks) p d) ≡ is_listed x = λ i. not (is_leaving (a.condition i) && is_none (a.zero_lag i)) in
    subst (λ (r : TaskTableView). is_listed (get_or r.tasks p d) ≡ false) c.self.view_is (same ∙ sym c.is_listed.ensures ∙ c.if-is_listed.false)

pub returns-clause-number : goal.returns-clause-number
returns-clause-number c d =
    let s = c.self.inside in
    let p = c.args.place in
    let x = c.at-task.result.now in
    let within = subst (λ (r : TaskTableView). p < length r.tasks) (sym c.self.view_is) c.requires in
    let a = seen_alike s.charges s.tasks p x d within c.at-task.ensures in
    subst (λ (r : TaskTableView). x.number ≡ (get_or r.tasks p d).number) c.self.view_is (sym a.number)
