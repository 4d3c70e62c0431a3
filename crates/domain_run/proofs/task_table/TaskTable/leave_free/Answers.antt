use Rattle.std.proofs.Common.{◌≡◌, true, Option, Some, None, get_or, set, refl, sym, ap, ◌∙◌}
use Rattle.std.specs.Prelude.{is_none}
use Rattle.std.proofs.lemmas.List.{set-get_or}
use Rattle.due_times.specs.declared.charges.OpenCharge.{OpenCharge}
use Rattle.domain_run.specs.private.TaskTable.{TaskTableView}
use Rattle.domain_run.proofs.task_table.TaskTable.leave_free.Goals as goal

nobody : (o : Option OpenCharge) → is_none o ≡ true → o ≡ None
nobody None e = refl
nobody (Some s) e = absurd cc

pub returns-else-not-is_free : goal.returns-else-not-is_free
returns-else-not-is_free c =
    let old = c.args.self.now in
    let cpu = c.args.cpu in
    let free : get_or c.self.inside.charges.charges cpu None ≡ None = nobody (get_or c.self.inside.charges.charges cpu None) (sym c.is_free.ensures ∙ c.if-not-is_free.false) in
    let none : get_or old.charges cpu None ≡ None = ap (λ (r : TaskTableView). get_or r.charges cpu None) (sym c.self.view_is) ∙ free in
    let charges : old.charges ≡ set old.charges cpu None = sym (ap (set old.charges cpu) (sym none) ∙ set-get_or old.charges cpu None) in
    λ i. record old { charges = charges i }
