use Rattle.std.proofs.Common.{◌≡◌, ◌∙◌, ◌<◌, ℕ, length, map, get_or, sym, ap, arith, subst}
use Rattle.std.proofs.lemmas.List.{length-map, get_or-map}
use Rattle.std.proofs.lemmas.Grind.{common_steps}
use Rattle.domain_run.specs.declared.task.Task.{Task}
use Rattle.domain_run.specs.private.TaskTable.{TaskTableView}
use Rattle.domain_run.specs.private.Owed.{owed}
use Rattle.domain_run.proofs.Chargings.{only_at}
use Rattle.domain_run.proofs.Owed.{alike_owed}
use Rattle.domain_run.proofs.DeferringTimers.{seen_alike}
use Rattle.domain_run.proofs.task_table.TaskTable.place_on.Goals as goal

-- the task at the one place of the number belongs to another CPU
pub returns-then-at-cpu-clause-absent : goal.returns-then-at-cpu-clause-absent
returns-then-at-cpu-clause-absent c k d h n e =
    let r = c.args.self.now in
    let s = c.self.inside in
    let f = owed s.charges.upto s.charges.charges in
    let items = s.tasks in
    let p = c.in-Some.place in
    let x = c.at.result.now in
    let at = c.in-Some.ensures.there in
    let k_is : k ≡ p = only_at r.tasks c.args.number p k d c.in-Some.ensures.numbered at h n in
    let many : length (map f items) ≡ length items = simp length-map in
    let long : length (map f items) ≡ length r.tasks = ap (λ (v : TaskTableView). length v.tasks) c.self.view_is in
    let inside : p < length items = let within = at.within in omega (arith, within, many, long) in
    let seen : (get_or r.tasks p d).cpu ≡ x.cpu =
    sym (ap (λ (v : TaskTableView). (get_or v.tasks p d).cpu) c.self.view_is)
    ∙ ap (λ (t : Task). t.cpu) (get_or-map f items p x d inside)
    ∙ (alike_owed s.charges.upto s.charges.charges (get_or items p x)).cpu
    ∙ sym (ap (λ (t : Task). t.cpu) c.at.ensures) in
    c.if-at-cpu.true (sym seen ∙ ap (λ (i : ℕ). (get_or r.tasks i d).cpu) (sym k_is) ∙ e)

pub returns-in_default-clause-there : goal.returns-in_default-clause-there
returns-in_default-clause-there c = grind (arith, common_steps)

pub returns-in_default-clause-home : goal.returns-in_default-clause-home
returns-in_default-clause-home c = grind (arith, common_steps)

pub returns-in_default-clause-absent : goal.returns-in_default-clause-absent
returns-in_default-clause-absent c = grind (arith, common_steps)

pub returns-then-at-cpu-clause-there : goal.returns-then-at-cpu-clause-there
returns-then-at-cpu-clause-there c = grind (arith, common_steps)

pub returns-then-at-cpu-clause-home : goal.returns-then-at-cpu-clause-home
returns-then-at-cpu-clause-home c = grind (arith, common_steps)

pub returns-clause-there : goal.returns-clause-there
returns-clause-there c = grind (arith, common_steps)

pub returns-clause-absent : goal.returns-clause-absent
returns-clause-absent c = grind (arith, common_steps)

pub returns-clause-home : goal.returns-clause-home
returns-clause-home c d =
    let s = c.self.inside in
    let p = c.in-Some.place in
    let x = c.at.result.now in
    let within = subst (λ (r : TaskTableView). p < length r.tasks) (sym c.self.view_is) c.in-Some.ensures.there.within in
    let a = seen_alike s.charges s.tasks p x d within c.at.ensures in
    subst (λ (r : TaskTableView). (get_or r.tasks p d).cpu ≡ c.args.cpu) c.self.view_is (a.cpu ∙ c.if-at-cpu.false)

pub place-requires : goal.place-requires
place-requires c = grind (arith, common_steps)

pub at-requires : goal.at-requires
at-requires c = grind (arith, common_steps)
