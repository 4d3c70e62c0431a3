use Rattle.std.proofs.Common.{◌≡◌, ◌<◌, ◌%◌, ℕ, refl, sym, ap, subst, ◌∙◌, arith, eqb, false}
use Rattle.domain_run.specs.Domain.{Domain}
use Rattle.domain_run.specs.Calls.{new_task, with_task_listed}
use Rattle.domain_run.specs.Sound.{IsDomain}
use Rattle.domain_run.specs.declared.task.Task.{Task}
use Rattle.domain_run.specs.Conditions.{is_ready}
use Rattle.domain_run.specs.private.Index.{IsUnlisted}
use Rattle.std.specs.List.{list_any}
use Rattle.edf_pick.specs.Places.{Places}
use Rattle.domain_run.specs.Jump.{running_numbers}
use Rattle.domain_run.proofs.AtHome.{homed_stranger}
use Rattle.domain_run.proofs.Admitting.{new_is, listed_as, list_keeps}
use Rattle.domain_run.proofs.state.State.list.Goals as goal

abbrev before : goal.After-push → Domain
before c = let s = c.self.inside in record { cpus = s.cpus; limit = s.limit; time = s.time; tasks = s.task_table.tasks; used = s.used; curr = s.task_table.places; switches = s.switches.items }

abbrev after : goal.After-push → Domain
after c = record (before c) { tasks = c.push.new.self.tasks; used = c.insert.new.self; curr = c.push.new.self.places }

after_is : (c : goal.After-push) → after c ≡ with_task_listed c.args.self.now (new_task c.args.self.now c.args.number c.args.name c.args.params c.args.delay c.args.script)
after_is c = ap (λ (ps : Places). record (after c) { curr = ps }) c.push.ensures.places ∙ listed_as (before c) c.args.self.now c.args.number c.args.name c.args.params c.args.delay c.args.script c.new_task-task.result c.push.new.self.tasks c.insert.new.self c.self.view_is (c.new_task-task.ensures (before c) c.args.delay refl refl) c.push.ensures.tasks c.insert.ensures

pub insert-requires-clause-absent : goal.insert-requires-clause-absent
insert-requires-clause-absent c =
    let s = c.self.inside in
    let d : Domain = record { cpus = s.cpus; limit = s.limit; time = s.time; tasks = s.task_table.tasks; used = s.used; curr = s.task_table.places; switches = s.switches.items } in
    (new_is d c.args.self.now c.args.number c.args.params c.self.view_is c.self.invariant.domain c.requires.granted).fresh

pub push-requires-clause-few : goal.push-requires-clause-few
push-requires-clause-few c =
    let s = c.self.inside in
    let d : Domain = record { cpus = s.cpus; limit = s.limit; time = s.time; tasks = s.task_table.tasks; used = s.used; curr = s.task_table.places; switches = s.switches.items } in
    (new_is d c.args.self.now c.args.number c.args.params c.self.view_is c.self.invariant.domain c.requires.granted).few

pub push-requires-clause-idle : goal.push-requires-clause-idle
push-requires-clause-idle c =
    let s = c.self.inside in
    let d : Domain = record { cpus = s.cpus; limit = s.limit; time = s.time; tasks = s.task_table.tasks; used = s.used; curr = s.task_table.places; switches = s.switches.items } in
    let is : c.new_task-task.result ≡ new_task d c.args.number c.args.name c.args.params c.args.delay c.args.script = c.new_task-task.ensures d c.args.delay refl refl in
    ap (λ (t : Task). is_ready t.condition) is

pub push-requires-clause-home : goal.push-requires-clause-home
push-requires-clause-home c =
    let s = c.self.inside in
    let d : Domain = record { cpus = s.cpus; limit = s.limit; time = s.time; tasks = s.task_table.tasks; used = s.used; curr = s.task_table.places; switches = s.switches.items } in
    let is : c.new_task-task.result ≡ new_task d c.args.number c.args.name c.args.params c.args.delay c.args.script = c.new_task-task.ensures d c.args.delay refl refl in
    let home : c.args.number % s.cpus < s.cpus = omega (arith, c.self.invariant.domain.steady.cpus.0) in
    rw (ap (λ (t : Task). t.cpu) is, c.self.invariant.wide) home

pub push-requires-clause-short : goal.push-requires-clause-short
push-requires-clause-short c =
    let s = c.self.inside in
    let d : Domain = record { cpus = s.cpus; limit = s.limit; time = s.time; tasks = s.task_table.tasks; used = s.used; curr = s.task_table.places; switches = s.switches.items } in
    let is : c.new_task-task.result ≡ new_task d c.args.number c.args.name c.args.params c.args.delay c.args.script = c.new_task-task.ensures d c.args.delay refl refl in
    rw (ap (λ (t : Task). t.params.bw) is) (new_is d c.args.self.now c.args.number c.args.params c.self.view_is c.self.invariant.domain c.requires.granted).short

pub push-requires-clause-absent : goal.push-requires-clause-absent
push-requires-clause-absent c =
    let s = c.self.inside in
    let d : Domain = record { cpus = s.cpus; limit = s.limit; time = s.time; tasks = s.task_table.tasks; used = s.used; curr = s.task_table.places; switches = s.switches.items } in
    let is : c.new_task-task.result ≡ new_task d c.args.number c.args.name c.args.params c.args.delay c.args.script = c.new_task-task.ensures d c.args.delay refl refl in
    subst (λ (n : ℕ). IsUnlisted d.tasks n) (sym (ap (λ (t : Task). t.number) is)) (new_is d c.args.self.now c.args.number c.args.params c.self.view_is c.self.invariant.domain c.requires.granted).absent

pub push-requires-clause-homed : goal.push-requires-clause-homed
push-requires-clause-homed c =
    let s = c.self.inside in
    let d : Domain = record { cpus = s.cpus; limit = s.limit; time = s.time; tasks = s.task_table.tasks; used = s.used; curr = s.task_table.places; switches = s.switches.items } in
    let t = c.new_task-task.result in
    let is : t ≡ new_task d c.args.number c.args.name c.args.params c.args.delay c.args.script = c.new_task-task.ensures d c.args.delay refl refl in
    let new = new_is d c.args.self.now c.args.number c.args.params c.self.view_is c.self.invariant.domain c.requires.granted in
    let fresh : list_any (λ n. eqb n t.number) d.used ≡ false = ap (λ (x : Task). list_any (λ n. eqb n x.number) d.used) is ∙ new.fresh in
    homed_stranger d.curr d.used t c.self.invariant.domain.traced.on_cpu fresh

pub invariant_of-self : goal.invariant_of-self
invariant_of-self c = record {
  domain = subst IsDomain (sym (after_is c)) (list_keeps (before c) c.args.self.now c.args.number c.args.name c.args.params c.args.delay c.args.script c.self.view_is c.self.invariant.domain c.requires.delay c.requires.granted);
  wide = c.push.ensures.cpus ∙ c.self.invariant.wide;
  running_is = λ l. c.self.invariant.running_is l ∙ ap running_numbers (sym c.push.ensures.places);
  running_room = c.self.invariant.running_room;
  switch_room = c.self.invariant.switch_room;
}

pub returns : goal.returns
returns c = after_is c
