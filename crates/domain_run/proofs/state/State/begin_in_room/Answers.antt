use Rattle.std.proofs.Common.{◌≡◌, ◌+◌, ◌<◌, ◌^◌, length, sym, ap, ◌∙◌, subst, arith, rules}
use Rattle.domain_run.specs.Domain.{Domain}
use Rattle.domain_run.specs.Jump.{under_way, running_numbers}
use Rattle.domain_run.specs.Sound.{IsDomain, IsPlacement}
use Rattle.domain_run.proofs.Ticking.{middle}
use Rattle.domain_run.proofs.Paying.{under_way_is}
use Rattle.domain_run.specs.Happened.{logged_by_beginning}
use Rattle.domain_run.specs.Log.{HasLogged}
use Rattle.domain_run.specs.private.TransitionLog.{logged_at_home}
use Rattle.std.proofs.lemmas.Grind.{common_steps}
use Rattle.domain_run.proofs.state.State.begin_in_room.Goals as goal

pub begin-changed-requires-clause-cpus : goal.begin-changed-requires-clause-cpus
begin-changed-requires-clause-cpus c = c.self.invariant.domain.steady.wide ∙ sym c.self.invariant.wide

pub invariant_of-self : goal.invariant_of-self
invariant_of-self c =
    let s = c.self.inside in
    let d : Domain = record { cpus = s.cpus; limit = s.limit; time = s.time; tasks = s.task_table.tasks; used = s.used; curr = s.task_table.places; switches = s.switches.items } in
    let b = c.begin-changed.new in
    let m = middle d b.task_table.tasks b.task_table.places b.switches.items c.self.invariant.domain c.begin-changed.ensures.prepared c.begin-changed.ensures.tasks c.begin-changed.ensures.places c.begin-changed.ensures.switches in
    let early : d.time < 2 ^ 42 = subst (λ (x : Domain). x.time < 2 ^ 42) (sym c.self.view_is) c.requires.early in
    let is = under_way_is d c.self.invariant.domain early c.begin-changed.ensures.prepared in
    record {
      domain = subst IsDomain (sym (ap (λ (x : Domain). record x { time = d.time + 1 }) m.begun_is)) is.0;
      wide = c.begin-changed.ensures.cpus ∙ c.self.invariant.wide;
      running_is = λ listed.
          let still = c.are_still_listed-self-inside.ensures listed in
          c.self.invariant.running_is still.0 ∙ ap running_numbers (sym (c.begin-changed.ensures.none still.1));
      running_room = c.self.invariant.running_room;
      switch_room = rw c.begin-changed.ensures.room c.self.invariant.switch_room;
    }

pub returns-clause-ok : goal.returns-clause-ok
returns-clause-ok c made =
    let s = c.self.inside in
    let d : Domain = record { cpus = s.cpus; limit = s.limit; time = s.time; tasks = s.task_table.tasks; used = s.used; curr = s.task_table.places; switches = s.switches.items } in
    let b = c.begin-changed.new in
    let m = middle d b.task_table.tasks b.task_table.places b.switches.items c.self.invariant.domain c.begin-changed.ensures.prepared c.begin-changed.ensures.tasks c.begin-changed.ensures.places c.begin-changed.ensures.switches in
    ap (λ (x : Domain). record x { time = d.time + 1 }) m.begun_is ∙ ap under_way c.self.view_is

pub returns-clause-begun : goal.returns-clause-begun
returns-clause-begun c made =
    let s = c.self.inside in
    let d : Domain = record { cpus = s.cpus; limit = s.limit; time = s.time; tasks = s.task_table.tasks; used = s.used; curr = s.task_table.places; switches = s.switches.items } in
    let early : d.time < 2 ^ 42 = subst (λ (x : Domain). x.time < 2 ^ 42) (sym c.self.view_is) c.requires.early in
    let placed : IsPlacement (under_way d) = (under_way_is d c.self.invariant.domain early c.begin-changed.ensures.prepared).1 in
    let same = returns-clause-ok c made in
    record { before = c.args.self.now; begun = same; placed = subst IsPlacement (sym (same ∙ ap under_way (sym c.self.view_is))) placed }

pub begin-changed-requires-clause-narrow : goal.begin-changed-requires-clause-narrow
begin-changed-requires-clause-narrow c = omega (arith, c.self.invariant.domain.steady.cpus.1, c.self.invariant.wide)

pub begin-changed-requires-clause-log : goal.begin-changed-requires-clause-log
begin-changed-requires-clause-log c wanted = omega (arith, c.requires.log wanted, ap (λ (x : Domain). length x.tasks) c.self.view_is)

pub returns-clause-logged : goal.returns-clause-logged
returns-clause-logged c made =
    let s = c.self.inside in
    let d : Domain = record { cpus = s.cpus; limit = s.limit; time = s.time; tasks = s.task_table.tasks; used = s.used; curr = s.task_table.places; switches = s.switches.items } in
    let b = c.begin-changed.new in
    let m = middle d b.task_table.tasks b.task_table.places b.switches.items c.self.invariant.domain c.begin-changed.ensures.prepared c.begin-changed.ensures.tasks c.begin-changed.ensures.places c.begin-changed.ensures.switches in
    let home : logged_at_home b.task_table.places d.time d.tasks ≡ logged_by_beginning d = ap (λ (x : Domain). logged_at_home x.curr d.time d.tasks) m.begun_is in
    subst (λ hs. HasLogged c.args.log.now hs b.log) (home ∙ ap logged_by_beginning c.self.view_is) c.begin-changed.ensures.logged

pub returns-clause-room : goal.returns-clause-room
returns-clause-room c made wanted =
    omega (arith, c.requires.log (sym c.begin-changed.ensures.logged.wanted ∙ wanted), c.begin-changed.ensures.log, ap (λ (x : Domain). length x.tasks) c.self.view_is)

pub begin-changed-requires-clause-numbered : goal.begin-changed-requires-clause-numbered
begin-changed-requires-clause-numbered c = c.self.invariant.domain.steady.numbered

pub begin-changed-requires-clause-early : goal.begin-changed-requires-clause-early
begin-changed-requires-clause-early c = grind (arith, common_steps)

pub begin-changed-requires-clause-sound : goal.begin-changed-requires-clause-sound
begin-changed-requires-clause-sound c = grind (arith, common_steps)

pub begin-changed-requires-clause-apart : goal.begin-changed-requires-clause-apart
begin-changed-requires-clause-apart c = grind (arith, common_steps)

pub begin-changed-requires-clause-room : goal.begin-changed-requires-clause-room
begin-changed-requires-clause-room c = grind (arith, common_steps)

pub overflow_add-self : goal.overflow_add-self
overflow_add-self c = grind (arith, common_steps)

pub returns-then-capacity-len-clause-some : goal.returns-then-capacity-len-clause-some
returns-then-capacity-len-clause-some c = search rules
