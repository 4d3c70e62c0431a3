use Rattle.std.proofs.Common.{◌≡◌, ◌≤◌, ◌+◌, ◌<◌, ◌^◌, length, sym, ap, ◌∙◌, subst, arith}
use Rattle.attr_check.specs.Ratio.{cap}
use Rattle.std.proofs.lemmas.Grind.{common_steps}
use Rattle.domain_run.specs.Domain.{Domain}
use Rattle.domain_run.specs.Happened.{logged_by_beginning}
use Rattle.domain_run.specs.Log.{HasLogged}
use Rattle.domain_run.specs.private.TransitionLog.{logged_at_home}
use Rattle.domain_run.specs.Jump.{under_way, running_numbers}
use Rattle.domain_run.specs.Sound.{IsDomain, IsPlacement}
use Rattle.domain_run.specs.Tick.{sum_of, prepared}
use Rattle.domain_run.proofs.Ticking.{middle, listed_prepared}
use Rattle.domain_run.proofs.Paying.{under_way_is}
use Rattle.domain_run.proofs.state.State.begin_charging.Goals as goal

pub begin_charging-changed-requires-clause-cpus : goal.begin_charging-changed-requires-clause-cpus
begin_charging-changed-requires-clause-cpus c = c.self.invariant.domain.steady.wide ∙ sym c.self.invariant.wide

pub begin_charging-changed-requires-clause-narrow : goal.begin_charging-changed-requires-clause-narrow
begin_charging-changed-requires-clause-narrow c = subst (λ n. (0 < n) × (n ≤ 64)) (sym c.self.invariant.wide) c.self.invariant.domain.steady.cpus

pub begin_charging-changed-requires-clause-within : goal.begin_charging-changed-requires-clause-within
begin_charging-changed-requires-clause-within c =
    let s = c.self.inside in
    let d : Domain = record { cpus = s.cpus; limit = s.limit; time = s.time; tasks = s.task_table.tasks; used = s.used; curr = s.task_table.places; switches = s.switches.items } in
    subst (λ n. sum_of (prepared s.time s.task_table.tasks) ≤ cap n s.limit) (sym c.self.invariant.wide) (listed_prepared d c.self.invariant.domain.steady).within

pub invariant_of-self : goal.invariant_of-self
invariant_of-self c =
    let s = c.self.inside in
    let d : Domain = record { cpus = s.cpus; limit = s.limit; time = s.time; tasks = s.task_table.tasks; used = s.used; curr = s.task_table.places; switches = s.switches.items } in
    let b = c.begin_charging-changed.new in
    let e = c.begin_charging-changed.ensures in
    let m = middle d b.task_table.tasks b.task_table.places b.switches.items c.self.invariant.domain e.prepared e.tasks e.places e.switches in
    let early : d.time < 2 ^ 42 = subst (λ (x : Domain). x.time < 2 ^ 42) (sym c.self.view_is) c.requires.early in
    let is = under_way_is d c.self.invariant.domain early e.prepared in
    record {
      domain = subst IsDomain (sym (ap (λ (x : Domain). record x { time = d.time + 1 }) m.begun_is)) is.0;
      wide = e.cpus ∙ c.self.invariant.wide;
      running_is = λ listed.
          let still = c.are_still_listed-self-inside.ensures listed in
          c.self.invariant.running_is still.0 ∙ ap running_numbers (sym (e.none still.1));
      running_room = c.self.invariant.running_room;
      switch_room = rw e.room c.self.invariant.switch_room;
    }

pub returns-clause-ok : goal.returns-clause-ok
returns-clause-ok c made =
    let s = c.self.inside in
    let d : Domain = record { cpus = s.cpus; limit = s.limit; time = s.time; tasks = s.task_table.tasks; used = s.used; curr = s.task_table.places; switches = s.switches.items } in
    let b = c.begin_charging-changed.new in
    let e = c.begin_charging-changed.ensures in
    let m = middle d b.task_table.tasks b.task_table.places b.switches.items c.self.invariant.domain e.prepared e.tasks e.places e.switches in
    ap (λ (x : Domain). record x { time = d.time + 1 }) m.begun_is ∙ ap under_way c.self.view_is

pub returns-clause-begun : goal.returns-clause-begun
returns-clause-begun c made =
    let s = c.self.inside in
    let d : Domain = record { cpus = s.cpus; limit = s.limit; time = s.time; tasks = s.task_table.tasks; used = s.used; curr = s.task_table.places; switches = s.switches.items } in
    let early : d.time < 2 ^ 42 = subst (λ (x : Domain). x.time < 2 ^ 42) (sym c.self.view_is) c.requires.early in
    let placed : IsPlacement (under_way d) = (under_way_is d c.self.invariant.domain early c.begin_charging-changed.ensures.prepared).1 in
    let same = returns-clause-ok c made in
    record { before = c.args.self.now; begun = same; placed = subst IsPlacement (sym (same ∙ ap under_way (sym c.self.view_is))) placed }

pub returns-then-capacity-len-clause-some : goal.returns-then-capacity-len-clause-some
returns-then-capacity-len-clause-some c = grind (arith, common_steps)

pub returns-then-capacity-len-clause-ok : goal.returns-then-capacity-len-clause-ok
returns-then-capacity-len-clause-ok c = grind (arith, common_steps)

pub returns-then-capacity-len-clause-begun : goal.returns-then-capacity-len-clause-begun
returns-then-capacity-len-clause-begun c = grind (arith, common_steps)

pub returns-then-capacity-len-clause-full : goal.returns-then-capacity-len-clause-full
returns-then-capacity-len-clause-full c = grind (arith, common_steps)

pub returns-then-capacity-len-clause-domain : goal.returns-then-capacity-len-clause-domain
returns-then-capacity-len-clause-domain c = grind (arith, common_steps)

pub begin_charging-changed-requires-clause-limit : goal.begin_charging-changed-requires-clause-limit
begin_charging-changed-requires-clause-limit c = grind (arith, common_steps)

pub begin_charging-changed-requires-clause-early : goal.begin_charging-changed-requires-clause-early
begin_charging-changed-requires-clause-early c = grind (arith, common_steps)

pub begin_charging-changed-requires-clause-sound : goal.begin_charging-changed-requires-clause-sound
begin_charging-changed-requires-clause-sound c = grind (arith, common_steps)

pub begin_charging-changed-requires-clause-apart : goal.begin_charging-changed-requires-clause-apart
begin_charging-changed-requires-clause-apart c = grind (arith, common_steps)

pub begin_charging-changed-requires-clause-room : goal.begin_charging-changed-requires-clause-room
begin_charging-changed-requires-clause-room c = grind (arith, common_steps)

pub returns-clause-some : goal.returns-clause-some
returns-clause-some c = grind (arith, common_steps)

pub returns-clause-full : goal.returns-clause-full
returns-clause-full c = grind (arith, common_steps)

pub returns-clause-domain : goal.returns-clause-domain
returns-clause-domain c = grind (arith, common_steps)

pub begin_charging-changed-requires-clause-log : goal.begin_charging-changed-requires-clause-log
begin_charging-changed-requires-clause-log c wanted = omega (arith, c.requires.log wanted, ap (λ (x : Domain). length x.tasks) c.self.view_is)

pub begin_charging-changed-requires-clause-numbered : goal.begin_charging-changed-requires-clause-numbered
begin_charging-changed-requires-clause-numbered c = c.self.invariant.domain.steady.numbered

pub returns-clause-logged : goal.returns-clause-logged
returns-clause-logged c made =
    let s = c.self.inside in
    let d : Domain = record { cpus = s.cpus; limit = s.limit; time = s.time; tasks = s.task_table.tasks; used = s.used; curr = s.task_table.places; switches = s.switches.items } in
    let b = c.begin_charging-changed.new in
    let e = c.begin_charging-changed.ensures in
    let m = middle d b.task_table.tasks b.task_table.places b.switches.items c.self.invariant.domain e.prepared e.tasks e.places e.switches in
    let home : logged_at_home b.task_table.places d.time d.tasks ≡ logged_by_beginning d = ap (λ (x : Domain). logged_at_home x.curr d.time d.tasks) m.begun_is in
    subst (λ hs. HasLogged c.args.log.now hs b.log) (home ∙ ap logged_by_beginning c.self.view_is) e.logged

pub returns-clause-room : goal.returns-clause-room
returns-clause-room c made wanted =
    omega (arith, c.requires.log (sym c.begin_charging-changed.ensures.logged.wanted ∙ wanted), c.begin_charging-changed.ensures.log, ap (λ (x : Domain). length x.tasks) c.self.view_is)
