use Rattle.std.proofs.Common.{◌≡◌, ℕ, List, ◌+◌, ◌-◌, ◌≤◌, ◌^◌, length, map, sym, ap, ◌∙◌, subst, arith}
use Rattle.edf_pick.specs.Places.{Places}
use Rattle.domain_run.specs.Jump.{running_numbers}
use Rattle.domain_run.proofs.Homing.{running_distinct}
use Rattle.domain_run.specs.Domain.{Domain}
use Rattle.domain_run.specs.Jump.{under_way, ticks_to_event, AreCharged}
use Rattle.domain_run.specs.Sound.{IsDomain, IsPlacement}
use Rattle.domain_run.specs.private.Paying.{paid}
use Rattle.domain_run.proofs.Paying.{sound_later, may_pay, later_is, same_paid, paid_is}
use Rattle.domain_run.specs.Happened.{logged_by_last_end}
use Rattle.domain_run.specs.Log.{HasLogged}
use Rattle.domain_run.specs.private.TransitionLog.{logged_in_pay}
use Rattle.domain_run.proofs.Runners.{running_short}
use Rattle.domain_run.proofs.LoggedTicks.{logged_pay_is, logged_ticks_is}
use Rattle.domain_run.proofs.state.State.finish_logged.Goals as goal

pub relist-requires-clause-room : goal.relist-requires-clause-room
relist-requires-clause-room c = omega (arith, ap (λ (ps : Places). length ps) c.occupants.ensures.occupants, c.self.invariant.domain.steady.wide, c.self.invariant.running_room)

pub relist-requires-clause-listed : goal.relist-requires-clause-listed
relist-requires-clause-listed c listed = c.self.invariant.running_is listed ∙ ap running_numbers (sym c.occupants.ensures.occupants)

pub pay_all-requires-clause-sound : goal.pay_all-requires-clause-sound
pay_all-requires-clause-sound c =
    let s = c.self.inside in
    sound_later s.time (s.time + (c.args.ticks - 1)) s.task_table.tasks (omega arith) c.self.invariant.domain.steady.sound

pub pay_all-requires-clause-may : goal.pay_all-requires-clause-may
pay_all-requires-clause-may c =
    let s = c.self.inside in
    let d : Domain = record { cpus = s.cpus; limit = s.limit; time = s.time; tasks = s.task_table.tasks; used = s.used; curr = s.task_table.places; switches = s.switches.items } in
    let charged : AreCharged d c.args.ticks c.args.budgets.now = subst (λ (x : Domain). AreCharged x c.args.ticks c.args.budgets.now) (sym c.self.view_is) c.requires.charged in
    let placed : IsPlacement d = subst IsPlacement (sym c.self.view_is) c.requires.begun.placed in
    rw (c.deref.ensures.value, c.relist.ensures.running, c.occupants.ensures.occupants) (may_pay d c.args.ticks c.args.budgets.now c.self.invariant.domain.steady placed c.requires.some charged)

pub pay_all-requires-clause-apart : goal.pay_all-requires-clause-apart
pay_all-requires-clause-apart c = rw (c.deref.ensures.value, c.relist.ensures.running, c.occupants.ensures.occupants) (running_distinct c.self.inside.task_table.places c.self.invariant.domain.steady.apart)

pub pay_all-requires-clause-many : goal.pay_all-requires-clause-many
pay_all-requires-clause-many c =
    let s = c.self.inside in
    let d : Domain = record { cpus = s.cpus; limit = s.limit; time = s.time; tasks = s.task_table.tasks; used = s.used; curr = s.task_table.places; switches = s.switches.items } in
    let charged : AreCharged d c.args.ticks c.args.budgets.now = subst (λ (x : Domain). AreCharged x c.args.ticks c.args.budgets.now) (sym c.self.view_is) c.requires.charged in
    charged.many ∙ sym (ap (λ (ns : List ℕ). length ns) (c.deref.ensures.value ∙ c.relist.ensures.running ∙ ap running_numbers c.occupants.ensures.occupants))

pub invariant_of-self : goal.invariant_of-self
invariant_of-self c =
    let s = c.self.inside in
    let d : Domain = record { cpus = s.cpus; limit = s.limit; time = s.time; tasks = s.task_table.tasks; used = s.used; curr = s.task_table.places; switches = s.switches.items } in
    let end : ℕ = s.time + (c.args.ticks - 1) in
    let tasks_are : c.pay_all.new.task_table.tasks ≡ map (paid end (running_numbers s.task_table.places) c.args.ticks c.args.budgets.now) s.task_table.tasks = c.pay_all.ensures.tasks ∙ ap (λ (ns : List ℕ). map (paid end ns c.args.ticks c.args.budgets.now) s.task_table.tasks) (c.deref.ensures.value ∙ c.relist.ensures.running ∙ ap running_numbers c.occupants.ensures.occupants) in
    let same_time : c.self.inside.time ≡ c.args.self.now.time = ap (λ (x : Domain). x.time) c.self.view_is in
    let early : end ≤ 2 ^ 42 = omega (arith, same_time, c.requires.early, c.requires.some) in
    record {
      domain = subst (λ (ps : Places). IsDomain (record d { time = end; tasks = c.pay_all.new.task_table.tasks; curr = ps })) (sym c.pay_all.ensures.places) (later_is d (paid end (running_numbers c.self.inside.task_table.places) c.args.ticks c.args.budgets.now) end c.pay_all.new.task_table.tasks c.self.invariant.domain (same_paid end (running_numbers c.self.inside.task_table.places) c.args.ticks c.args.budgets.now) (omega arith) early tasks_are c.pay_all.ensures.sound);
      wide = c.pay_all.ensures.cpus ∙ c.self.invariant.wide;
      running_is = λ listed. c.relist.ensures.running ∙ ap running_numbers c.occupants.ensures.occupants ∙ ap running_numbers (sym c.pay_all.ensures.places);
      running_room = c.relist.ensures.room ∙ c.self.invariant.running_room;
      switch_room = c.self.invariant.switch_room;
    }

pub returns-clause-domain : goal.returns-clause-domain
returns-clause-domain c e is =
    let s = c.self.inside in
    let d : Domain = record { cpus = s.cpus; limit = s.limit; time = s.time; tasks = s.task_table.tasks; used = s.used; curr = s.task_table.places; switches = s.switches.items } in
    let end : ℕ = s.time + (c.args.ticks - 1) in
    let tasks_are : c.pay_all.new.task_table.tasks ≡ map (paid end (running_numbers s.task_table.places) c.args.ticks c.args.budgets.now) s.task_table.tasks = c.pay_all.ensures.tasks ∙ ap (λ (ns : List ℕ). map (paid end ns c.args.ticks c.args.budgets.now) s.task_table.tasks) (c.deref.ensures.value ∙ c.relist.ensures.running ∙ ap running_numbers c.occupants.ensures.occupants) in
    let k = c.args.ticks in
    let budgets = c.args.budgets.now in
    let same : d ≡ under_way e = c.self.view_is ∙ is in
    let tasks : c.pay_all.new.task_table.tasks ≡ map (paid end (running_numbers (under_way e).curr) k budgets) (under_way e).tasks = tasks_are ∙ ap (λ (x : Domain). map (paid end (running_numbers x.curr) k budgets) x.tasks) same in
    ap (λ (ps : Places). record d { time = end; tasks = c.pay_all.new.task_table.tasks; curr = ps }) c.pay_all.ensures.places
    ∙ ap (λ (x : Domain). record x { time = end; tasks = c.pay_all.new.task_table.tasks }) same
    ∙ paid_is e k budgets end c.pay_all.new.task_table.tasks (subst (λ (x : Domain). IsDomain x) same c.self.invariant.domain).steady (subst IsPlacement is c.requires.begun.placed) c.requires.some (subst (λ (x : Domain). k ≤ ticks_to_event x) is c.requires.quiet) (subst (λ (x : Domain). AreCharged x k budgets) is c.requires.charged) (ap (λ (x : Domain). x.time + (k - 1)) same) tasks

pub pay_all-requires-clause-narrow : goal.pay_all-requires-clause-narrow
pay_all-requires-clause-narrow c = omega (arith, c.self.invariant.domain.steady.cpus.1, c.self.invariant.wide)

pub pay_all-requires-clause-numbered : goal.pay_all-requires-clause-numbered
pay_all-requires-clause-numbered c = c.self.invariant.domain.steady.numbered

pub pay_all-requires-clause-room : goal.pay_all-requires-clause-room
pay_all-requires-clause-room c wanted =
    let few : length (running_numbers c.self.inside.task_table.places) ≤ 64 = running_short _ c.self.invariant.domain.steady in
    omega (arith, c.requires.room wanted, few, ap (λ (ns : List ℕ). length ns) (c.deref.ensures.value ∙ c.relist.ensures.running ∙ ap running_numbers c.occupants.ensures.occupants))

pub returns-clause-logged : goal.returns-clause-logged
returns-clause-logged c e is =
    let s = c.self.inside in
    let d : Domain = record { cpus = s.cpus; limit = s.limit; time = s.time; tasks = s.task_table.tasks; used = s.used; curr = s.task_table.places; switches = s.switches.items } in
    let end : ℕ = s.time + (c.args.ticks - 1) in
    let k = c.args.ticks in
    let budgets = c.args.budgets.now in
    let same : d ≡ under_way e = c.self.view_is ∙ is in
    let logged : logged_in_pay end c.deref.result.now k budgets s.task_table.tasks ≡ logged_by_last_end k e =
    ap (λ (ns : List ℕ). logged_in_pay end ns k budgets s.task_table.tasks) (c.deref.ensures.value ∙ c.relist.ensures.running ∙ ap running_numbers c.occupants.ensures.occupants)
    ∙ ap (λ (x : Domain). logged_in_pay end (running_numbers x.curr) k budgets x.tasks) same
    ∙ logged_pay_is e k budgets end (subst (λ (x : Domain). IsDomain x) same c.self.invariant.domain).steady (subst IsPlacement is c.requires.begun.placed) c.requires.some (subst (λ (x : Domain). k ≤ ticks_to_event x) is c.requires.quiet) (subst (λ (x : Domain). AreCharged x k budgets) is c.requires.charged) (ap (λ (x : Domain). x.time + (k - 1)) same) in
    subst (λ hs. HasLogged c.args.log.now hs c.pay_all.new.log) logged c.pay_all.ensures.logged

pub returns-clause-quiet : goal.returns-clause-quiet
returns-clause-quiet c e is =
    let s = c.self.inside in
    let d : Domain = record { cpus = s.cpus; limit = s.limit; time = s.time; tasks = s.task_table.tasks; used = s.used; curr = s.task_table.places; switches = s.switches.items } in
    let k = c.args.ticks in
    let budgets = c.args.budgets.now in
    let same : d ≡ under_way e = c.self.view_is ∙ is in
    logged_ticks_is e k budgets (subst (λ (x : Domain). IsDomain x) same c.self.invariant.domain).steady (subst IsPlacement is c.requires.begun.placed) c.requires.some (subst (λ (x : Domain). k ≤ ticks_to_event x) is c.requires.quiet) (subst (λ (x : Domain). AreCharged x k budgets) is c.requires.charged)
