use Rattle.std.proofs.Common.{◌≡◌, ◌<◌, ℕ, ◌+◌, ◌-◌, ◌≤◌, ◌^◌, map, sym, ap, ◌∙◌, subst, arith}
use Rattle.std.specs.Prelude.{All}
use Rattle.std.specs.List.{flat_map}
use Rattle.domain_run.specs.Happened.{in_order}
use Rattle.domain_run.specs.Log.{HasLogged}
use Rattle.domain_run.specs.private.Expiring.{logged_leapt}
use Rattle.edf_pick.specs.Places.{Places}
use Rattle.domain_run.specs.Domain.{Domain}
use Rattle.domain_run.specs.Jump.{under_way, ticks_to_event, running_numbers}
use Rattle.domain_run.specs.Sound.{IsDomain, IsPlacement}
use Rattle.domain_run.specs.Tick.{sum_of}
use Rattle.domain_run.specs.private.TaskTable.{leapt, LastsIf}
use Rattle.domain_run.specs.private.DeferringTimers.{with_lags, awake, leapt_bare, IsBare}
use Rattle.domain_run.proofs.Deferring.{leap_lags_is, leapt_is_bare, same_leapt_bare}
use Rattle.attr_check.specs.Ratio.{cap}
use Rattle.domain_run.proofs.Leapt.{may_start_on, leap_last}
use Rattle.domain_run.proofs.LoggedLags.{leap_logs_lags}
use Rattle.domain_run.proofs.Paying.{later_is}
use Rattle.domain_run.proofs.state.State.run_deferring.Goals as goal

pub leap_deferring-ticks-requires-clause-wide : goal.leap_deferring-ticks-requires-clause-wide
leap_deferring-ticks-requires-clause-wide c = c.self.invariant.domain.steady.wide ∙ sym c.self.invariant.wide

pub leap_deferring-ticks-requires-clause-cpus : goal.leap_deferring-ticks-requires-clause-cpus
leap_deferring-ticks-requires-clause-cpus c = subst (λ n. (0 < n) × (n ≤ 64)) (sym c.self.invariant.wide) c.self.invariant.domain.steady.cpus

pub leap_deferring-ticks-requires-clause-limit : goal.leap_deferring-ticks-requires-clause-limit
leap_deferring-ticks-requires-clause-limit c = c.self.invariant.domain.steady.limit

pub leap_deferring-ticks-requires-clause-within : goal.leap_deferring-ticks-requires-clause-within
leap_deferring-ticks-requires-clause-within c = subst (λ n. sum_of c.self.inside.task_table.tasks ≤ cap n c.self.inside.limit) (sym c.self.invariant.wide) c.self.invariant.domain.steady.within

pub leap_deferring-ticks-requires-clause-homes : goal.leap_deferring-ticks-requires-clause-homes
leap_deferring-ticks-requires-clause-homes c = subst (λ n. All (λ t. t.cpu < n) c.self.inside.task_table.tasks) (sym c.self.invariant.wide) c.self.invariant.domain.steady.homes

pub leap_deferring-ticks-requires-clause-may : goal.leap_deferring-ticks-requires-clause-may
leap_deferring-ticks-requires-clause-may c =
    let s = c.self.inside in
    let d : Domain = record { cpus = s.cpus; limit = s.limit; time = s.time; tasks = s.task_table.tasks; used = s.used; curr = s.task_table.places; switches = s.switches.items } in
    let placed : IsPlacement d = subst IsPlacement (sym c.self.view_is) c.requires.begun.placed in
    may_start_on d c.self.invariant.domain.steady placed

pub leap_deferring-ticks-requires-clause-apart : goal.leap_deferring-ticks-requires-clause-apart
leap_deferring-ticks-requires-clause-apart c = c.self.invariant.domain.steady.apart

pub leap_deferring-ticks-requires-clause-sound : goal.leap_deferring-ticks-requires-clause-sound
leap_deferring-ticks-requires-clause-sound c = c.self.invariant.domain.steady.sound

pub leap_deferring-ticks-requires-clause-early : goal.leap_deferring-ticks-requires-clause-early
leap_deferring-ticks-requires-clause-early c = omega (arith, c.requires.early, ap (λ (x : Domain). x.time) c.self.view_is)

pub leap_deferring-ticks-requires-clause-bare : goal.leap_deferring-ticks-requires-clause-bare
leap_deferring-ticks-requires-clause-bare c = subst (λ (d : Domain). All IsBare d.tasks) (sym c.self.view_is) c.requires.bare

-- the tasks after the leap
tasks_are : (c : goal.After-self-1) → let s = c.self.inside in let k = c.leap_deferring-ticks.result in c.leap_deferring-ticks.new.task_table.tasks ≡ map (leapt_bare (s.time + (k - 1)) k s.task_table.places s.cpus s.limit s.task_table.tasks) s.task_table.tasks
tasks_are c =
    let s = c.self.inside in
    let k = c.leap_deferring-ticks.result in
    c.leap_deferring-ticks.ensures.tasks
    ∙ ap (λ n. map (leapt_bare (s.time + (k - 1)) k s.task_table.places n s.limit s.task_table.tasks) s.task_table.tasks) c.self.invariant.wide

pub invariant_of-self : goal.invariant_of-self
invariant_of-self c =
    let s = c.self.inside in
    let d : Domain = record { cpus = s.cpus; limit = s.limit; time = s.time; tasks = s.task_table.tasks; used = s.used; curr = s.task_table.places; switches = s.switches.items } in
    let k = c.leap_deferring-ticks.result in
    let end : ℕ = s.time + (k - 1) in
    let f = leapt_bare end k s.task_table.places s.cpus s.limit s.task_table.tasks in
    let same = same_leapt_bare end k s.task_table.places s.cpus s.limit s.task_table.tasks in
    let same_time : s.time ≡ c.args.self.now.time = ap (λ (x : Domain). x.time) c.self.view_is in
    let early : end ≤ 2 ^ 42 = omega (arith, same_time, c.requires.early, c.leap_deferring-ticks.ensures.some, c.leap_deferring-ticks.ensures.most) in
    record {
      domain = subst (λ (ps : Places). IsDomain (record d { time = end; tasks = c.leap_deferring-ticks.new.task_table.tasks; curr = ps })) (sym c.leap_deferring-ticks.ensures.places) (later_is d f end c.leap_deferring-ticks.new.task_table.tasks c.self.invariant.domain same (omega arith) early (tasks_are c) c.leap_deferring-ticks.ensures.sound);
      wide = c.leap_deferring-ticks.ensures.cpus ∙ c.self.invariant.wide;
      running_is = λ listed. c.self.invariant.running_is listed ∙ ap running_numbers (sym c.leap_deferring-ticks.ensures.places);
      running_room = c.self.invariant.running_room;
      switch_room = c.self.invariant.switch_room;
    }

pub returns-clause-bare : goal.returns-clause-bare
returns-clause-bare c =
    let s = c.self.inside in
    let k = c.leap_deferring-ticks.result in
    subst (λ ts. All IsBare ts) (sym (tasks_are c)) (leapt_is_bare (s.time + (k - 1)) k s.task_table.places s.cpus s.limit s.task_table.tasks s.task_table.tasks (subst (λ (d : Domain). All IsBare d.tasks) (sym c.self.view_is) c.requires.bare))

pub returns-clause-domain : goal.returns-clause-domain
returns-clause-domain c e is plain =
    let s = c.self.inside in
    let d : Domain = record { cpus = s.cpus; limit = s.limit; time = s.time; tasks = s.task_table.tasks; used = s.used; curr = s.task_table.places; switches = s.switches.items } in
    let k = c.leap_deferring-ticks.result in
    let end : ℕ = s.time + (k - 1) in
    let same : d ≡ under_way e = c.self.view_is ∙ is in
    let lags =
    c.leap_deferring-ticks.ensures.lags (end - 1) (omega arith)
    ∙ ap (λ n. map (leapt end k s.task_table.places n s.limit s.task_table.tasks) (with_lags (end - 1) c.args.lags.now s.task_table.tasks)) c.self.invariant.wide
    ∙ ap (λ (x : Domain). map (leapt end k x.curr x.cpus x.limit x.tasks) (with_lags (end - 1) c.args.lags.now x.tasks)) same in
    let lasts2 = subst (λ n. All (LastsIf k s.task_table.places n s.limit s.task_table.tasks) s.task_table.tasks) c.self.invariant.wide c.leap_deferring-ticks.ensures.lasts in
    let lasts = subst (λ (x : Domain). All (LastsIf k x.curr x.cpus x.limit x.tasks) x.tasks) same lasts2 in
    let quiet = subst (λ (x : Domain). c.args.most ≤ ticks_to_event x) is c.requires.quiet in
    ap (λ (ps : Places). awake c.leap_deferring-ticks.new.lags (record d { time = end; tasks = c.leap_deferring-ticks.new.task_table.tasks; curr = ps })) c.leap_deferring-ticks.ensures.places
    ∙ ap (λ (x : Domain). awake c.leap_deferring-ticks.new.lags (record x { time = end; tasks = c.leap_deferring-ticks.new.task_table.tasks })) same
    ∙ leap_lags_is e c.args.lags.now c.leap_deferring-ticks.new.lags k end c.leap_deferring-ticks.new.task_table.tasks c.leap_deferring-ticks.ensures.some (omega (arith, quiet, c.leap_deferring-ticks.ensures.most)) (ap (λ (x : Domain). x.time + (k - 1)) same) plain lasts lags

-- before a leap from the domain that begins so
lasts_are : (c : goal.After-self-1) (e : Domain) → c.args.self.now ≡ under_way e → All (LastsIf c.leap_deferring-ticks.result (under_way e).curr (under_way e).cpus (under_way e).limit (under_way e).tasks) (under_way e).tasks
lasts_are c e is =
    let s = c.self.inside in
    let k = c.leap_deferring-ticks.result in
    let lasts2 = subst (λ n. All (LastsIf k s.task_table.places n s.limit s.task_table.tasks) s.task_table.tasks) c.self.invariant.wide c.leap_deferring-ticks.ensures.lasts in
    subst (λ (x : Domain). All (LastsIf k x.curr x.cpus x.limit x.tasks) x.tasks) (c.self.view_is ∙ is) lasts2

pub returns-clause-logged : goal.returns-clause-logged
returns-clause-logged c e is =
    let s = c.self.inside in
    let k = c.leap_deferring-ticks.result in
    let end : ℕ = s.time + (k - 1) in
    let same = c.self.view_is ∙ is in
    let quiet = subst (λ (x : Domain). c.args.most ≤ ticks_to_event x) is c.requires.quiet in
    let logged = ap (λ n. in_order (flat_map (logged_leapt end k s.task_table.places n s.limit s.task_table.tasks) s.task_table.tasks)) c.self.invariant.wide
    ∙ ap (λ (x : Domain). in_order (flat_map (logged_leapt end k x.curr x.cpus x.limit x.tasks) x.tasks)) same
    ∙ leap_last e k c.leap_deferring-ticks.ensures.some (omega (arith, quiet, c.leap_deferring-ticks.ensures.most)) (lasts_are c e is) end (ap (λ (x : Domain). x.time + (k - 1)) same) in
    subst (λ hs. HasLogged c.args.log.now hs c.leap_deferring-ticks.new.log) logged c.leap_deferring-ticks.ensures.logged

pub returns-clause-quiet : goal.returns-clause-quiet
returns-clause-quiet c e is plain =
    let quiet = subst (λ (x : Domain). c.args.most ≤ ticks_to_event x) is c.requires.quiet in
    leap_logs_lags e c.args.lags.now c.leap_deferring-ticks.result c.leap_deferring-ticks.ensures.some (omega (arith, quiet, c.leap_deferring-ticks.ensures.most)) (lasts_are c e is) plain
