use Rattle.std.proofs.Common.{◌≡◌, ℕ, ◌<◌, None, List, length, get_or, set, sym, ap, subst, ◌∙◌, arith}
use Rattle.std.specs.Prelude.{All}
use Rattle.std.proofs.lemmas.Grind.{common_steps}
use Rattle.domain_run.specs.declared.task.Task.{Task}
use Rattle.domain_run.specs.declared.run_queue.RunQueue.{RunQueue}
use Rattle.edf_pick.specs.Places.{Places}
use Rattle.domain_run.specs.Sound.{IsSound}
use Rattle.domain_run.specs.private.StaleCharges.{AreSettled}
use Rattle.domain_run.specs.private.TaskTable.{TaskTableView, task_after, deferred_lag, MayMake, Fits}
use Rattle.domain_run.specs.private.RunQueue.{IsCounted}
use Rattle.due_times.specs.OpenCharges.{OpenChargesView, charge_by}
use Rattle.domain_run.specs.private.Timers.{IsTimerStep}
use Rattle.domain_run.specs.private.Owed.{charge_of_task, owed_all}
use Rattle.domain_run.proofs.Bare.{inside_seen, bare_at, cpu_seen}
use Rattle.domain_run.proofs.Chargings.{task_table_view}
use Rattle.domain_run.proofs.Applying.{sound_bare, may_bare, turns_bare, step_bare, sound_all_bare, counted_bare, waits_bare, settled_bare}
use Rattle.domain_run.proofs.task_table.TaskTable.apply_charged.Goals as goal

within : (queue : RunQueue) (s : OpenChargesView) (items : List Task) (r : TaskTableView) (p : ℕ) → task_table_view queue s items ≡ r → p < length r.tasks → p < length items
within queue s items r p view there = inside_seen s.upto s.charges items p (subst (λ (v : TaskTableView). p < length v.tasks) (sym view) there)

-- no charge is open on the CPU of the task that is stored at the place
empty : (queue : RunQueue) (s : OpenChargesView) (items : List Task) (r : TaskTableView) (p : ℕ) (x : Task) → task_table_view queue s items ≡ r → p < length items → x ≡ get_or items p x → ((d : Task) → get_or r.charges (get_or r.tasks p d).cpu None ≡ None) → get_or s.charges x.cpu None ≡ None
empty queue s items r p x view h read free =
    ap (λ (n : ℕ). get_or s.charges n None) (cpu_seen s.upto s.charges items p x h read x)
    ∙ subst (λ (v : TaskTableView). get_or v.charges (get_or v.tasks p x).cpu None ≡ None) (sym view) (free x)

-- so it has no open charge
uncharged : (queue : RunQueue) (s : OpenChargesView) (items : List Task) (r : TaskTableView) (p : ℕ) (x : Task) → task_table_view queue s items ≡ r → p < length items → x ≡ get_or items p x → ((d : Task) → get_or r.charges (get_or r.tasks p d).cpu None ≡ None) → charge_of_task s.charges x ≡ None
uncharged queue s items r p x view h read free = ap (charge_by x.number) (empty queue s items r p x view h read free)

-- so it is seen as it is stored
stored : (queue : RunQueue) (s : OpenChargesView) (items : List Task) (r : TaskTableView) (p : ℕ) (x : Task) → task_table_view queue s items ≡ r → p < length items → x ≡ get_or items p x → ((d : Task) → get_or r.charges (get_or r.tasks p d).cpu None ≡ None) → (d : Task) → x ≡ get_or r.tasks p d
stored queue s items r p x view h read free d =
    bare_at s.upto s.charges items p x h read (λ k.
    ap (charge_by (get_or (owed_all s items) p k).number) (subst (λ (v : TaskTableView). get_or v.charges (get_or v.tasks p k).cpu None ≡ None) (sym view) (free k))) d
    ∙ ap (λ (v : TaskTableView). get_or v.tasks p d) view

pub at_mut-requires : goal.at_mut-requires
at_mut-requires c = let s = c.self.inside in within s.queue s.charges s.tasks c.args.self.now c.args.place c.self.view_is c.requires.there

pub returns-clause-deferring : goal.returns-clause-deferring
returns-clause-deferring c d =
    let s = c.self.inside in
    let p = c.args.place in
    let x = c.at_mut.result.now in
    let h = within s.queue s.charges s.tasks c.args.self.now p c.self.view_is c.requires.there in
    c.apply_settled.ensures.deferring ∙ ap (λ (t : Task). deferred_lag c.args.time c.args.transition.now t) (stored s.queue s.charges s.tasks c.args.self.now p x c.self.view_is h c.at_mut.ensures.value c.requires.free d)

pub apply_settled-requires-clause-sound : goal.apply_settled-requires-clause-sound
apply_settled-requires-clause-sound c =
    let s = c.self.inside in
    let p = c.args.place in
    let x = c.at_mut.result.now in
    let read = c.at_mut.ensures.value in
    let h = within s.queue s.charges s.tasks c.args.self.now p c.self.view_is c.requires.there in
    let fits = subst (λ (r : TaskTableView). Fits r.cpus c.args.transition.now) (sym c.self.view_is) c.requires.fits in
    let none = uncharged s.queue s.charges s.tasks c.args.self.now p x c.self.view_is h read c.requires.free in
    sound_bare (length s.queue.accounts.all) c.args.time c.args.transition.now s.queue s.charges s.tasks p x h read fits c.self.invariant.counted none (subst (λ (r : TaskTableView). All (IsSound c.args.time) r.tasks) (sym c.self.view_is) c.requires.sound)

pub apply_settled-requires-clause-may : goal.apply_settled-requires-clause-may
apply_settled-requires-clause-may c =
    let s = c.self.inside in
    let p = c.args.place in
    let x = c.at_mut.result.now in
    let read = c.at_mut.ensures.value in
    let h = within s.queue s.charges s.tasks c.args.self.now p c.self.view_is c.requires.there in
    let fits = subst (λ (r : TaskTableView). Fits r.cpus c.args.transition.now) (sym c.self.view_is) c.requires.fits in
    let none = uncharged s.queue s.charges s.tasks c.args.self.now p x c.self.view_is h read c.requires.free in
    may_bare (length s.queue.accounts.all) c.args.time c.args.transition.now s.queue s.charges s.tasks p x h read fits c.self.invariant.counted none (subst (λ (r : TaskTableView). (d : Task) → MayMake c.args.time c.args.transition.now (get_or r.tasks p d)) (sym c.self.view_is) c.requires.may)

pub apply_settled-requires-clause-turns : goal.apply_settled-requires-clause-turns
apply_settled-requires-clause-turns c =
    let s = c.self.inside in
    let p = c.args.place in
    let x = c.at_mut.result.now in
    let read = c.at_mut.ensures.value in
    let h = within s.queue s.charges s.tasks c.args.self.now p c.self.view_is c.requires.there in
    let fits = subst (λ (r : TaskTableView). Fits r.cpus c.args.transition.now) (sym c.self.view_is) c.requires.fits in
    let none = uncharged s.queue s.charges s.tasks c.args.self.now p x c.self.view_is h read c.requires.free in
    turns_bare (length s.queue.accounts.all) c.args.time c.args.transition.now s.queue s.charges s.tasks p x h read fits c.self.invariant.counted none

pub invariant_of-self : goal.invariant_of-self
invariant_of-self c =
    let s = c.self.inside in
    let p = c.args.place in
    let x = c.at_mut.result.now in
    let read = c.at_mut.ensures.value in
    let h = within s.queue s.charges s.tasks c.args.self.now p c.self.view_is c.requires.there in
    let fits = subst (λ (r : TaskTableView). Fits r.cpus c.args.transition.now) (sym c.self.view_is) c.requires.fits in
    let none = uncharged s.queue s.charges s.tasks c.args.self.now p x c.self.view_is h read c.requires.free in
    let y = c.apply_settled.new.task in
    let made = c.apply_settled.ensures.task in
    let queue = c.apply_settled.new.queue in
    let tasks = owed_all s.charges (set s.tasks p y) in
    let counted = counted_bare (length s.queue.accounts.all) c.args.time c.args.transition.now s.queue s.charges s.tasks p x h read fits c.self.invariant.counted none c.apply_settled.new.queue y made c.apply_settled.ensures.turned in
    let free = empty s.queue s.charges s.tasks c.args.self.now p x c.self.view_is h read c.requires.free in
    record {
      counted = subst (λ (n : ℕ). IsCounted n queue tasks) (sym counted.wide) counted;
      waits = waits_bare (length s.queue.accounts.all) c.args.time c.args.transition.now s.queue s.charges s.tasks p x h read fits c.self.invariant.counted none c.apply_settled.new.queue y made c.self.invariant.waits;
      wide = c.self.invariant.wide ∙ sym counted.wide;
      settled = subst (λ (n : ℕ). AreSettled s.stale n queue.schedule.places s.charges.charges tasks) (sym counted.wide)
          (subst (λ (ps : Places). AreSettled s.stale (length s.queue.accounts.all) ps s.charges.charges tasks) (sym c.apply_settled.ensures.turned.places)
          (settled_bare (length s.queue.accounts.all) c.args.time c.args.transition.now s.queue s.charges s.tasks p x h read fits c.self.invariant.counted none c.apply_settled.new.queue y made s.stale s.queue.schedule.places free c.self.invariant.settled));
    }

pub returns-clause-step : goal.returns-clause-step
returns-clause-step c =
    let s = c.self.inside in
    let p = c.args.place in
    let x = c.at_mut.result.now in
    let read = c.at_mut.ensures.value in
    let h = within s.queue s.charges s.tasks c.args.self.now p c.self.view_is c.requires.there in
    let fits = subst (λ (r : TaskTableView). Fits r.cpus c.args.transition.now) (sym c.self.view_is) c.requires.fits in
    let none = uncharged s.queue s.charges s.tasks c.args.self.now p x c.self.view_is h read c.requires.free in
    let y = c.apply_settled.new.task in
    let made = c.apply_settled.ensures.task in
    subst (λ (r : TaskTableView). IsTimerStep (task_after c.args.time c.args.transition.now) p r.tasks (owed_all s.charges (set s.tasks p y))) c.self.view_is
    (step_bare (length s.queue.accounts.all) c.args.time c.args.transition.now s.queue s.charges s.tasks p x h read fits c.self.invariant.counted none c.apply_settled.new.queue y made)

pub returns-clause-sound : goal.returns-clause-sound
returns-clause-sound c =
    let s = c.self.inside in
    let p = c.args.place in
    let x = c.at_mut.result.now in
    let read = c.at_mut.ensures.value in
    let h = within s.queue s.charges s.tasks c.args.self.now p c.self.view_is c.requires.there in
    let fits = subst (λ (r : TaskTableView). Fits r.cpus c.args.transition.now) (sym c.self.view_is) c.requires.fits in
    let none = uncharged s.queue s.charges s.tasks c.args.self.now p x c.self.view_is h read c.requires.free in
    let y = c.apply_settled.new.task in
    let made = c.apply_settled.ensures.task in
    sound_all_bare (length s.queue.accounts.all) c.args.time c.args.transition.now s.queue s.charges s.tasks p x h read fits c.self.invariant.counted none c.apply_settled.new.queue y made c.apply_settled.ensures.sound (subst (λ (r : TaskTableView). All (IsSound c.args.time) r.tasks) (sym c.self.view_is) c.requires.sound)

pub apply_settled-requires-clause-narrow : goal.apply_settled-requires-clause-narrow
apply_settled-requires-clause-narrow c = grind (arith, common_steps)

pub returns-clause-cpus : goal.returns-clause-cpus
returns-clause-cpus c = grind (arith, common_steps)

pub returns-clause-clock : goal.returns-clause-clock
returns-clause-clock c = grind (arith, common_steps)

pub returns-clause-places : goal.returns-clause-places
returns-clause-places c = grind (arith, common_steps)

pub returns-clause-charges : goal.returns-clause-charges
returns-clause-charges c = grind (arith, common_steps)
