-- A tick keeps what every domain keeps.
use Rattle.std.proofs.Common.{◌≡◌, ℕ, ◌+◌, ◌^◌, ◌<◌, ◌≤◌, Bool, eqb, Option, Some, None, List, ◌++◌, length, map, sym, ap, ◌∙◌, subst, arith}
use Rattle.std.specs.Prelude.{All, Any, AllPairs, pos, ◌<ℤ◌, IsTrue, filter, position, ◌≢◌}
use Rattle.std.specs.List.{list_any}
use Rattle.std.proofs.lemmas.List.{length-map}
use Rattle.std.proofs.lemmas.List.Elements.{All-map, All-weaker, All-filter}
use Rattle.std.proofs.lemmas.List.Kept.{AllPairs-filter}
use Rattle.attr_check.specs.Ratio.{cap}
use Rattle.domain_run.specs.declared.task.Task.{Task}
use Rattle.edf_pick.specs.Places.{Places, is_task, is_on_cpu, placed}
use Rattle.domain_run.specs.Parts.{replenish_due, settled, is_listed, unblocked, with_last_cpu, with_cpu}
use Rattle.domain_run.specs.Switch.{Switch}
use Rattle.domain_run.specs.Switches.{switches_from}
use Rattle.domain_run.specs.Domain.{Domain}
use Rattle.domain_run.specs.Tick.{sum_of, candidates, prepared, with_places, with_tick_begun, ran_if, finished, ticked}
use Rattle.domain_run.specs.Sound.{IsSound, IsPlacement, IsSteady, IsDomain, IsAdmitted}
use Rattle.domain_run.specs.Conditions.{is_ready}
use Rattle.domain_run.proofs.Tracing.{AreRunning, tick_traced}
use Rattle.domain_run.proofs.Keeping.{Same, same_itself, same_either, same_replenished, same_settled, same_unblocked, same_ran, AllPairs-map, length-filter_least, sum-map, sum-filter}
use Rattle.domain_run.proofs.OpenCharging.{placed_is}
use Rattle.domain_run.proofs.Placing.{homed_number, homed_params, homed_cpu, position_within, placed_tasks}

-- what a domain keeps of its tasks, apart from each task's own soundness
pub record AreListed (d : Domain) (tasks : List Task) : Type 0 where
  pub within : sum_of tasks ≤ cap d.cpus d.limit
  pub listed : length tasks ≤ 256
  pub homes : All (λ t. t.cpu < d.cpus) tasks
  pub numbered : AllPairs (λ a b. a.number ≢ b.number) tasks
  pub known : All (λ t. IsTrue (list_any (λ n. eqb n t.number) d.used)) tasks

other_number : (f : Task → Task) → ((t : Task) → (f t).number ≡ t.number) → (a b : Task) → a.number ≢ b.number → (f a).number ≢ (f b).number
other_number f keeps a b h e = h (sym (keeps a) ∙ e ∙ keeps b)

listed_by : (d : Domain) (f : Task → Task) (tasks : List Task) → ((t : Task) → (f t).number ≡ t.number) → ((t : Task) → (f t).params ≡ t.params) → All (λ t. (f t).cpu < d.cpus) tasks → AreListed d tasks → AreListed d (map f tasks)
listed_by d f tasks number params homes is =
    let e : length (map f tasks) ≡ length tasks = simp length-map in
    record {
      within = rw (sum-map f params tasks) is.within;
      listed = omega (arith, is.listed);
      homes = All-map (λ t. t.cpu < d.cpus) f tasks homes;
      numbered = AllPairs-map (λ a b. a.number ≢ b.number) f (other_number f number) tasks is.numbered;
      known = All-map (λ t. IsTrue (list_any (λ n. eqb n t.number) d.used)) f tasks
          (All-weaker (λ t. IsTrue (list_any (λ n. eqb n t.number) d.used)) (λ t. IsTrue (list_any (λ n. eqb n (f t).number) d.used)) (λ t h. ap (λ m. list_any (λ n. eqb n m) d.used) (number t) ∙ h) tasks is.known);
    }

pub listed_map : (d : Domain) (f : Task → Task) (tasks : List Task) → ((t : Task) → Same t (f t)) → AreListed d tasks → AreListed d (map f tasks)
listed_map d f tasks same is = listed_by d f tasks (λ t. (same t).number) (λ t. (same t).params) (All-weaker (λ t. t.cpu < d.cpus) (λ t. (f t).cpu < d.cpus) (λ t h. subst (λ c. c < d.cpus) (sym (same t).cpu) h) tasks is.homes) is

listed_filter : (d : Domain) (p : Task → Bool) (tasks : List Task) → AreListed d tasks → AreListed d (filter p tasks)
listed_filter d p tasks is = record {
  within = omega (arith, sum-filter p tasks, is.within);
  listed = omega (arith, length-filter_least p tasks, is.listed);
  homes = All-filter p (λ t. t.cpu < d.cpus) tasks is.homes;
  numbered = AllPairs-filter (λ a b. a.number ≢ b.number) p tasks is.numbered;
  known = All-filter p (λ t. IsTrue (list_any (λ n. eqb n t.number) d.used)) tasks is.known;
}

pub listed_homed : (d : Domain) (places : Places) (tasks : List Task) → length places ≡ d.cpus → AreListed d tasks → AreListed d (map (with_last_cpu places) tasks)
listed_homed d places tasks wide is =
    listed_by d (with_last_cpu places) tasks (λ t. homed_number (position (is_task t.number) places) t) (λ t. homed_params (position (is_task t.number) places) t)
    (All-weaker (λ t. t.cpu < d.cpus) (λ t. (with_last_cpu places t).cpu < d.cpus) (λ t h. homed_cpu d.cpus (position (is_task t.number) places) t (λ cpu e. subst (λ n. cpu < n) wide (position_within t.number places cpu e)) h) tasks is.homes)
    is

pub listed_of : (d : Domain) → IsSteady d → AreListed d d.tasks
listed_of d is = record { within = is.within; listed = is.listed; homes = is.homes; numbered = is.numbered; known = is.known }

pub list_prepared : (d : Domain) → AreListed d d.tasks → AreListed d (prepared d.time d.tasks)
list_prepared d is =
    let a = listed_map d (replenish_due d.time) d.tasks (same_replenished d.time) is in
    let b = listed_map d (settled d.time) (map (replenish_due d.time) d.tasks) (same_settled d.time) a in
    let c = listed_filter d is_listed (map (settled d.time) (map (replenish_due d.time) d.tasks)) b in
    listed_map d (unblocked d.time) (filter is_listed (map (settled d.time) (map (replenish_due d.time) d.tasks))) (same_unblocked d.time) c

pub listed_prepared : (d : Domain) → IsSteady d → AreListed d (prepared d.time d.tasks)
listed_prepared d is = list_prepared d (listed_of d is)

pub homed_sound : (time : ℕ) (o : Option ℕ) (t : Task) → IsSound time t → IsSound time (with_cpu o t)
homed_sound time None t h = h
homed_sound time (Some cpu) t h = record { served = h.served; spent = h.spent; lifted = h.lifted; dated = h.dated; busy = h.busy; timed = h.timed }

pub begun_is : (d : Domain) → IsSteady d → All (IsSound d.time) (prepared d.time d.tasks) → IsSteady (with_tick_begun d) × IsPlacement (with_tick_begun d)
begun_is d is sound =
    let tasks = prepared d.time d.tasks in
    let open_charging = placed_is d.cpus (candidates tasks) d.curr is.wide is.apart in
    let places = placed d.cpus (candidates tasks) d.curr in
    let l = listed_homed d places tasks open_charging.wide (listed_prepared d is) in (
      record {
        early = is.early;
        cpus = is.cpus;
        limit = is.limit;
        within = l.within;
        listed = l.listed;
        sound = All-map (IsSound d.time) (with_last_cpu places) tasks (All-weaker (IsSound d.time) (λ t. IsSound d.time (with_last_cpu places t)) (λ t h. homed_sound d.time (position (is_task t.number) places) t h) tasks sound);
        homes = l.homes;
        numbered = l.numbered;
        known = l.known;
        wide = open_charging.wide;
        apart = open_charging.apart;
      },
      placed_tasks d.time d.cpus d tasks places sound open_charging,
    )

pub same_ran_if : (d : Domain) (t : Task) → Same t (ran_if d t)
same_ran_if d t = same_either (is_on_cpu t.number d.curr) t _ t (same_ran d.time _ t) (same_itself t)

pub finished_is : (d : Domain) → IsSteady d → d.time < 2 ^ 42 → All (IsSound (d.time + 1)) (map (ran_if d) d.tasks) → IsSteady (finished d)
finished_is d is early sound =
    let l = listed_map d (ran_if d) d.tasks (same_ran_if d) (listed_of d is) in
    record {
      early = omega (arith, early);
      cpus = is.cpus;
      limit = is.limit;
      within = l.within;
      listed = l.listed;
      sound = sound;
      homes = l.homes;
      numbered = l.numbered;
      known = l.known;
      wide = is.wide;
      apart = is.apart;
    }

-- ---- the middle of a tick, as the code has it

pub record IsMiddle (d e : Domain) : Type 0 where
  pub begun_is : e ≡ with_tick_begun d
  pub steady : IsSteady e
  pub placed : IsPlacement e

pub middle : (d : Domain) (tasks : List Task) (places : Places) (switches : List Switch) → IsDomain d → All (IsSound d.time) (prepared d.time d.tasks)
    → tasks ≡ map (with_last_cpu places) (prepared d.time d.tasks) → places ≡ placed (length d.curr) (candidates (prepared d.time d.tasks)) d.curr → switches ≡ d.switches ++ switches_from d.time (prepared d.time d.tasks) 0 d.curr places
    → IsMiddle d (record d { tasks = tasks; curr = places; switches = switches })
middle d tasks places switches is sound tasks-are places-are switches-are =
    let made : List Task → List Switch → Domain = λ ts ss. record d { tasks = ts; curr = places; switches = ss } in
    let list = prepared d.time d.tasks in
    let assigned : places ≡ placed d.cpus (candidates list) d.curr = places-are ∙ ap (λ n. placed n (candidates list) d.curr) is.steady.wide in
    let same : record d { tasks = tasks; curr = places; switches = switches } ≡ with_tick_begun d =
    ap (λ ts. made ts switches) tasks-are ∙ ap (made (map (with_last_cpu places) list)) switches-are ∙ ap (with_places d list) assigned in
    let keeps = begun_is d is.steady sound in
    record { begun_is = same; steady = subst IsSteady (sym same) keeps.0; placed = subst IsPlacement (sym same) keeps.1 }

running_from : (e : Domain) → IsSteady e → IsPlacement e → AreRunning e.used e.curr
running_from e is at cpu n h = on_cpu_by (at.running cpu n h)
  where
    on_cpu_by : Any (λ t. (t.number ≡ n) × (t.cpu ≡ cpu) × IsTrue (is_ready t.condition) × (pos 0 <ℤ t.server.left)) e.tasks → IsAdmitted e.used n
    on_cpu_by (k, t, within, same, facts) = subst (IsAdmitted e.used) (ap (λ x. x.number) same ∙ facts.0) (is.known k t within)

pub ticked_is : (d : Domain) → IsDomain d → d.time < 2 ^ 42 → All (IsSound d.time) (prepared d.time d.tasks) → All (IsSound (d.time + 1)) (ticked d).tasks → IsDomain (ticked d)
ticked_is d is early ready sound =
    let keeps = begun_is d is.steady ready in
    record {
      steady = finished_is (with_tick_begun d) keeps.0 early sound;
      traced = tick_traced d (prepared d.time d.tasks) (ticked d).tasks (with_tick_begun d).curr is.steady.wide is.traced (running_from (with_tick_begun d) keeps.0 keeps.1);
    }

-- what the code leaves is the tick
pub done : (d e : Domain) (tasks : List Task) → IsMiddle d e → tasks ≡ map (ran_if e) e.tasks → record e { time = e.time + 1; tasks = tasks } ≡ ticked d
done d e tasks is tasks-are =
    let made : List Task → Domain = λ ts. record e { time = e.time + 1; tasks = ts } in
    ap made tasks-are ∙ ap finished is.begun_is

pub done_sound : (d e : Domain) (tasks : List Task) → IsMiddle d e → tasks ≡ map (ran_if e) e.tasks → All (IsSound (d.time + 1)) tasks → All (IsSound (d.time + 1)) (ticked d).tasks
done_sound d e tasks is tasks-are sound = subst (All (IsSound (d.time + 1))) (tasks-are ∙ ap (λ x. (finished x).tasks) is.begun_is) sound
