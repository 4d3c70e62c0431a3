-- A leap of a domain under way is so many ticks.
use Rattle.std.proofs.Common.{◌≡◌, ℕ, ◌+◌, ◌-◌, ◌<◌, ◌≤◌, ◌++◌, true, false, cond, List, map, get_or, refl, sym, ap, ◌∙◌, subst, arith}
use Rattle.std.specs.List.{flat_map}
use Rattle.std.specs.Prelude.{pos, ◌*◌, ◌-ℤ◌, ◌<ℤ◌, All, Any, IsTrue}
use Rattle.std.proofs.lemmas.List.{get_or_default}
use Rattle.edf_pick.specs.Places.{Places, is_on_cpu}
use Rattle.domain_run.specs.declared.task.Task.{Task}
use Rattle.domain_run.specs.Conditions.{is_ready}
use Rattle.domain_run.specs.Domain.{Domain}
use Rattle.domain_run.specs.Jump.{under_way, ticks_to_event}
use Rattle.domain_run.specs.Sound.{IsSound, IsSteady, IsPlacement}
use Rattle.domain_run.specs.Tick.{with_tick_begun, ticks}
use Rattle.domain_run.specs.Happened.{in_order, logged_by_beginning, logged_by_last_end, logged_by_ticks}
use Rattle.domain_run.specs.private.Expiring.{logged_leapt}
use Rattle.domain_run.specs.private.Paying.{ran_until}
use Rattle.domain_run.specs.private.TaskTable.{rate_in, leapt, LastsIf}
use Rattle.domain_run.specs.private.Owed.{MayStart, MayStartOn}
use Rattle.domain_run.proofs.Jumping.{RunsIf, jump_is}
use Rattle.domain_run.proofs.Keeping.{Same}
use Rattle.domain_run.proofs.Paying.{is_Ready, same_ran_until}
use Rattle.domain_run.proofs.Placing.{one_index}
use Rattle.domain_run.proofs.Runners.{contends}
use Rattle.domain_run.proofs.LoggedTicks.{last_end_is, leap_logs}

-- the task that runs on a CPU may have an open charge there
pub may_start_on : (e : Domain) → IsSteady e → IsPlacement e → MayStartOn e.curr e.tasks
may_start_on e steady placed cpu n at i d h number = by_task (placed.running cpu n at)
  where
    by_task : Any (λ t. (t.number ≡ n) × (t.cpu ≡ cpu) × IsTrue (is_ready t.condition) × (pos 0 <ℤ t.server.left)) e.tasks → ((get_or e.tasks i d).cpu ≡ cpu) × MayStart (get_or e.tasks i d)
    by_task (k, t, within, same, facts) =
        let sound : IsSound e.time t = subst (IsSound e.time) same (steady.sound k t within) in
        let read : t ≡ get_or e.tasks k d = sym same ∙ get_or_default e.tasks k t d within in
        let i_is : i ≡ k = one_index e.tasks i k d d steady.numbered h within (number ∙ sym facts.0 ∙ ap (λ (x : Task). x.number) read) in
        let is : t ≡ get_or e.tasks i d = read ∙ ap (λ j. get_or e.tasks j d) (sym i_is) in
        subst (λ (x : Task). (x.cpu ≡ cpu) × MayStart x) is (
          facts.1,
          record { ready = facts.2; busy = sound.busy (contends t.condition facts.2); lifted = facts.3; high = sound.served.high },
        )

pub same_leapt : (time k : ℕ) (places : Places) (cpus limit : ℕ) (tasks : List Task) (t : Task) → Same t (leapt time k places cpus limit tasks t)
same_leapt time k places cpus limit tasks t =
    let left = t.server.left -ℤ pos (rate_in cpus limit tasks t * k) in
    elim (is_on_cpu t.number places) as (λ b. Same t (cond b (ran_until time k left t) t)) [
      | true ↦ same_ran_until time k left t
      | false ↦ record { number = refl; params = refl; cpu = refl }
    ]

module _ (e : Domain) (k : ℕ) (some : 0 < k) (quiet : k ≤ ticks_to_event (under_way e)) (lasts : All (LastsIf k (under_way e).curr (under_way e).cpus (under_way e).limit (under_way e).tasks) (under_way e).tasks) where
  pub runs_if : All (RunsIf (with_tick_begun e) k) (with_tick_begun e).tasks
  runs_if i x h on_one = let r = lasts i x h on_one in record { ready = is_Ready (get_or (with_tick_begun e).tasks i x).condition r.ready; worked = r.worked; lasted = r.lasted }

  -- what it logs is the end of its last tick
  pub leap_last : (time : ℕ) → time ≡ (under_way e).time + (k - 1) → in_order (flat_map (logged_leapt time k (under_way e).curr (under_way e).cpus (under_way e).limit (under_way e).tasks) (under_way e).tasks) ≡ logged_by_last_end k e
  leap_last time time-is =
      let u = under_way e in
      let at : time ≡ e.time + k = omega (arith, time-is, some) in
      ap (λ n. in_order (flat_map (logged_leapt n k u.curr u.cpus u.limit u.tasks) u.tasks)) at
      ∙ sym (last_end_is e k some quiet runs_if)

  pub leap_quiet : logged_by_ticks k e ≡ logged_by_beginning e ++ logged_by_last_end k e
  leap_quiet = leap_logs e k some quiet runs_if

pub leap_is : (e : Domain) (k time : ℕ) (tasks : List Task) → 0 < k → k ≤ ticks_to_event (under_way e) → time ≡ (under_way e).time + (k - 1)
    → All (LastsIf k (under_way e).curr (under_way e).cpus (under_way e).limit (under_way e).tasks) (under_way e).tasks
    → tasks ≡ map (leapt time k (under_way e).curr (under_way e).cpus (under_way e).limit (under_way e).tasks) (under_way e).tasks
    → record (under_way e) { time = time; tasks = tasks } ≡ ticks k e
leap_is e k time tasks some quiet time-is lasts tasks-are =
    let u = under_way e in
    let b = with_tick_begun e in
    let at : time ≡ e.time + k = omega (arith, time-is, some) in
    let runs : All (RunsIf b k) b.tasks = λ i x h on_one. let r = lasts i x h on_one in record { ready = is_Ready (get_or b.tasks i x).condition r.ready; worked = r.worked; lasted = r.lasted } in
    let all = tasks-are ∙ ap (λ n. map (leapt n k u.curr u.cpus u.limit u.tasks) u.tasks) at in
    (λ i. record u { time = at i; tasks = all i }) ∙ sym (jump_is e k some (omega (arith, quiet)) runs)
