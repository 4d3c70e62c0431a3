use Rattle.std.proofs.Common.{◌≡◌, ◌<◌, None, length, map, get_or, set, sym, ap, ◌∙◌, arith, inl, inr}
use Rattle.std.proofs.lemmas.Bool.{cases_lt}
use Rattle.std.proofs.lemmas.List.{get_or-map, get_or-set_same, get_or-set_other, length-map, length-set}
use Rattle.domain_run.specs.declared.task.Task.{Task}
use Rattle.domain_run.specs.private.TaskTable.{without_zero_lag}
use Rattle.domain_run.proofs.Due.{step_len}
use Rattle.domain_run.proofs.DeferringTimers.{lists_same, step_here, step_other}
use Rattle.domain_run.proofs.task_table.TaskTable.deferred_lag.Goals as goal

pub loop-place-preserved : goal.loop-place-preserved
loop-place-preserved c =
    let l = c.loop-place in
    let p = l.place in
    let one = c.defer_at in
    let first = c.args.self.now.tasks in
    let there : p < length l.self.tasks = omega (arith, c.loop-place-test.true, c.len-place-end.ensures.len, l.invariant.many) in
    record {
      cpus = one.ensures.cpus ∙ l.invariant.cpus;
      places = one.ensures.places ∙ l.invariant.places;
      many = step_len without_zero_lag l.self.tasks one.new.self.tasks p there one.ensures.step ∙ l.invariant.many;
      before = λ i d less within. elim (cases_lt i p) [
        | inl far ↦ step_other without_zero_lag l.self.tasks one.new.self.tasks p one.ensures.step i d (λ e. absurd (omega (arith, e, far))) ∙ l.invariant.before i d far within
        | inr near ↦
            let here : i ≡ p = omega (arith, less, near) in
            ap (λ n. get_or one.new.self.tasks n d) here
            ∙ step_here without_zero_lag l.self.tasks one.new.self.tasks p one.ensures.step d there
            ∙ ap without_zero_lag (l.invariant.following p d (omega arith))
            ∙ ap (λ n. without_zero_lag (get_or first n d)) (sym here)
      ];
      following = λ i d far. step_other without_zero_lag l.self.tasks one.new.self.tasks p one.ensures.step i d (λ e. absurd (omega (arith, e, far))) ∙ l.invariant.following i d (omega (arith, far));
      sound = one.ensures.sound;
      long = length-set l.lags p one.result ∙ l.invariant.long;
      lags = λ i d less within. elim (cases_lt i p) [
        | inl far ↦ get_or-set_other l.lags p i one.result None (λ e. absurd (omega (arith, e, far))) ∙ l.invariant.lags i d far within
        | inr near ↦
            let here : i ≡ p = omega (arith, less, near) in
            ap (λ n. get_or (set l.lags p one.result) n None) here
            ∙ get_or-set_same l.lags p one.result None (omega (arith, l.invariant.long, there, l.invariant.many, c.len-place-end.ensures.few))
            ∙ one.ensures.lag d
            ∙ ap (λ (t : Task). t.zero_lag) (l.invariant.following p d (omega arith))
            ∙ ap (λ n. (get_or first n d).zero_lag) (sym here)
      ];
    }

pub returns-clause-tasks : goal.returns-clause-tasks
returns-clause-tasks c =
    let l = c.loop-place in
    let first = c.args.self.now.tasks in
    let len : length (map without_zero_lag first) ≡ length first = simp length-map in
    lists_same l.self.tasks (map without_zero_lag first) (omega (arith, len, l.invariant.many)) (λ i d h. l.invariant.before i d (omega arith) (omega (arith, h, len)) ∙ sym (get_or-map without_zero_lag first i d d (omega (arith, h, len))))
