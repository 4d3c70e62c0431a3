use Rattle.std.proofs.Common.{◌≡◌, ◌<◌, None, length, get_or, sym, ap, ◌∙◌, arith, inl, inr}
use Rattle.std.proofs.lemmas.Bool.{cases_lt}
use Rattle.domain_run.specs.private.DeferringTimers.{with_lag, with_lags}
use Rattle.domain_run.proofs.Due.{step_len}
use Rattle.domain_run.proofs.DeferringTimers.{lists_same, length_lags, read_lags, step_here, step_other}
use Rattle.domain_run.proofs.task_table.TaskTable.take_back.Goals as goal

pub loop-place-preserved : goal.loop-place-preserved
loop-place-preserved c =
    let l = c.loop-place in
    let p = l.place in
    let past = c.args.past in
    let lags = c.args.lags.now in
    let f = with_lag past (get_or lags p None) in
    let one = c.take_back_at in
    let first = c.args.self.now.tasks in
    let there : p < length l.self.tasks = omega (arith, c.loop-place-test.true, c.len-place-end.ensures.len, l.invariant.many) in
    record {
      cpus = one.ensures.cpus ∙ l.invariant.cpus;
      places = one.ensures.places ∙ l.invariant.places;
      many = step_len f l.self.tasks one.new.self.tasks p there one.ensures.step ∙ l.invariant.many;
      before = λ i d less within. elim (cases_lt i p) [
        | inl far ↦ step_other f l.self.tasks one.new.self.tasks p one.ensures.step i d (λ e. absurd (omega (arith, e, far))) ∙ l.invariant.before i d far within
        | inr near ↦
            let here : i ≡ p = omega (arith, less, near) in
            ap (λ n. get_or one.new.self.tasks n d) here
            ∙ step_here f l.self.tasks one.new.self.tasks p one.ensures.step d there
            ∙ ap f (l.invariant.following p d (omega arith))
            ∙ ap (λ n. with_lag past (get_or lags n None) (get_or first n d)) (sym here)
      ];
      following = λ i d far. step_other f l.self.tasks one.new.self.tasks p one.ensures.step i d (λ e. absurd (omega (arith, e, far))) ∙ l.invariant.following i d (omega (arith, far));
      sound = one.ensures.sound;
    }

pub returns-clause-tasks : goal.returns-clause-tasks
returns-clause-tasks c =
    let l = c.loop-place in
    let first = c.args.self.now.tasks in
    let past = c.args.past in
    let lags = c.args.lags.now in
    let len = length_lags past lags first in
    lists_same l.self.tasks (with_lags past lags first) (omega (arith, len, l.invariant.many)) (λ i d h. l.invariant.before i d (omega (arith, h, len, c.loop-place-test.false, c.len-place-end.ensures.len)) (omega (arith, h, len)) ∙ sym (read_lags past lags first i d (omega (arith, h, len))))
