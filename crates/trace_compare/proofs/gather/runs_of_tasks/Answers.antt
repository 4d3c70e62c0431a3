use Rattle.std.proofs.Common.{ℕ, length, sym, subst}
use Rattle.trace_compare.specs.Tasks.{IsNoise}
use Rattle.trace_compare.specs.private.Behind.{Lists, IsCollected, AreShortLists}
use Rattle.trace_compare.proofs.Gathered.{collected_short, noise_is, tasks_are}
use Rattle.trace_compare.proofs.gather.runs_of_tasks.Goals as goal

pub settle_all-requires-clause-model : goal.settle_all-requires-clause-model
settle_all-requires-clause-model c = subst AreShortLists (sym c.as_slice-2.ensures.value) (collected_short c.in_ok-of_model.of_model.items c.args.tasks c.args.model.now c.requires.model c.in_ok-of_model.ensures)

pub settle_all-requires-clause-recorded : goal.settle_all-requires-clause-recorded
settle_all-requires-clause-recorded c = subst AreShortLists (sym c.as_slice-3.ensures.value) (collected_short c.in_ok-of_recorded.of_recorded.items c.args.tasks c.args.recorded.now c.requires.recorded c.in_ok-of_recorded.ensures)

pub returns-clause-tasks : goal.returns-clause-tasks
returns-clause-tasks c =
    let one = subst (λ (l : Lists). IsCollected l c.args.tasks c.args.model.now) (sym c.as_slice-2.ensures.value) c.in_ok-of_model.ensures in
    let two = subst (λ (l : Lists). IsCollected l c.args.tasks c.args.recorded.now) (sym c.as_slice-3.ensures.value) c.in_ok-of_recorded.ensures in
    let three = subst (λ (l : Lists). IsCollected l c.args.tasks c.args.model.now) (sym c.as_slice.ensures.value) c.in_ok-of_model.ensures in (
      c.noise_for-noise.result,
      subst (λ (n : ℕ). IsNoise c.args.asked c.args.model.now c.args.tasks n) (sym c.noise_for-noise.ensures.value) (noise_is c.args.asked c.as_slice.result.now c.args.tasks c.args.model.now three),
      tasks_are c.noise_for-noise.result c.args.tasks (length c.as_slice-2.result.now) c.args.model.now c.args.recorded.now c.as_slice-2.result.now c.as_slice-3.result.now c.in_ok-settled.settled.items one two one.many c.in_ok-settled.ensures,
    )
