use Rattle.std.proofs.Common.{ℕ, List, take, sym, ap, ◌∙◌, subst, arith}
use Rattle.std.proofs.lemmas.List.{take_all}
use Rattle.bw_world.specs.WorldStep.{after_steps, outcomes_of}
use Rattle.bw_world.specs.declared.step.Step.{Step}
use Rattle.bw_world.specs.declared.step.Step.TheVariants.{Load}
use Rattle.bw_world.specs.WorldView.{WorldView}
use Rattle.bw_world.specs.ExactWord.{IsExact}
use Rattle.bw_world.proofs.WorldLaw.{after_exact, world_next, outcomes_next, growing_next, on_err}
use Rattle.bw_world.proofs.world.World.run_all.Goals as goal

pub returns-in_err-outcomes-clause-exact : goal.returns-in_err-outcomes-clause-exact
returns-in_err-outcomes-clause-exact c = λ k. after_exact (take k c.args.steps.now) c.args.self.now.domains (subst (λ (w : WorldView). IsExact w.domains) c.self.view_is c.self.invariant)

pub returns-in_err-outcome-clause-err_only : goal.returns-in_err-outcome-clause-err_only
returns-in_err-outcome-clause-err_only c =
    let i = c.loop-step.invariant in
    let count = ap (λ (w : WorldView). w.applied) c.in_err-outcome.ensures.err ∙ i.applied in
    on_err c.from_residual-in_err-outcome.result (growing_next c.args.steps.now c.loop-step.step-index c.apply.new.self.applied (Load 0) c.args.self.now.domains c.loop-step.self.domains c.loop-step-test.true count i.world c.in_err-outcome.ensures.err_only)

pub returns-in_err-outcome-clause-exact : goal.returns-in_err-outcome-clause-exact
returns-in_err-outcome-clause-exact c = λ k. after_exact (take k c.args.steps.now) c.args.self.now.domains (subst (λ (w : WorldView). IsExact w.domains) c.self.view_is c.self.invariant)

pub loop-step-preserved : goal.loop-step-preserved
loop-step-preserved c =
    let i = c.loop-step.invariant in
    let stood = ap (λ (w : WorldView). w.domains) c.self-in-loop-step.view_is ∙ ap (λ (w : WorldView). w.domains) c.in_ok-outcome.ensures.world in
    let counted = ap (λ (w : WorldView). w.applied) c.self-in-loop-step.view_is ∙ ap (λ (w : WorldView). w.applied) c.in_ok-outcome.ensures.world in
    record {
      outcomes = outcomes_next c.args.steps.now c.loop-step.step-index (Load 0) c.args.self.now.domains c.loop-step.self.domains _ _ _ c.loop-step-test.true i.world i.outcomes c.in_ok-outcome.ensures.outcome c.push_reserved.ensures.items;
      world = world_next c.args.steps.now c.loop-step.step-index (Load 0) c.args.self.now.domains c.loop-step.self.domains _ c.loop-step-test.true i.world stood;
      applied = omega (arith, counted, i.applied);
      count = omega (arith, c.push_reserved.ensures.len, i.count);
      room = omega (arith, c.push_reserved.ensures.capacity, i.room);
    }

pub returns-clause-outcomes : goal.returns-clause-outcomes
returns-clause-outcomes c =
    let i = c.loop-step.invariant in
    i.outcomes ∙ ap (λ (ss : List Step). outcomes_of ss c.args.self.now.domains) (take_all c.loop-step.step-index c.args.steps.now (omega arith))

pub returns-clause-world : goal.returns-clause-world
returns-clause-world c =
    let i = c.loop-step.invariant in
    i.world ∙ ap (λ (n : ℕ). after_steps (take n c.args.steps.now) c.args.self.now.domains) (sym i.applied)

pub returns-in_err-outcome-clause-world : goal.returns-in_err-outcome-clause-world
returns-in_err-outcome-clause-world c =
    let i = c.loop-step.invariant in
    let count = ap (λ (w : WorldView). w.applied) c.in_err-outcome.ensures.err ∙ i.applied in
    ap (λ (w : WorldView). w.domains) c.in_err-outcome.ensures.err ∙ i.world ∙ ap (λ (n : ℕ). after_steps (take n c.args.steps.now) c.args.self.now.domains) (sym count)

pub returns-in_err-outcome-clause-beginning : goal.returns-in_err-outcome-clause-beginning
returns-in_err-outcome-clause-beginning c =
    let count = ap (λ (w : WorldView). w.applied) c.in_err-outcome.ensures.err ∙ c.loop-step.invariant.applied in
    omega (arith, count)

pub returns-clause-exact : goal.returns-clause-exact
returns-clause-exact c = λ k. after_exact (take k c.args.steps.now) c.args.self.now.domains (subst (λ (w : WorldView). IsExact w.domains) c.self.view_is c.self.invariant)
