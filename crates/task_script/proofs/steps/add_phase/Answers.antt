use Rattle.std.proofs.Common.{◌≡◌, ◌++◌, ◌∷◌, [], ◌<◌, ◌+◌, ◌-◌, length, sym, subst, ap, ◌∙◌, arith}
use Rattle.std.proofs.lemmas.List.{append-nil}
use Rattle.task_script.specs.script.ScriptView.{PhaseView}
use Rattle.task_script.specs.private.Steps.{steps_of_phase}
use Rattle.task_script.proofs.StepPlaces.{early_added, last_added}
use Rattle.task_script.proofs.steps.add_phase.Goals as goal

pub loop-event-init : goal.loop-event-init
loop-event-init c = sym (append-nil c.args.steps.now.items)

pub loop-event-preserved : goal.loop-event-preserved
loop-event-preserved c =
    let q : PhaseView = record { count = c.phase.inside.count; events = c.phase.inside.events.items } in
    let n = c.loop-event.event in
    let before = c.args.steps.now.items in
    let h : n + 1 < length q.events = omega (arith, c.loop-event-test.true, c.len-last.ensures) in
    let so_far = subst (λ (p : PhaseView). c.loop-event.steps.items ≡ before ++ steps_of_phase p n) (sym c.phase.view_is) c.loop-event.invariant in
    let push = c.in_ok-push.ensures.items ∙ ap (λ t. c.loop-event.steps.items ++ t ∷ []) c.make_step.ensures in
    subst (λ (p : PhaseView). c.push.new.self.items ≡ before ++ steps_of_phase p (n + 1)) c.phase.view_is (early_added q n c.index.result.now before c.loop-event.steps.items c.push.new.self.items h c.index.ensures so_far push)

pub returns : goal.returns
returns c =
    let q : PhaseView = record { count = c.phase.inside.count; events = c.phase.inside.events.items } in
    let n = c.len-last.result - 1 in
    let before = c.args.steps.now.items in
    let some : 0 < length q.events = subst (λ (p : PhaseView). 0 < length p.events) (sym c.phase.view_is) c.requires.phase.some_events in
    let h : n + 1 ≡ length q.events = omega (arith, some, c.len-last.ensures) in
    let all : c.loop-event.event ≡ n = omega (arith, c.loop-event.auto.event-end, c.loop-event-test.false) in
    let done = c.loop-event.invariant ∙ ap (λ k. before ++ steps_of_phase c.args.phase.now k) all in
    let so_far = subst (λ (p : PhaseView). c.loop-event.steps.items ≡ before ++ steps_of_phase p n) (sym c.phase.view_is) done in
    let push = c.in_ok-push-2.ensures.items ∙ ap (λ t. c.loop-event.steps.items ++ t ∷ []) c.make_step-2.ensures in
    subst (λ (p : PhaseView). c.push-2.new.self.items ≡ before ++ steps_of_phase p (length p.events)) c.phase.view_is (last_added q n c.index-2.result.now before c.loop-event.steps.items c.push-2.new.self.items h c.index-2.ensures so_far push)
