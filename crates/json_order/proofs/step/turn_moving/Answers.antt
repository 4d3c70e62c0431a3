use Rattle.std.proofs.Common.{IfErr, Result, Ok, Err, List, sym, ◌∙◌}
use Rattle.json_order.specs.private.Places.{frames_of}
use Rattle.json_order.specs.private.Machine.{Frame}
use Rattle.json_order.proofs.step.turn_moving.Goals as goal

at_frames : {A E : Type 0} (r : Result A E) (P : E → List Frame → Type 0) (fs : List Frame) → IfErr r (λ k. (gs : List Frame) → P k gs) → IfErr r (λ k. P k fs)
at_frames (Ok x) P fs h = h
at_frames (Err k) P fs h = h fs

pub returns-in-Key-clause-err : goal.returns-in-Key-clause-err
returns-in-Key-clause-err c =
    let e = sym c.replace.ensures.value ∙ c.in-Key.is in
    rw e (at_frames c.key_step.result _ (frames_of c.args.stack.now.items) c.key_step.ensures.err)
