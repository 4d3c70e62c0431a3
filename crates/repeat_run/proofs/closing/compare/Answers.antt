use Rattle.std.proofs.Common.{◌<◌, List, refl, subst, ◌∙◌, arith}
use Rattle.domain_run.specs.declared.mark.TaskSeen.{TaskSeen}
use Rattle.repeat_run.specs.declared.phase.Kept.{Kept}
use Rattle.repeat_run.specs.Seen.{ArePaced, AllLast}
use Rattle.repeat_run.proofs.Recording.{recorded_all}
use Rattle.repeat_run.proofs.closing.compare.Goals as goal

pub returns : goal.returns
returns c =
    let micros = c.args.micros in
    let kept = c.args.kept.now in
    let state = c.args.state.now in
    let paces = c.paces_to.new.paces in
    let more : Kept = record { seen = kept.seen; running = kept.running; paces = paces; period = kept.period } in
    let lots : 0 < c.in-Some.most = omega (arith, c.if-most-eq0.false) in
    recorded_all c.found_gives.ensures micros c.in-Some.most kept more state c.requires.knows c.requires.some lots
    (c.if-not-runs_same.ensures refl ∙ c.deref.ensures.value)
    (subst (λ (xs : List TaskSeen). ArePaced micros xs state.tasks paces.items) c.deref-2.ensures.value c.in-Some.ensures.paced)
    (λ m within. subst (λ (xs : List TaskSeen). AllLast m xs paces.items) c.deref-2.ensures.value (c.in-Some.ensures.lasts m within))
    refl
