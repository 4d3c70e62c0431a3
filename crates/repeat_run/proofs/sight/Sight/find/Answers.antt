use Rattle.std.proofs.Common.{◌≡◌, ◌≤◌, suc, List, map, refl, ap, sym, subst, ◌∙◌, arith}
use Rattle.domain_run.specs.declared.mark.TaskSeen.{TaskSeen}
use Rattle.domain_run.specs.declared.pace.Pace.{Pace}
use Rattle.repeat_law.specs.Repeats.{many_paces}
use Rattle.repeat_run.specs.Seen.{ArePaced, AllLast}
use Rattle.repeat_run.specs.Sight.{SightView}
use Rattle.repeat_run.proofs.Sights.{sight_found}
use Rattle.repeat_run.proofs.sight.Sight.find.Goals as goal

pub returns-clause-alike : goal.returns-clause-alike
returns-clause-alike c =
    let micros = c.args.micros in
    let s = c.args.self.now in
    let now = c.args.state.now in
    let paces = c.paces_to.new.paces.items in
    let p = c.min-periods.result in
    let running = c.if-not-runs_same.ensures refl ∙ c.deref.ensures.value ∙ ap (λ (x : SightView). x.running) c.self.view_is in
    let seen = c.deref-2.ensures.value ∙ ap (λ (x : SightView). x.seen) c.self.view_is in
    let paced = subst (λ (xs : List TaskSeen). ArePaced micros xs now.tasks paces) seen c.in-Some.ensures.paced in
    let more : suc p ≤ c.in-Some.lasts = omega (arith, c.min-periods.ensures, c.saturating_sub.ensures, c.if-periods-eq0.false) in
    let far = c.if-not-far_paces.ensures refl ∙ ap (λ (ps : List Pace). map (many_paces p) ps) c.deref-else-periods-eq0.ensures.value in
    λ d is written there.
    sight_found c.found_goes_on.ensures micros c.in-Some.lasts p s paces c.far_paces.new.far.items now d is written there running paced
    (λ m within. subst (λ (xs : List TaskSeen). AllLast m xs paces) seen (c.in-Some.ensures.lasts m within))
    more far
