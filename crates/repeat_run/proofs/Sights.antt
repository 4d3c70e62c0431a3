-- What a comparison with a sight finds.
use Rattle.std.proofs.Common.{◌≡◌, ℕ, suc, ◌≤◌, List, map, ap, sym, subst, ◌∙◌}
use Rattle.domain_run.specs.declared.task.Task.{Task}
use Rattle.domain_run.specs.declared.mark.TaskSeen.{TaskSeen}
use Rattle.domain_run.specs.declared.pace.Pace.{Pace}
use Rattle.domain_run.specs.Domain.{Domain}
use Rattle.domain_run.specs.Passing.{without_switches}
use Rattle.domain_run.specs.Sound.{IsDomain}
use Rattle.domain_run.specs.Tick.{ticks}
use Rattle.repeat_law.specs.Repeats.{many_paces}
use Rattle.repeat_run.specs.Gives.{IsFoundAgain}
use Rattle.repeat_run.specs.Seen.{ArePaced, AllLast}
use Rattle.repeat_run.specs.Sight.{SightView, IsSightOf, GoesOnAlike, FoundGoesOnLaw}

pub sight_found : (law : FoundGoesOnLaw) (micros most p : ℕ) (s : SightView) (paces far : List Pace) (now d : Domain) → IsDomain d → IsSightOf s d → without_switches now ≡ without_switches (ticks micros d)
    → now.curr ≡ s.running → ArePaced micros s.seen now.tasks paces → ((m : ℕ) → m ≤ most → AllLast m s.seen paces) → suc p ≤ most → far ≡ map (many_paces p) paces → GoesOnAlike micros p far d
sight_found law micros most p s paces far now d is written there curr paced lasts more same =
    let tasks : now.tasks ≡ (ticks micros d).tasks = ap (λ (x : Domain). x.tasks) there in
    let runs : now.curr ≡ (ticks micros d).curr = ap (λ (x : Domain). x.curr) there in
    let found : IsFoundAgain micros most s.seen paces d = record {
      domain = is;
      first = written.seen;
      curr = sym runs ∙ curr ∙ written.running;
      paced = subst (λ (ts : List Task). ArePaced micros s.seen ts paces) tasks paced;
      lasts = lasts;
    } in
    subst (λ (ps : List Pace). GoesOnAlike micros p ps d) (sym same) (law micros most p s.seen paces d found more)
