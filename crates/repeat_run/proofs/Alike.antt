-- After a period that is found again many more are alike.
use Rattle.std.proofs.Common.{◌≡◌, ℕ, suc, ◌+◌, ◌-◌, ◌*◌, ◌<◌, ◌≤◌, Option, Some, None, List, [], ◌∷◌, length, map, refl, ap, sym, subst, ◌∙◌, arith}
use Rattle.std.specs.Prelude.{IfSome, IsTrue}
use Rattle.std.proofs.Math.Nat.{suc-mul, add-mul}
use Rattle.std.proofs.lemmas.List.{length-map}
use Rattle.std.proofs.lemmas.List.Elements.{All-head, All-tail}
use Rattle.task_script.specs.script.ScriptView.{round_len}
use Rattle.task_script.specs.script.Later.{place_on}
use Rattle.domain_run.specs.declared.task.Task.{Task}
use Rattle.domain_run.specs.declared.mark.TaskSeen.{TaskSeen}
use Rattle.domain_run.specs.declared.pace.Pace.{Pace}
use Rattle.domain_run.specs.declared.pace.Pace.TheVariants.{Rests, Plays, Works}
use Rattle.domain_run.specs.Domain.{Domain}
use Rattle.domain_run.specs.GoneOn.{gone_on, MayGoOn}
use Rattle.domain_run.specs.Passing.{without_switches}
use Rattle.domain_run.specs.Shift.{Shift, paced_task, paced_all, shifted_task, MayGo, AllMayGo, MayShift}
use Rattle.domain_run.specs.Sound.{IsDomain}
use Rattle.domain_run.specs.Tick.{ticks}
use Rattle.domain_run.proofs.CallerLemmas.{ticks_then}
use Rattle.repeat_law.specs.Marks.{FoundLaw, HasPeriodsLaw}
use Rattle.repeat_law.specs.Repeats.{AfterLaw, LastsLaw, SwitchesLaw, LogsLaw, many_paces, many}
use Rattle.repeat_run.specs.Gives.{IsFoundAgain}
use Rattle.repeat_run.specs.Sight.{GoesOnAlike, after_period}
use Rattle.repeat_run.proofs.Comparing.{IsRepeating, shift_of, found_repeats}
use Rattle.repeat_run.proofs.Giving.{bare_ticks}
use Rattle.repeat_run.proofs.Going.{contends_later}
use Rattle.repeat_run.proofs.Swapping.{number_stays}

-- ---- a task after a period may go on for the others

rounds_after : (rounds : Option ℕ) (j r len place : ℕ) → IfSome rounds (λ n. place + (suc j * r) * len ≤ n * len) → IfSome rounds (λ n. place_on rounds (r * len) place + (j * r) * len ≤ n * len)
rounds_after None j r len place h = tt
rounds_after (Some n) j r len place h =
    let both = add-mul (j * r) r len in
    let same : (suc j * r) * len ≡ (j * r + r) * len = ap (λ (x : ℕ). x * len) (suc-mul j r) in
    omega (arith, h, same, both)

more_of_some : (j r : ℕ) → 0 < j * r → 0 < suc j * r
more_of_some j r some = let one = suc-mul j r in omega (arith, one, some)

work_after : (j w work : ℕ) → suc j * w < work → j * w < work - w
work_after j w work h = let one = suc-mul j w in omega (arith, one, h)

goes_far : (k j : ℕ) (p : Pace) (t : Task) → MayGo (many_paces (suc j) p) t → MayGo (many_paces j p) (paced_task k p t)
goes_far k j Rests t h = h
goes_far k j (Plays r) t h = λ some. rounds_after t.cursor.script.rounds j r (round_len t.cursor.script) t.cursor.place (h (more_of_some j r some))
goes_far k j (Works w) t h = (contends_later k t.condition h.0, work_after j w t.work h.1)

module _ (p k : ℕ) (pace : ℕ → Pace) where
  abbrev s : Shift
  s = shift_of k pace

  -- the pace of each task for p periods
  abbrev far : List Task → List Pace
  far ts = map (many_paces p) (map (λ (t : Task). pace t.number) ts)

  all_far : (ts : List Task) → map (shifted_task (many p s)) (map (shifted_task s) ts) ≡ paced_all (p * k) (far ts) (map (shifted_task s) ts)
  all_far [] = refl
  all_far (t ∷ ts) =
      let n = number_stays k (pace t.number) t in
      let a : shifted_task (many p s) (shifted_task s t) ≡ paced_task (p * k) (many_paces p (pace t.number)) (shifted_task s t) = λ i. paced_task (p * k) (many_paces p (pace (n i))) (paced_task k (pace t.number) t) in
      let b = all_far ts in
      λ i. a i ∷ b i

  may_far : (ts : List Task) → MayShift (many (suc p) s) ts → AllMayGo (far ts) (map (shifted_task s) ts)
  may_far [] h = tt
  may_far (t ∷ ts) h =
      let P : Task → Type 0 = λ (t : Task). MayGo (many_paces (suc p) (pace t.number)) t in
      (goes_far k p (pace t.number) t (All-head P t ts h), may_far ts (All-tail P t ts h))

-- ---- many periods after one

module _ (after_law : AfterLaw) (lasts_law : LastsLaw) (k most : ℕ) (paces : List Pace) (d : Domain) (is : IsDomain d) (r : IsRepeating k most paces d) (p : ℕ) (more : suc p ≤ most) where
  abbrev far_paces : List Pace
  far_paces = map (many_paces p) paces

  abbrev after : Domain
  after = after_period k d

  tasks : after.tasks ≡ map (shifted_task (shift_of k r.pace)) d.tasks
  tasks = ap (λ (x : Domain). x.tasks) r.once.again

  -- a domain that is shifted by p periods, whatever it is
  abbrev far_on : Domain → Domain
  far_on x = record x { time = x.time + p * k; tasks = map (shifted_task (many p (shift_of k r.pace))) x.tasks; switches = [] }

  swapped : ticks (p * k) (ticks k d) ≡ ticks k (ticks (p * k) d)
  swapped =
      let e : k + p * k ≡ p * k + k = omega arith in
      ticks_then k (p * k) d ∙ ap (λ n. ticks n d) e ∙ sym (ticks_then (p * k) k d)

  shifted_far : without_switches (ticks (p * k) after) ≡ far_on after
  shifted_far =
      sym (bare_ticks (p * k) (ticks k d))
      ∙ ap (λ (x : Domain). without_switches x) swapped
      ∙ ap (λ (x : Domain). without_switches x) (after_law (shift_of k r.pace) p k d is r.once (r.lasts p (omega (arith, more))) (lasts_law (shift_of k r.pace) p k d is r.once (r.lasts (suc p) more) (omega arith)))
      ∙ ap far_on (sym (bare_ticks k d))

  same_tasks : map (shifted_task (many p (shift_of k r.pace))) after.tasks ≡ paced_all (p * k) far_paces after.tasks
  same_tasks =
      ap (λ (ts : List Task). map (shifted_task (many p (shift_of k r.pace))) ts) tasks
      ∙ all_far p k r.pace d.tasks
      ∙ (λ i. paced_all (p * k) (map (many_paces p) (sym r.listed i)) (sym tasks i))

  goes : MayGoOn (p * k) far_paces after
  goes = record {
    many = length-map paces (many_paces p) ∙ ap (λ (ps : List Pace). length ps) r.listed ∙ length-map d.tasks (λ (t : Task). r.pace t.number) ∙ sym (length-map d.tasks (shifted_task (shift_of k r.pace))) ∙ ap (λ (ts : List Task). length ts) (sym tasks);
    may = subst (λ (ts : List Task). AllMayGo far_paces ts) (sym tasks)
        (subst (λ (ps : List Pace). AllMayGo (map (many_paces p) ps) (map (shifted_task (shift_of k r.pace)) d.tasks)) (sym r.listed) (may_far p k r.pace d.tasks (r.lasts (suc p) more)));
    there = shifted_far ∙ ap (λ (ts : List Task). record after { time = after.time + p * k; tasks = ts; switches = [] }) same_tasks;
  }

  pub alike : LogsLaw → SwitchesLaw → GoesOnAlike k p far_paces d
  alike logs_law switches_law = record {
    goes = goes;
    logged = logs_law (shift_of k r.pace) (suc p) d is r.once (r.lasts (suc p) more);
    switches = switches_law (shift_of k r.pace) (suc p) d is r.once (r.lasts (suc p) more);
  }

module _ (after_law : AfterLaw) (lasts_law : LastsLaw) (logs_law : LogsLaw) (switches_law : SwitchesLaw) (found_law : FoundLaw) (periods_law : HasPeriodsLaw) where
  pub found_alike : (k most p : ℕ) (seen : List TaskSeen) (paces : List Pace) (d : Domain) → IsFoundAgain k most seen paces d → suc p ≤ most → GoesOnAlike k p (map (many_paces p) paces) d
  found_alike k most p seen paces d f more =
      alike after_law lasts_law k most paces d f.domain (found_repeats found_law periods_law k most seen paces d f) p more logs_law switches_law
