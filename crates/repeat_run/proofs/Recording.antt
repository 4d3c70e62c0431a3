-- A period is written down, and then known.
use Rattle.std.proofs.Common.{◌≡◌, ℕ, suc, ◌+◌, ◌-◌, ◌<◌, ◌≤◌, List, [], ◌∷◌, ◌++◌, length, drop, refl, ap, sym, subst, ◌∙◌, length-append, arith}
use Rattle.domain_run.specs.declared.task.Task.{Task}
use Rattle.domain_run.specs.Switch.{Switch}
use Rattle.domain_run.specs.Domain.{Domain}
use Rattle.domain_run.specs.Coming.{switches_to_come}
use Rattle.domain_run.specs.Passing.{without_switches}
use Rattle.domain_run.specs.Sound.{IsDomain}
use Rattle.domain_run.specs.Tick.{ticks}
use Rattle.domain_run.proofs.CallerLemmas.{ticks_then, to_come_after, ticks_time}
use Rattle.repeat_run.specs.declared.phase.Kept.{Kept}
use Rattle.repeat_run.specs.Seen.{AreTasksSeen, ArePaced, AllLast}
use Rattle.repeat_run.specs.Gives.{GivesPeriods, IsFoundAgain, FoundGivesLaw}
use Rattle.repeat_run.specs.private.Knows.{IsRecorded, IsGiving}
use Rattle.repeat_run.proofs.Giving.{bare_ticks}

-- what was there at first is left out
drop_first : {A : Type 0} (xs ys : List A) → drop (length xs) (xs ++ ys) ≡ ys
drop_first [] ys = refl
drop_first (x ∷ xs) ys = drop_first xs ys

to_come_dropped : (k : ℕ) (d e : Domain) → e ≡ ticks k d → drop (length d.switches) e.switches ≡ switches_to_come k d
to_come_dropped k d e same =
    ap (λ (x : Domain). drop (length d.switches) x.switches) same
    ∙ ap (drop (length d.switches)) (to_come_after k d)
    ∙ drop_first d.switches (switches_to_come k d)

-- no switch is lost
pub longer : (k : ℕ) (d e : Domain) → e ≡ ticks k d → length d.switches ≤ length e.switches
longer k d e same =
    let a : length e.switches ≡ length (ticks k d).switches = ap (λ (x : Domain). length x.switches) same in
    let b : length (ticks k d).switches ≡ length (d.switches ++ switches_to_come k d) = ap (λ (ss : List Switch). length ss) (to_come_after k d) in
    let c = length-append d.switches (switches_to_come k d) in
    omega (arith, a, b, c)

-- what is to come depends on no switch so far
to_come_same : (k : ℕ) (d e : Domain) → without_switches d ≡ without_switches e → switches_to_come k d ≡ switches_to_come k e
to_come_same k d e same = ap (λ (x : Domain). (ticks k x).switches) same

to_come_on : (made k : ℕ) (start : Domain) → switches_to_come made start ++ switches_to_come k (ticks made start) ≡ switches_to_come (made + k) start
to_come_on made k start =
    let bare = without_switches start in
    ap (λ ss. switches_to_come made start ++ ss) (to_come_same k (ticks made start) (ticks made bare) (bare_ticks made start))
    ∙ sym (to_come_after k (ticks made bare))
    ∙ ap (λ (x : Domain). x.switches) (ticks_then made k bare)

there_on : (made k : ℕ) (start d e : Domain) → without_switches d ≡ without_switches (ticks made start) → e ≡ ticks k d → without_switches e ≡ without_switches (ticks (made + k) start)
there_on made k start d e there same =
    ap (λ (x : Domain). without_switches x) same
    ∙ bare_ticks k d
    ∙ ap (λ (x : Domain). without_switches (ticks k x)) there
    ∙ sym (bare_ticks k (ticks made start))
    ∙ ap (λ (x : Domain). without_switches x) (ticks_then made k start)

pub recorded_more : (made k : ℕ) (kept more : Kept) (d e : Domain) → IsRecorded made kept d → e ≡ ticks k d
    → more.seen.items ≡ kept.seen.items → more.running.items ≡ kept.running.items → more.period.items ≡ kept.period.items ++ drop (length d.switches) e.switches
    → IsRecorded (made + k) more e
recorded_more made k kept more d e is same seen running period = record {
  start = is.start;
  domain = is.domain;
  seen = subst (λ xs. AreTasksSeen xs is.start.tasks) (sym seen) is.seen;
  running = running ∙ is.running;
  there = there_on made k is.start d e is.there same;
  period = period
      ∙ ap (λ ss. kept.period.items ++ ss) (to_come_dropped k d e same ∙ to_come_same k d (ticks made is.start) is.there)
      ∙ ap (λ ss. ss ++ switches_to_come k (ticks made is.start)) is.period
      ∙ to_come_on made k is.start;
}

pub recorded_none : (kept : Kept) (d : Domain) → IsDomain d → AreTasksSeen kept.seen.items d.tasks → kept.running.items ≡ d.curr → kept.period.items ≡ [] → IsRecorded 0 kept d
recorded_none kept d is seen running period = record {
  start = d;
  domain = is;
  seen = seen;
  running = running;
  there = refl;
  period = period;
}

-- ---- the end looks like the beginning

pub recorded_all : (law : FoundGivesLaw) (micros most : ℕ) (kept more : Kept) (d : Domain) → IsRecorded micros kept d → 0 < micros → 0 < most
    → d.curr ≡ kept.running.items → ArePaced micros kept.seen.items d.tasks more.paces.items → ((m : ℕ) → m ≤ most → AllLast m kept.seen.items more.paces.items)
    → more.period.items ≡ kept.period.items → IsGiving micros micros (most - 1) more d
recorded_all law micros most kept more d is some lots curr paced lasts period =
    let paces = more.paces.items in
    let there = is.there in
    let tasks : d.tasks ≡ (ticks micros is.start).tasks = ap (λ (x : Domain). x.tasks) there in
    let runs : d.curr ≡ (ticks micros is.start).curr = ap (λ (x : Domain). x.curr) there in
    let time : d.time ≡ (ticks micros is.start).time = ap (λ (x : Domain). x.time) there in
    let passed = ticks_time micros is.start in
    let found : IsFoundAgain micros most kept.seen.items paces is.start = record {
      domain = is.domain;
      first = is.seen;
      curr = sym runs ∙ curr ∙ is.running;
      paced = subst (λ (ts : List Task). ArePaced micros kept.seen.items ts paces) tasks paced;
      lasts = lasts;
    } in
    let first = law micros most kept.seen.items paces is.start found in
    let one : most ≡ suc (most - 1) = omega (arith, lots) in
    let more_than_one = subst (λ n. GivesPeriods n micros paces 0 (switches_to_come micros is.start) (without_switches is.start)) one first in
    let rest : GivesPeriods (most - 1) micros paces (0 + micros) (switches_to_come micros is.start) (without_switches (ticks micros (without_switches is.start))) = more_than_one.1 in
    let by : 0 + micros ≡ micros = omega arith in
    let here : without_switches (ticks micros (without_switches is.start)) ≡ without_switches d = sym (bare_ticks micros is.start) ∙ sym there in
    let moved = subst (λ n. GivesPeriods (most - 1) micros paces n (switches_to_come micros is.start) (without_switches (ticks micros (without_switches is.start)))) by rest in
    let placed = subst (λ (x : Domain). GivesPeriods (most - 1) micros paces micros (switches_to_come micros is.start) x) here moved in
    record {
      some = some;
      past = omega (arith, time, passed);
      gives = subst (λ (ss : List Switch). GivesPeriods (most - 1) micros paces micros ss (without_switches d)) (sym (period ∙ is.period)) placed;
    }
