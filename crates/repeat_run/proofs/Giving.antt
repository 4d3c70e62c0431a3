-- Of a domain that repeats, period after period may be given.
use Rattle.std.proofs.Common.{◌≡◌, ℕ, zero, suc, ◌+◌, ◌*◌, ◌≤◌, List, [], ◌∷◌, length, map, refl, ap, sym, subst, ◌∙◌, append-nil, arith}
use Rattle.std.proofs.Math.Nat.{suc-mul}
use Rattle.std.proofs.lemmas.List.Elements.{All-head, All-tail, All-nil}
use Rattle.domain_run.specs.declared.task.Task.{Task}
use Rattle.domain_run.specs.Switch.{Switch}
use Rattle.domain_run.specs.Domain.{Domain}
use Rattle.domain_run.specs.Coming.{switches_to_come}
use Rattle.domain_run.specs.Passing.{without_switches, with_past}
use Rattle.domain_run.specs.Sound.{IsDomain, IsSwitch}
use Rattle.domain_run.specs.Tick.{ticks}
use Rattle.domain_run.proofs.CallerLemmas.{ticks_after, ticks_then}
use Rattle.domain_run.specs.Later.{later_switch}
use Rattle.domain_run.specs.declared.pace.Pace.{Pace}
use Rattle.repeat_law.specs.Shift.{MayShiftFor, ShiftLaw}
use Rattle.domain_run.specs.Shift.{Shift, paced_task, shifted_task, shifted, MayGo, MayShift}
use Rattle.repeat_law.specs.Repeats.{Repeats, many_paces, many, LastsFor, RepeatsLaw, LastsLaw}
use Rattle.domain_run.specs.Shift.{paced_all, AllMayGo, given_again}
use Rattle.repeat_run.specs.Gives.{IsGiven, GivesPeriods}
use Rattle.repeat_run.proofs.Swapping.{paced_swapped, number_stays}
use Rattle.repeat_run.proofs.Going.{goes_again}

-- ---- the switches so far are not read

pub ticks_bare : (n : ℕ) (d : Domain) → ticks n d ≡ with_past d.switches (ticks n (without_switches d))
ticks_bare n d =
    let past : with_past d.switches (without_switches d) ≡ d = ap (λ (ss : List Switch). record d { switches = ss }) (append-nil d.switches) in
    sym (ap (λ (e : Domain). ticks n e) past) ∙ ticks_after n d.switches (without_switches d)

pub bare_ticks : (n : ℕ) (d : Domain) → without_switches (ticks n d) ≡ without_switches (ticks n (without_switches d))
bare_ticks n d = ap (λ (e : Domain). without_switches e) (ticks_bare n d)

pub domain_bare : (d : Domain) → IsDomain d → IsDomain (without_switches d)
domain_bare d is =
    let steady = is.steady in
    record {
      steady = record {
        early = steady.early;
        cpus = steady.cpus;
        limit = steady.limit;
        within = steady.within;
        listed = steady.listed;
        sound = steady.sound;
        homes = steady.homes;
        numbered = steady.numbered;
        known = steady.known;
        wide = steady.wide;
        apart = steady.apart;
      };
      traced = record {
        switches = All-nil (IsSwitch d.cpus d.time d.used);
        rising = λ i j x less within. absurd (omega (arith, within));
        on_cpu = is.traced.on_cpu;
      };
    }

may_bare : (s : Shift) (n : ℕ) (d : Domain) → MayShiftFor s n d → MayShiftFor s n (without_switches d)
may_bare s n d h = λ i within. subst (λ (e : Domain). MayShift s e.tasks) (ticks_bare i d) (h i within)

length_mapped : {A B : Type 0} (f : A → B) (xs : List A) → length (map f xs) ≡ length xs
length_mapped f [] = refl
length_mapped f (x ∷ xs) = ap suc (length_mapped f xs)

module _ (s : Shift) (j : ℕ) where
  may_all : (ts : List Task) → MayShift (many (suc j) s) ts → AllMayGo (map (λ t. s.pace t.number) ts) (map (shifted_task (many j s)) ts)
  may_all [] h = tt
  may_all (t ∷ ts) h =
      let P : Task → Type 0 = λ (t : Task). MayGo (many_paces (suc j) (s.pace t.number)) t in
      (goes_again s.micros j (s.pace t.number) t (All-head P t ts h), may_all ts (All-tail P t ts h))

  one_task : (t : Task) → shifted_task (many j s) (shifted_task s t) ≡ paced_task s.micros (s.pace t.number) (shifted_task (many j s) t)
  one_task t =
      let k = s.micros in
      let p = s.pace t.number in
      let n = number_stays k p t in
      (λ i. paced_task (j * k) (many_paces j (s.pace (n i))) (paced_task k p t)) ∙ paced_swapped k j p t

  all_tasks : (ts : List Task) → map (shifted_task (many j s)) (map (shifted_task s) ts) ≡ paced_all s.micros (map (λ t. s.pace t.number) ts) (map (shifted_task (many j s)) ts)
  all_tasks [] = refl
  all_tasks (t ∷ ts) = let a = one_task t in let b = all_tasks ts in λ i. a i ∷ b i

-- what is known speaks of no switch so far
module _ (shift_law : ShiftLaw) (repeats_law : RepeatsLaw) (lasts_law : LastsLaw) (s : Shift) (d : Domain) (is : IsDomain d) (once : Repeats s d) (most : ℕ) (lasts : (m : ℕ) → m ≤ most → LastsFor m s d) where
  abbrev paces : List Pace
  paces = map (λ t. s.pace t.number) d.tasks

  abbrev period : List Switch
  period = switches_to_come s.micros d

  abbrev there : ℕ → Domain
  there j = without_switches (ticks (j * s.micros) d)

  first : ticks s.micros (without_switches d) ≡ record (shifted s d) { switches = period }
  first = ap (λ (x : Domain). record x { switches = period }) (sym (bare_ticks s.micros d) ∙ once.again)

  moved : (j : ℕ) → shifted (many j s) (record (shifted s d) { switches = period }) ≡ given_again s.micros paces (j * s.micros) period (shifted (many j s) (without_switches d))
  moved j =
      let time : d.time + s.micros + j * s.micros ≡ d.time + j * s.micros + s.micros = omega arith in
      let tasks = all_tasks s j d.tasks in
      λ i. record d { time = time i; tasks = tasks i; switches = map (later_switch (j * s.micros)) period }

  again : (j : ℕ) → suc j ≤ most → ticks s.micros (shifted (many j s) (without_switches d)) ≡ given_again s.micros paces (j * s.micros) period (shifted (many j s) (without_switches d))
  again j more =
      shift_law (many j s) s.micros (without_switches d) (domain_bare d is) (may_bare (many j s) s.micros d (lasts_law s j s.micros d is once (lasts (suc j) more) (omega arith)))
      ∙ ap (λ x. shifted (many j s) x) first
      ∙ moved j

  given : (j : ℕ) → suc j ≤ most → IsGiven s.micros paces (j * s.micros) period (there j)
  given j more =
      let e : there j ≡ shifted (many j s) (without_switches d) = repeats_law s j d is once (lasts j (omega (arith, more))) in
      subst (λ x. IsGiven s.micros paces (j * s.micros) period x) (sym e) (record {
        many = length_mapped (λ t. s.pace t.number) d.tasks ∙ sym (length_mapped (shifted_task (many j s)) d.tasks);
        may = may_all s j d.tasks (lasts (suc j) more);
        again = again j more;
      })

  next : (j : ℕ) → without_switches (ticks s.micros (there j)) ≡ there (suc j)
  next j =
      let e : j * s.micros + s.micros ≡ suc j * s.micros = let one = suc-mul j s.micros in omega (arith, one) in
      sym (bare_ticks s.micros (ticks (j * s.micros) d))
      ∙ ap (λ x. without_switches x) (ticks_then (j * s.micros) s.micros d)
      ∙ ap (λ n. without_switches (ticks n d)) e

  pub gives_on : (left j : ℕ) → left + j ≤ most → GivesPeriods left s.micros paces (j * s.micros) period (there j)
  gives_on zero j within = tt
  gives_on (suc left) j within =
      let by : suc j * s.micros ≡ j * s.micros + s.micros = let one = suc-mul j s.micros in omega (arith, one) in
      let rest = gives_on left (suc j) (omega (arith, within)) in
      let moved_on = subst (λ n. GivesPeriods left s.micros paces n period (there (suc j))) by rest in
      (given j (omega (arith, within)), subst (λ x. GivesPeriods left s.micros paces (j * s.micros + s.micros) period x) (sym (next j)) moved_on)
