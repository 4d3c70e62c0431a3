-- The tasks that run in the middle of a tick.
use Rattle.std.proofs.Common.{◌≡◌, ℕ, zero, suc, ◌*◌, ◌^◌, ◌<◌, ◌≤◌, eqb, Option, Some, None, [], ◌∷◌, length, refl, sym, ap, subst, ◌∙◌, arith, List}
use Rattle.std.specs.Prelude.{pos, ◌<ℤ◌, ◌≤ℤ◌, Any, IsTrue, find, slice_get, option_map}
use Rattle.std.proofs.Math.Nat.{mul-le-mul}
use Rattle.attr_check.specs.Ratio.{cap}
use Rattle.grub_rules.specs.Sums.{uinact}
use Rattle.grub_rules.proofs.CallerLemmas.{uinact-le-total_bw}
use Rattle.edf_pick.specs.Places.{Places}
use Rattle.domain_run.specs.declared.task.Task.{Task}
use Rattle.domain_run.specs.declared.running.Running.{Running}
use Rattle.domain_run.specs.declared.task.Condition.{Condition}
use Rattle.domain_run.specs.declared.task.Condition.TheVariants.{Ready, Throttled, Blocked, Waiting, Leaving}
use Rattle.domain_run.specs.Conditions.{is_ready, is_contending}
use Rattle.domain_run.specs.Domain.{Domain}
use Rattle.domain_run.specs.Tick.{shares}
use Rattle.domain_run.specs.Sound.{occupant, IsSound, IsSteady, IsPlacement}
use Rattle.std.proofs.lemmas.Option.{slice_get_within}
use Rattle.domain_run.specs.Jump.{running_numbers, running_of, running_if, running}
use Rattle.domain_run.proofs.Paying.{find_here}

pub running_few : (places : Places) → length (running_numbers places) ≤ length places
running_few [] = omega arith
running_few (None ∷ places) = omega (arith, running_few places)
running_few (Some n ∷ places) = omega (arith, running_few places)

pub running_occupies : (places : Places) (i n : ℕ) → slice_get (running_numbers places) i ≡ Some n → (cpu : ℕ) × (occupant places cpu ≡ Some n)
running_occupies [] i n e = absurd cc
running_occupies (None ∷ places) i n e = let there = running_occupies places i n e in (suc there.0, there.1)
running_occupies (Some m ∷ places) zero n e = (0, e)
running_occupies (Some m ∷ places) (suc i) n e = let there = running_occupies places i n e in (suc there.0, there.1)

-- the listed task of a number, which may run
pub record IsRunner (e : Domain) (n : ℕ) : Type 0 where
  pub task : Task
  pub found : find (λ t. eqb t.number n) e.tasks ≡ Some task
  pub home : task.cpu < e.cpus
  pub busy : 0 < task.work
  pub lifted : pos 0 <ℤ task.server.left
  pub high : task.server.left ≤ℤ pos (2 ^ 52)

pub contends : (c : Condition) → IsTrue (is_ready c) → IsTrue (is_contending c)
contends Ready h = refl
contends Throttled h = refl
contends (Blocked u) h = absurd cc
contends Waiting h = absurd cc
contends Leaving h = absurd cc

-- the task that runs on a CPU may run
pub runner : (e : Domain) (i n : ℕ) → IsSteady e → IsPlacement e → slice_get (running_numbers e.curr) i ≡ Some n → IsRunner e n
runner e i n steady placed at =
    let there = running_occupies e.curr i n at in
    by_task (placed.running there.0 n there.1)
  where
    by_task : {cpu : ℕ} → Any (λ t. (t.number ≡ n) × (t.cpu ≡ cpu) × IsTrue (is_ready t.condition) × (pos 0 <ℤ t.server.left)) e.tasks → IsRunner e n
    by_task (k, t, within, same, facts) =
        let is : IsSound e.time t = subst (IsSound e.time) same (steady.sound k t within) in
        record {
          task = t;
          found = subst (λ m. find (λ u. eqb u.number m) e.tasks ≡ Some t) facts.0 (subst (λ (x : Task). find (λ u. eqb u.number x.number) e.tasks ≡ Some x) same (find_here e.tasks k t steady.numbered within));
          home = subst (λ (x : Task). x.cpu < e.cpus) same (steady.homes k t within);
          busy = is.busy (contends t.condition facts.2);
          lifted = facts.3;
          high = is.served.high;
        }

-- what is inactive on a CPU is within the cap
pub inactive_short : {e : Domain} → (cpu : ℕ) → IsSteady e → uinact cpu (shares e.tasks) ≤ 2 ^ 26
inactive_short {e} cpu steady =
    let most : cap e.cpus e.limit ≤ 64 * 1048576 = mul-le-mul steady.cpus.1 steady.limit.1 in
    omega (arith, uinact-le-total_bw cpu (shares e.tasks), steady.within, most)

-- what was found is the i-th running task
pub record IsRunningAs (e : Domain) (i : ℕ) (o : Option Running) : Type 0 where
  pub runner : Running
  pub is : o ≡ Some runner
  pub same : running e i ≡ o
  pub there : i < length (running_numbers e.curr)
  pub busy : 0 < runner.work
  pub lifted : pos 0 <ℤ runner.left
  pub short : runner.uinact ≤ 2 ^ 26
  pub high : runner.left ≤ℤ pos (2 ^ 52)

-- where a domain is known as what was begun with, and its running numbers as what is kept of them
pub runner_now : {e d : Domain} {held : List ℕ} {i n : ℕ} {o : Option Running} → e ≡ d → IsSteady e → IsPlacement d
    → held ≡ running_numbers e.curr → Some n ≡ slice_get held i → o ≡ option_map (running_of e) (find (λ u. eqb u.number n) e.tasks)
    → IsRunningAs e i o
runner_now {e} {d} {held} {i} {n} {o} same steady placed kept at found =
    let here : Some n ≡ slice_get (running_numbers e.curr) i = subst (λ (ns : List ℕ). Some n ≡ slice_get ns i) kept at in
    let r = runner e i n steady (subst IsPlacement (sym same) placed) (sym here) in
    record {
      runner = running_of e r.task;
      is = found ∙ ap (option_map (running_of e)) r.found;
      same = ap (running_if e) (sym here) ∙ sym found;
      there = slice_get_within (running_numbers e.curr) i n (sym here);
      busy = r.busy;
      lifted = r.lifted;
      short = inactive_short r.task.cpu steady;
      high = r.high;
    }

pub running_short : (e : Domain) → IsSteady e → length (running_numbers e.curr) ≤ 64
running_short e steady = omega (arith, running_few e.curr, steady.wide, steady.cpus.1)

pub few_now : {e d : Domain} → e ≡ d → IsSteady e → length (running_numbers d.curr) ≤ 64
few_now {e} {d} same steady = subst (λ (x : Domain). length (running_numbers x.curr) ≤ 64) same (running_short e steady)
