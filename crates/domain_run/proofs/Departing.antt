-- A task that goes off the list: what its list keeps, and what its domain keeps.
use Rattle.std.proofs.Common.{◌≡◌, ℕ, ◌^◌, ◌<◌, ◌≤◌, true, false, cond, eqb, List, [], ◌∷◌, ◌++◌, length, map, zero, suc, refl, sym, ap, ◌∙◌, subst, arith, eq-eqb}
use Rattle.std.specs.Prelude.{All, ◌≢◌, filter, not}
use Rattle.std.proofs.lemmas.Bool.{eqb-true}
use Rattle.std.proofs.lemmas.List.Elements.{All-filter}
use Rattle.std.proofs.lemmas.List.Kept.{AllPairs-filter}
use Rattle.grub_rules.specs.Accounts.{AreAccounts}
use Rattle.edf_pick.specs.Order.{by_deadline}
use Rattle.edf_pick.specs.Schedule.{ScheduleView}
use Rattle.domain_run.specs.declared.task.Task.{Task}
use Rattle.domain_run.specs.declared.run_queue.RunQueue.{RunQueue}
use Rattle.domain_run.specs.Conditions.{is_ready}
use Rattle.domain_run.specs.Domain.{Domain}
use Rattle.domain_run.specs.Tick.{shares, candidates}
use Rattle.domain_run.specs.Parts.{with_last_cpu}
use Rattle.domain_run.specs.Calls.{of_number, is_other, after_departure}
use Rattle.domain_run.specs.Sound.{IsSound, IsAdmitted, IsDomain}
use Rattle.domain_run.specs.private.TaskTable.{quit}
use Rattle.domain_run.specs.private.RunQueue.{IsCounted, AreHomed, ready_of}
use Rattle.domain_run.specs.private.Timers.{due_of}
use Rattle.domain_run.proofs.Counting.{one, candidates_first}
use Rattle.domain_run.proofs.Keeping.{length-filter_least, sum-filter}
use Rattle.domain_run.proofs.Tracing.{listed_traced}

-- ---- the list

-- the task of the number is not ready
abbrev pub IsIdle : ℕ → List Task → Type 0
IsIdle number tasks = All (λ t. t.number ≡ number → is_ready t.condition ≡ false) tasks

pub candidates_others : (number : ℕ) (tasks : List Task) → IsIdle number tasks → candidates (filter (is_other number) tasks) ≡ candidates tasks
candidates_others number [] idle = refl
candidates_others number (t ∷ tasks) idle =
    let rest = filter (is_other number) tasks in
    let more = candidates_others number tasks (λ k d h. idle (suc k) d (omega arith)) in
    elim (eqb t.number number) as (λ b. eqb t.number number ≡ b → candidates (cond (not b) (t ∷ rest) rest) ≡ candidates (t ∷ tasks)) [
      | true ↦ λ e.
          let off : is_ready t.condition ≡ false = idle zero t (omega arith) (eqb-true t.number number e) in
          more ∙ sym (candidates_first t tasks ∙ rw off refl)
      | false ↦ λ e. candidates_first t rest ∙ ap (λ cs. one (ready_of t) ++ cs) more ∙ sym (candidates_first t tasks)
    ] refl

pub counted_others : (cpus : ℕ) (queue new : RunQueue) (number : ℕ) (tasks : List Task) → length new.accounts.all ≡ length queue.accounts.all → new.schedule ≡ queue.schedule → new.timers ≡ map due_of (filter (is_other number) tasks) → AreAccounts new.accounts (shares (filter (is_other number) tasks)) → IsIdle number tasks → IsCounted cpus queue tasks → IsCounted cpus new (filter (is_other number) tasks)
counted_others cpus queue new number tasks wide ready due sums idle is = record {
  wide = wide ∙ is.wide;
  counts = record { sums = sums; order = ap (λ (v : ScheduleView). v.queue) ready ∙ is.counts.order ∙ sym (ap by_deadline (candidates_others number tasks idle)); due = due };
  task_table = record {
    few = omega (arith, length-filter_least (is_other number) tasks, is.task_table.few);
    short = All-filter (is_other number) (λ (t : Task). t.params.bw ≤ 2 ^ 26) tasks is.task_table.short;
    numbered = AllPairs-filter (λ a b. a.number ≢ b.number) (is_other number) tasks is.task_table.numbered;
  };
  homed = subst (λ (v : ScheduleView). AreHomed v.places (filter (is_other number) tasks)) (sym ready) (All-filter (is_other number) (λ (t : Task). with_last_cpu queue.schedule.places t ≡ t) tasks is.homed);
}

-- what was done to the task before does not show in the others
pub others_of : (number : ℕ) (f : Task → Task) → ((t : Task) → (f t).number ≡ t.number) → (tasks : List Task) → filter (is_other number) (map (of_number number f) tasks) ≡ filter (is_other number) tasks
others_of number f same [] = refl
others_of number f same (t ∷ tasks) =
    let more = others_of number f same tasks in
    let left = filter (is_other number) (map (of_number number f) tasks) in
    let rest = filter (is_other number) tasks in
    elim (eqb t.number number) as (λ b. eqb t.number number ≡ b → cond (not (eqb (cond b (f t) t).number number)) (cond b (f t) t ∷ left) left ≡ cond (not b) (t ∷ rest) rest) [
      | true ↦ λ e. ap (λ n. cond (not (eqb n number)) (f t ∷ left) left) (same t) ∙ ap (λ b. cond (not b) (f t ∷ left) left) e ∙ more
      | false ↦ λ e. ap (λ b. cond (not b) (t ∷ left) left) e ∙ ap (λ ts. t ∷ ts) more
    ] refl

-- a task that has quit is not ready
pub quit_idle : (number : ℕ) (tasks : List Task) → IsIdle number (map (of_number number quit) tasks)
quit_idle number [] = λ k d h. absurd (omega (arith, h))
quit_idle number (t ∷ tasks) = elim [
  | zero ↦ λ d h e. elim (eqb t.number number) as (λ b. eqb t.number number ≡ b → (cond b (quit t) t).number ≡ number → is_ready (cond b (quit t) t).condition ≡ false) [
    | true ↦ λ is same. refl
    | false ↦ λ is same. let no : true ≡ false = sym (eq-eqb t.number number same) ∙ is in absurd cc
  ] refl e
  | suc k ↦ λ d h e. quit_idle number tasks k d (omega (arith, h)) e
]

-- ---- the domain

pub depart_keeps : (d : Domain) (number : ℕ) → IsDomain d → IsDomain (after_departure d number)
depart_keeps d number is =
    let s = is.steady in
    record {
      steady = record {
        early = s.early;
        cpus = s.cpus;
        limit = s.limit;
        within = omega (arith, sum-filter (is_other number) d.tasks, s.within);
        listed = omega (arith, length-filter_least (is_other number) d.tasks, s.listed);
        sound = All-filter (is_other number) (IsSound d.time) d.tasks s.sound;
        homes = All-filter (is_other number) (λ t. t.cpu < d.cpus) d.tasks s.homes;
        numbered = AllPairs-filter (λ a b. a.number ≢ b.number) (is_other number) d.tasks s.numbered;
        known = All-filter (is_other number) (λ t. IsAdmitted d.used t.number) d.tasks s.known;
        wide = s.wide;
        apart = s.apart;
      };
      traced = listed_traced d (after_departure d number) refl refl refl refl (λ n h. h) is.traced;
    }
