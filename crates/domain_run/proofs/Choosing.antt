-- The choice: the order of the tasks once they belong to their CPUs, and one task that starts.
use Rattle.std.proofs.Common.{◌≡◌, ◌≢◌, ℕ, ◌+◌, ◌<◌, ◌≤◌, ◌^◌, true, false, cond, Option, Some, None, List, [], ◌∷◌, length, take, get_or, set, map, refl, sym, ap, subst, ◌∙◌, arith}
use Rattle.std.specs.Prelude.{All, AllPairs, position, filter}
use Rattle.std.proofs.lemmas.List.{length-map, length-set, get_or-set_same, set-get_or}
use Rattle.std.proofs.lemmas.List.Sums.{fold_more}
use Rattle.grub_rules.specs.Accounts.{AccountsView, AreAccounts, Exchanges, Holds}
use Rattle.grub_rules.proofs.CallerLemmas.{held_at, turned_at}
use Rattle.edf_pick.specs.declared.candidate.Candidate.{Candidate}
use Rattle.edf_pick.specs.declared.moves.Moved.{Moved}
use Rattle.edf_pick.specs.Changes.{home_on, with_home}
use Rattle.edf_pick.specs.Choice.{is_before}
use Rattle.edf_pick.specs.Order.{with_candidate, by_deadline}
use Rattle.edf_pick.specs.Places.{Places, is_task}
use Rattle.domain_run.specs.declared.task.Task.{Task}
use Rattle.domain_run.specs.declared.task.Condition.{Condition}
use Rattle.domain_run.specs.declared.run_queue.RunQueue.{RunQueue}
use Rattle.domain_run.specs.Conditions.{is_ready}
use Rattle.domain_run.specs.Parts.{with_cpu, with_last_cpu}
use Rattle.domain_run.specs.Tick.{share_of, shares, candidate_of, candidates}
use Rattle.domain_run.specs.Sound.{occupant}
use Rattle.domain_run.specs.private.Choosing.{AreCounted, IsHome, task_homed_by}
use Rattle.domain_run.specs.private.Index.{IsListedAt}
use Rattle.domain_run.specs.private.TaskTable.{homed_here}
use Rattle.domain_run.specs.private.RunQueue.{IsTaskTable, IsCounted}
use Rattle.due_times.specs.OpenCharges.{OpenChargesView, without_charge}
use Rattle.domain_run.specs.private.Timers.{due_of}
use Rattle.domain_run.specs.private.Owed.{owed, owed_all, IsOpenIf, AreOpen}
use Rattle.domain_run.proofs.AtHome.{homed_placed}
use Rattle.domain_run.proofs.Counting.{task_table_set}
use Rattle.domain_run.proofs.Finding.{map_at}
use Rattle.domain_run.proofs.Homing.{map_steps}
use Rattle.domain_run.proofs.KeptRunning.{map_itself}
use Rattle.domain_run.proofs.Owed.{alike_owed, numbered_unlike, read_owed, left_twice, length_left, applied_owed, applied_waits}

-- ---- THE ORDER

before_homed : (places : Places) (a c : Candidate) → is_before (with_home places a) (with_home places c) ≡ is_before a c
before_homed places a c =
    elim (position (is_task a.number) places) as (λ o. is_before (home_on a o) (with_home places c) ≡ is_before a c) [
      | None ↦ elim (position (is_task c.number) places) as (λ o. is_before a (home_on c o) ≡ is_before a c) [ None ↦ refl | Some k ↦ refl ]
      | Some j ↦ elim (position (is_task c.number) places) as (λ o. is_before (record a { home = j }) (home_on c o) ≡ is_before a c) [ None ↦ refl | Some k ↦ refl ]
    ]

with_homed : (places : Places) (c : Candidate) (queue : List Candidate) → with_candidate (with_home places c) (map (with_home places) queue) ≡ map (with_home places) (with_candidate c queue)
with_homed places c [] = refl
with_homed places c (a ∷ queue) =
    let f = with_home places in
    let more = with_candidate (f c) (map f queue) in
    ap (λ b. cond b (f a ∷ more) (f c ∷ f a ∷ map f queue)) (before_homed places a c)
    ∙ elim (is_before a c) as (λ b. cond b (f a ∷ more) (f c ∷ f a ∷ map f queue) ≡ map f (cond b (a ∷ with_candidate c queue) (c ∷ a ∷ queue))) [
      | true ↦ ap (λ (xs : List Candidate). f a ∷ xs) (with_homed places c queue)
      | false ↦ refl
    ]

ordered_homed : (places : Places) (cs : List Candidate) → by_deadline (map (with_home places) cs) ≡ map (with_home places) (by_deadline cs)
ordered_homed places [] = refl
ordered_homed places (c ∷ cs) = ap (with_candidate (with_home places c)) (ordered_homed places cs) ∙ with_homed places c (by_deadline cs)

condition_at : (o : Option ℕ) (t : Task) → (with_cpu o t).condition ≡ t.condition
condition_at None t = refl
condition_at (Some cpu) t = refl

candidates_homed : (places : Places) (tasks : List Task) → candidates (map (with_last_cpu places) tasks) ≡ map (with_home places) (candidates tasks)
candidates_homed places [] = refl
candidates_homed places (t ∷ tasks) =
    let h = with_last_cpu places t in
    let o = position (is_task t.number) places in
    let now = filter (λ (x : Task). is_ready x.condition) (map (with_last_cpu places) tasks) in
    let was = filter (λ (x : Task). is_ready x.condition) tasks in
    let more : map candidate_of now ≡ map (with_home places) (map candidate_of was) = candidates_homed places tasks in
    let one : candidate_of h ≡ with_home places (candidate_of t) = elim o as (λ o. candidate_of (with_cpu o t) ≡ home_on (candidate_of t) o) [ None ↦ refl | Some cpu ↦ refl ] in
    ap (λ (c : Condition). map candidate_of (cond (is_ready c) (h ∷ now) now)) (condition_at o t)
    ∙ elim (is_ready t.condition) as (λ b. map candidate_of (cond b (h ∷ now) now) ≡ map (with_home places) (map candidate_of (cond b (t ∷ was) was))) [
      | true ↦ (λ i. one i ∷ more i)
      | false ↦ more
    ]

-- the order of the tasks with the CPUs on which they run
order_homed : (places : Places) (queue : List Candidate) (tasks : List Task) → queue ≡ by_deadline (candidates tasks) → map (with_home places) queue ≡ by_deadline (candidates (map (with_last_cpu places) tasks))
order_homed places queue tasks is =
    ap (map (with_home places)) is ∙ sym (ordered_homed places (candidates tasks)) ∙ sym (ap by_deadline (candidates_homed places tasks))

dues_homed : (places : Places) (tasks : List Task) → map due_of (map (with_last_cpu places) tasks) ≡ map due_of tasks
dues_homed places [] = refl
dues_homed places (t ∷ tasks) =
    let one : due_of (with_last_cpu places t) ≡ due_of t = elim (position (is_task t.number) places) as (λ o. due_of (with_cpu o t) ≡ due_of t) [ None ↦ refl | Some cpu ↦ refl ] in
    let more = dues_homed places tasks in
    λ i. one i ∷ more i

-- what a run queue counts once all belong to their CPUs
pub counted_homed : (cpus : ℕ) (old new : RunQueue) (was : OpenChargesView) (charges : OpenChargesView) (before items : List Task)
    → IsCounted cpus old (owed_all was before)
    → length new.accounts.all ≡ length old.accounts.all → AreCounted new.accounts charges items
    → new.schedule.queue ≡ map (with_home new.schedule.places) old.schedule.queue → new.timers ≡ old.timers
    → owed_all charges items ≡ map (with_last_cpu new.schedule.places) (owed_all was before)
    → IsCounted cpus new (owed_all charges items)
counted_homed cpus old new was charges before items is wide counts queue timers tasks =
    let places = new.schedule.places in
    record {
      wide = wide ∙ is.wide;
      counts = record {
        sums = counts.sums;
        order = queue ∙ order_homed places old.schedule.queue (owed_all was before) is.counts.order ∙ sym (ap (λ (ts : List Task). by_deadline (candidates ts)) tasks);
        due = timers ∙ is.counts.due ∙ sym (dues_homed places (owed_all was before)) ∙ sym (ap (λ (ts : List Task). map due_of ts) tasks);
      };
      task_table = counts.task_table;
      homed = subst (λ (ts : List Task). All (λ t. with_last_cpu places t ≡ t) ts) (sym tasks) (homed_placed places (owed_all was before));
    }

-- ---- ONE TASK THAT STARTS

module _ (accounts : AccountsView) (s : OpenChargesView) (tasks : List Task) (p : ℕ) (x : Task) (h : p < length tasks) (read : x ≡ get_or tasks p x) (counts : AreCounted accounts s tasks) where
  abbrev seen : Task
  seen = owed s.upto s.charges x

  within : p < length (owed_all s tasks)
  within = let many : length (map (owed s.upto s.charges) tasks) ≡ length tasks = simp length-map in omega (arith, h, many)

  read_seen : seen ≡ get_or (owed_all s tasks) p seen
  read_seen = read_owed s.upto s.charges tasks p x h read

  pub start_waits : IsOpenIf s.charges x
  start_waits = subst (IsOpenIf s.charges) (sym read) (counts.waits p x h)

  pub start_held : Holds accounts (share_of (owed s.upto s.charges x))
  start_held = subst (λ (t : Task). Holds accounts (share_of t)) (sym read_seen) (held_at share_of accounts (owed_all s tasks) p seen within counts.sums)

  module _ (cpu : ℕ) (new : AccountsView) (after : OpenChargesView) (y : Task) (there : cpu < length accounts.all) (is : y ≡ with_cpu (Some cpu) (owed s.upto s.charges x)) (are : after ≡ record s { charges = without_charge cpu x.number (without_charge x.cpu x.number s.charges) }) where
    same : y.number ≡ x.number
    same = ap (λ (t : Task). t.number) is ∙ (alike_owed s.upto s.charges x).number

    left_are : after ≡ record s { charges = left_twice x y s.charges }
    left_are = are ∙ ap (λ (c : ℕ). record s { charges = without_charge c x.number (without_charge x.cpu x.number s.charges) }) (sym (ap (λ (t : Task). t.cpu) is))

    numbered : AllPairs (λ a b. a.number ≢ b.number) tasks
    numbered = numbered_unlike (owed s.upto s.charges) (alike_owed s.upto s.charges) tasks counts.task_table.numbered

    view_is : owed_all after (set tasks p y) ≡ set (owed_all s tasks) p y
    view_is = ap (λ (v : OpenChargesView). owed_all v (set tasks p y)) left_are ∙ applied_owed s.upto s.charges tasks p x y h read numbered same

    pub started_counts : Exchanges accounts new (share_of (owed s.upto s.charges x) ∷ []) (share_of y ∷ []) → AreCounted new after (set tasks p y)
    started_counts exchanges = record {
      sums = subst (λ (ts : List Task). AreAccounts new (shares ts)) (sym view_is)
          (turned_at share_of accounts new (owed_all s tasks) p seen y within
          (subst (λ (t : Task). t.cpu < length accounts.all) (sym is) there)
          (subst (λ (t : Task). Exchanges accounts new (share_of t ∷ []) (share_of y ∷ [])) read_seen exchanges) counts.sums);
      task_table =
          let short : seen.params.bw ≤ 2 ^ 26 = subst (λ (t : Task). t.params.bw ≤ 2 ^ 26) (sym read_seen) (counts.task_table.short p seen within) in
          subst IsTaskTable (sym view_is) (task_table_set (owed_all s tasks) p seen y (ap (λ (t : Task). t.number) is ∙ ap (λ (t : Task). t.number) read_seen) (subst (λ (t : Task). t.params.bw ≤ 2 ^ 26) (sym is) short) counts.task_table);
      waits = subst (λ (v : OpenChargesView). AreOpen v.charges (set tasks p y)) (sym left_are) (applied_waits s.upto s.charges tasks p x y h read numbered same counts.waits);
    }

    pub started_tasks : (number : ℕ) → IsListedAt (owed_all s tasks) number p → owed_all after (set tasks p y) ≡ map (homed_here (Some number) cpu) (owed_all s tasks)
    started_tasks number at =
        view_is ∙ ap (λ (t : Task). set (owed_all s tasks) p t) (is ∙ ap (with_cpu (Some cpu)) read_seen)
        ∙ sym (map_at (with_cpu (Some cpu)) number (owed_all s tasks) p seen counts.task_table.numbered at)

    pub started_home : (number : ℕ) → number ≡ x.number → IsHome (Some number) cpu p (owed_all after (set tasks p y))
    started_home number number_is =
        let seen_there : (d : Task) → get_or (owed_all after (set tasks p y)) p d ≡ y = λ d. ap (λ (ts : List Task). get_or ts p d) view_is ∙ get_or-set_same (owed_all s tasks) p y d within in
        let many : length (owed_all after (set tasks p y)) ≡ length (owed_all s tasks) = ap (λ (ts : List Task). length ts) view_is ∙ length-set (owed_all s tasks) p y in
        record {
          within = omega (arith, many, within);
          is_on_cpu = λ d. ap (λ n. Some n) (number_is ∙ sym same ∙ sym (ap (λ (t : Task). t.number) (seen_there d)));
          home = λ d. ap (λ (t : Task). t.cpu) (seen_there d) ∙ ap (λ (t : Task). t.cpu) is;
        }

    pub started_view : owed_all after (set tasks p y) ≡ set (owed_all s tasks) p y
    started_view = view_is

    pub started_clock : after.upto ≡ s.upto
    started_clock = ap (λ (v : OpenChargesView). v.upto) are

    pub started_wide : length after.charges ≡ length s.charges
    started_wide = ap (λ (v : OpenChargesView). length v.charges) are ∙ length_left cpu x.number (without_charge x.cpu x.number s.charges) ∙ length_left x.cpu x.number s.charges

  -- where it belongs to the CPU already, nothing is to be done
  pub stays_tasks : (cpu number : ℕ) → x.cpu ≡ cpu → IsListedAt (owed_all s tasks) number p → owed_all s tasks ≡ map (homed_here (Some number) cpu) (owed_all s tasks)
  stays_tasks cpu number here at =
      let home : with_cpu (Some cpu) (get_or (owed_all s tasks) p seen) ≡ get_or (owed_all s tasks) p seen =
      ap (with_cpu (Some cpu)) (sym read_seen) ∙ ap (λ (c : ℕ). record seen { cpu = c }) (sym here ∙ sym (alike_owed s.upto s.charges x).cpu) ∙ read_seen in
      sym (map_at (with_cpu (Some cpu)) number (owed_all s tasks) p seen counts.task_table.numbered at ∙ ap (λ (t : Task). set (owed_all s tasks) p t) home ∙ set-get_or (owed_all s tasks) p seen)

-- ---- ONE CPU AFTER ANOTHER

abbrev pub nobody : Moved
nobody = record { cpu = 0; before = None }

pub homed_none : (places : Places) (tasks : List Task) → map (task_homed_by places []) tasks ≡ tasks
homed_none places tasks = map_itself (task_homed_by places []) tasks (λ k d h. refl)

pub homed_more : (places : Places) (moves : List Moved) (first now : List Task) (i : ℕ) (d : Moved) (o : Option ℕ) → i < length moves → now ≡ map (task_homed_by places (take i moves)) first → o ≡ occupant places (get_or moves i d).cpu
    → map (homed_here o (get_or moves i d).cpu) now ≡ map (task_homed_by places (take (i + 1) moves)) first
homed_more places moves first now i d o h was is =
    ap (λ (x : Option ℕ). map (homed_here x (get_or moves i d).cpu) now) is
    ∙ map_steps (homed_here (occupant places (get_or moves i d).cpu) (get_or moves i d).cpu) (task_homed_by places (take i moves)) (task_homed_by places (take (i + 1) moves)) first now was
    (λ k e l. sym (fold_more (λ (u : Task) (m : Moved). homed_here (occupant places m.cpu) m.cpu u) (get_or first k e) moves i d h))
