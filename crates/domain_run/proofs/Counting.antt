-- A run queue that counts a list of tasks, and one task of it that turns.
use Rattle.std.proofs.Common.{◌≡◌, ◌≢◌, ℕ, ◌+◌, ◌^◌, ◌<◌, ◌≤◌, Bool, true, false, cond, Option, Some, None, List, [], ◌∷◌, ◌++◌, length, take, drop, set, get_or, map, refl, sym, ap, subst, ◌∙◌, arith, inl, inr, length-append, not}
use Rattle.std.specs.Prelude.{All, AllPairs, IfSome, filter, is_none, ◌&&◌}
use Rattle.std.proofs.lemmas.Bool.{cases_eq}
use Rattle.std.proofs.lemmas.List.{append-nil, map-append, length-map, length-take, length-drop, length-set, map-set, get_or_default, get_or-set_same, get_or-set_other}
use Rattle.std.proofs.lemmas.List.Elements.{All-set, All-map, All-filter, All-push, filter-append}
use Rattle.std.proofs.lemmas.List.Quantifiers.{all_pairs_push}
use Rattle.std.proofs.lemmas.List.Sums.{sum_by-le}
use Rattle.std.proofs.lemmas.List.Kept.{AllPairs-filter}
use Rattle.grub_rules.specs.declared.share.Share.{Share}
use Rattle.std.proofs.Math.Seq.{map-set_same}
use Rattle.grub_rules.specs.Sums.{total_bw, uinact}
use Rattle.grub_rules.specs.Accounts.{AccountsView, AreAccounts, Exchanges, inactive_at}
use Rattle.grub_rules.proofs.CallerLemmas.{at, set_at, held_at, turned_at, joined_last}
use Rattle.edf_pick.specs.declared.candidate.Candidate.{Candidate}
use Rattle.edf_pick.specs.Order.{by_deadline}
use Rattle.edf_pick.specs.Schedule.{ScheduleView, IsAtHome}
use Rattle.edf_pick.proofs.CallerLemmas.{IsNumbered, numbered_map, length_ordered, ordered_insert, ordered_remove, placed_ordered}
use Rattle.domain_run.specs.declared.task.Task.{Task}
use Rattle.domain_run.specs.declared.run_queue.RunQueue.{RunQueue}
use Rattle.domain_run.specs.Conditions.{is_ready, is_contending, is_leaving}
use Rattle.domain_run.specs.Tick.{share_of, shares, candidate_of, candidates}
use Rattle.domain_run.specs.private.Timers.{due_of}
use Rattle.domain_run.specs.private.RunQueue.{ready_at, ready_of, candidate_at, share_on, status_of, QueueCounts, IsTaskTable, IsCounted, with_ready, without_ready, MayApply, IsApplied, AreHomed}
use Rattle.edf_pick.specs.Places.{Places, placed}
use Rattle.domain_run.specs.declared.task.Condition.{Condition}
use Rattle.domain_run.specs.declared.task.Condition.TheVariants.{Ready, Throttled, Blocked, Waiting, Leaving}
use Rattle.domain_run.specs.Parts.{is_listed, with_last_cpu}
use Rattle.domain_run.specs.Calls.{ended_at}
use Rattle.domain_run.proofs.Placing.{not_true}
use Rattle.domain_run.specs.Sound.{HasNoTaskTwice}
use Rattle.domain_run.proofs.OpenCharging.{IsCharging, placed_is}
use Rattle.domain_run.proofs.Keeping.{Same, same_either, length-filter_least}
use Rattle.domain_run.proofs.Homes.{still_homed, is_at_home, ordered_others}
use Rattle.attr_check.specs.ParamsView.{ParamsView}

-- a ready task, or none
abbrev pub one : Option Candidate → List Candidate
one None = []
one (Some c) = c ∷ []

candidates_append : (xs ys : List Task) → candidates (xs ++ ys) ≡ candidates xs ++ candidates ys
candidates_append xs ys = ap (map candidate_of) (filter-append (λ t. is_ready t.condition) xs ys) ∙ map-append candidate_of (filter (λ t. is_ready t.condition) xs) (filter (λ t. is_ready t.condition) ys)

pub candidates_first : (t : Task) (ys : List Task) → candidates (t ∷ ys) ≡ one (ready_of t) ++ candidates ys
candidates_first t ys =
    let rest = filter (λ t. is_ready t.condition) ys in
    elim (is_ready t.condition) as (λ b. map candidate_of (cond b (t ∷ rest) rest) ≡ one (candidate_at t.number t.cpu (cond b (Some (candidate_of t).deadline) None)) ++ map candidate_of rest) [ true ↦ refl | false ↦ refl ]

candidates_at : (front : List Task) (t : Task) (back : List Task) → candidates (front ++ t ∷ back) ≡ candidates front ++ (one (ready_of t) ++ candidates back)
candidates_at front t back = candidates_append front (t ∷ back) ∙ ap (λ cs. candidates front ++ cs) (candidates_first t back)

pub numbered_candidates : (tasks : List Task) → AllPairs (λ a b. a.number ≢ b.number) tasks → IsNumbered (candidates tasks)
numbered_candidates tasks numbered =
    let ready = filter (λ (t : Task). is_ready t.condition) tasks in
    numbered_map candidate_of (λ t. t.number) (λ t. refl) ready (AllPairs-filter (λ a b. a.number ≢ b.number) (λ t. is_ready t.condition) tasks numbered)

candidates_few : (tasks : List Task) → length (candidates tasks) ≤ length tasks
candidates_few tasks =
    let e : length (candidates tasks) ≡ length (filter (λ (t : Task). is_ready t.condition) tasks) = simp length-map in
    omega (arith, length-filter_least (λ (t : Task). is_ready t.condition) tasks)

-- ---- a task of the same number in the place of another

number_at : (tasks : List Task) (i j : ℕ) (d e y : Task) → j < length tasks → y.number ≡ (get_or tasks i d).number → (get_or (set tasks i y) j e).number ≡ (get_or tasks j e).number
number_at tasks i j d e y h same =
    elim (cases_eq j i) [
      | inl here ↦ rw here (ap (λ (t : Task). t.number) (get_or-set_same tasks i y e (omega arith)) ∙ same ∙ ap (λ (t : Task). t.number) (get_or_default tasks i d e (omega arith)))
      | inr other ↦ ap (λ (t : Task). t.number) (get_or-set_other tasks i j y e other)
    ]

pub numbered_set : (tasks : List Task) (i : ℕ) (d y : Task) → y.number ≡ (get_or tasks i d).number → AllPairs (λ a b. a.number ≢ b.number) tasks → AllPairs (λ a b. a.number ≢ b.number) (set tasks i y)
numbered_set tasks i d y same numbered j k e less within =
    let n : length (set tasks i y) ≡ length tasks = length-set tasks i y in
    λ equal. numbered j k e less (omega arith) (sym (number_at tasks i j d e y (omega arith) same) ∙ equal ∙ number_at tasks i k d e y (omega arith) same)

pub task_table_set : (tasks : List Task) (i : ℕ) (d y : Task) → y.number ≡ (get_or tasks i d).number → y.params.bw ≤ 2 ^ 26 → IsTaskTable tasks → IsTaskTable (set tasks i y)
task_table_set tasks i d y same short is = record {
  few = omega (arith, length-set tasks i y, is.few);
  short = All-set (λ (t : Task). t.params.bw ≤ 2 ^ 26) tasks i y short is.short;
  numbered = numbered_set tasks i d y same is.numbered;
}

-- ---- the queue

without_one : (o : Option Candidate) (xs ys : List Candidate) → IsNumbered (xs ++ (one o ++ ys)) → without_ready o (by_deadline (xs ++ (one o ++ ys))) ≡ by_deadline (xs ++ ys)
without_one None xs ys numbered = refl
without_one (Some c) xs ys numbered = ordered_remove c xs ys numbered

with_one : (o : Option Candidate) (xs ys : List Candidate) → IsNumbered (xs ++ (one o ++ ys)) → with_ready o (by_deadline (xs ++ ys)) ≡ by_deadline (xs ++ (one o ++ ys))
with_one None xs ys numbered = refl
with_one (Some c) xs ys numbered = sym (ordered_insert c xs ys numbered)

others_one : (o : Option Candidate) (xs ys : List Candidate) → IsNumbered (xs ++ (one o ++ ys)) → IfSome o (λ c. All (λ a. a.number ≢ c.number) (by_deadline (xs ++ ys)))
others_one None xs ys numbered = tt
others_one (Some c) xs ys numbered = ordered_others c xs ys numbered

homed_one : (places : Places) (t : Task) → with_last_cpu places t ≡ t → IfSome (ready_of t) (λ c. IsAtHome places c)
homed_one places t homed = elim (is_ready t.condition) as (λ b. IfSome (candidate_at t.number t.cpu (cond b (Some (candidate_of t).deadline) None)) (λ c. IsAtHome places c)) [ true ↦ is_at_home places t homed | false ↦ tt ]

-- a task at a place, what is before it and after it
pub record IsSplit (tasks : List Task) (t y : Task) (front back : List Task) : Type 0 where
  pub one_less : length front + length back < length tasks
  pub was : candidates tasks ≡ candidates front ++ (one (ready_of t) ++ candidates back)
  pub numbered : IsNumbered (candidates front ++ (one (ready_of t) ++ candidates back))
  pub turned : IsNumbered (candidates front ++ (one (ready_of y) ++ candidates back))

split : (tasks : List Task) (i : ℕ) (d y : Task) → i < length tasks → y.number ≡ (get_or tasks i d).number → IsTaskTable tasks → IsSplit tasks (get_or tasks i d) y (take i tasks) (drop (i + 1) tasks)
split tasks i d y h same is =
    let front = take i tasks in
    let back = drop (i + 1) tasks in
    let was = ap candidates (at tasks i d h) ∙ candidates_at front (get_or tasks i d) back in
    record {
      one_less = omega (arith, length-take i tasks, length-drop (i + 1) tasks);
      was = was;
      numbered = subst IsNumbered was (numbered_candidates tasks is.numbered);
      turned = subst IsNumbered (ap candidates (set_at tasks i y h) ∙ candidates_at front y back) (numbered_candidates (set tasks i y) (numbered_set tasks i d y same is.numbered));
    }

-- ---- ONE TASK TURNS

pub total_short : (tasks : List Task) → IsTaskTable tasks → total_bw (shares tasks) ≤ 2 ^ 34
total_short tasks is =
    let e : length (shares tasks) ≡ length tasks = simp length-map in
    omega (arith, sum_by-le (λ (s : Share). s.bw) (2 ^ 26) (shares tasks) (All-map (λ (s : Share). s.bw ≤ 2 ^ 26) share_of tasks is.short), is.few)

-- what a task may turn to: its number and its CPU stay, its bandwidth is in range, and its CPU is
-- there
pub record IsFit (cpus : ℕ) (t y : Task) : Type 0 where
  pub number : y.number ≡ t.number
  pub short : y.params.bw ≤ 2 ^ 26
  pub home : y.cpu < cpus
  pub cpu : y.cpu ≡ t.cpu

-- so it is chosen by its deadline alone
ready_same : (t y : Task) → y.number ≡ t.number → y.cpu ≡ t.cpu → ready_of y ≡ candidate_at t.number t.cpu (ready_at y)
ready_same t y number cpu = λ j. candidate_at (number j) (cpu j) (ready_at y)

pub home_at : (cpus : ℕ) (queue : RunQueue) (tasks : List Task) (i : ℕ) (d : Task) → i < length tasks → IsCounted cpus queue tasks → (get_or tasks i d).cpu < cpus
home_at cpus queue tasks i d h is = subst (λ n. (get_or tasks i d).cpu < n) is.wide (held_at share_of queue.accounts tasks i d h is.counts.sums).home

-- the same parameters and the same CPU
pub same_fit : (cpus : ℕ) (t y : Task) → Same t y → t.params.bw ≤ 2 ^ 26 → t.cpu < cpus → IsFit cpus t y
same_fit cpus t y same short home = record {
  number = same.number;
  short = subst (λ (p : ParamsView). p.bw ≤ 2 ^ 26) (sym same.params) short;
  home = subst (λ n. n < cpus) (sym same.cpu) home;
  cpu = same.cpu;
}

-- the same, after a call
pub ended_same : (time : ℕ) (t : Task) → Same t (ended_at time t)
ended_same time t = same_either (is_contending t.condition) t _ _ (record { number = refl; params = refl; cpu = refl }) (record { number = refl; params = refl; cpu = refl })

pub may_apply : (cpus : ℕ) (queue : RunQueue) (tasks : List Task) (i : ℕ) (d y : Task) → i < length tasks → IsFit cpus (get_or tasks i d) y → IsCounted cpus queue tasks → MayApply i (get_or tasks i d).number (get_or tasks i d).cpu queue (status_of (get_or tasks i d)) (status_of y)
may_apply cpus queue tasks i d y h fit is =
    let short = fit.short in
    let s = split tasks i d y h fit.number is.task_table in
    let front = take i tasks in
    let back = drop (i + 1) tasks in
    let order = is.counts.order ∙ ap by_deadline s.was in
    let rest : without_ready (ready_of (get_or tasks i d)) queue.schedule.queue ≡ by_deadline (candidates front ++ candidates back) = ap (without_ready (ready_of (get_or tasks i d))) order ∙ without_one (ready_of (get_or tasks i d)) (candidates front) (candidates back) s.numbered in
    let timers : length (map due_of tasks) ≡ length tasks = simp length-map in
    let came = ready_same (get_or tasks i d) y fit.number fit.cpu in
    record {
      within = omega (arith, h, timers, ap (λ (ds : List ℕ). length ds) is.counts.due);
      held = held_at share_of queue.accounts tasks i d h is.counts.sums;
      fits = omega (arith, is.counts.sums.total, total_short tasks is.task_table);
      room = rw rest (omega (arith, length_ordered (candidates front ++ candidates back), length-append (candidates front) (candidates back), candidates_few front, candidates_few back, s.one_less, is.task_table.few));
      numbered = rw rest (subst (λ o. IfSome o (λ c. All (λ a. a.number ≢ c.number) (by_deadline (candidates front ++ candidates back)))) came (others_one (ready_of y) (candidates front) (candidates back) s.turned));
      homed = subst (λ o. IfSome o (λ c. IsAtHome queue.schedule.places c)) came (homed_one queue.schedule.places y (still_homed queue.schedule.places (get_or tasks i d) y fit.number fit.cpu (is.homed i d h)));
    }

pub turned : (cpus : ℕ) (queue new : RunQueue) (tasks : List Task) (i : ℕ) (d y : Task) → i < length tasks → IsFit cpus (get_or tasks i d) y → IsApplied i (get_or tasks i d).number (get_or tasks i d).cpu (status_of (get_or tasks i d)) (status_of y) queue new → IsCounted cpus queue tasks → IsCounted cpus new (set tasks i y)
turned cpus queue new tasks i d y h fit has is =
    let t = get_or tasks i d in
    let s = split tasks i d y h fit.number is.task_table in
    let front = take i tasks in
    let back = drop (i + 1) tasks in
    let order = is.counts.order ∙ ap by_deadline s.was in
    let came = ready_same t y fit.number fit.cpu in
    let sums : Exchanges queue.accounts new.accounts (share_of t ∷ []) (share_of y ∷ []) = subst (λ (n : ℕ). Exchanges queue.accounts new.accounts (share_of t ∷ []) (share_on n (status_of y) ∷ [])) (sym fit.cpu) has.sums in
    let now : candidates (set tasks i y) ≡ candidates front ++ (one (ready_of y) ++ candidates back) = ap candidates (set_at tasks i y h) ∙ candidates_at front y back in
    record {
      wide = has.sums.cpus ∙ is.wide;
      counts = record {
        sums = turned_at share_of queue.accounts new.accounts tasks i d y h (subst (λ n. y.cpu < n) (sym is.wide) fit.home) sums is.counts.sums;
        order = elim has.order [
          | inl kept ↦ kept.1 ∙ order ∙ ap (λ o. by_deadline (candidates front ++ (one o ++ candidates back))) (ap (candidate_at t.number t.cpu) kept.0 ∙ sym came) ∙ sym (ap by_deadline now)
          | inr e ↦ e ∙ ap (λ o. with_ready o (without_ready (ready_of t) queue.schedule.queue)) (sym came)
              ∙ ap (λ q. with_ready (ready_of y) (without_ready (ready_of t) q)) order
              ∙ ap (with_ready (ready_of y)) (without_one (ready_of t) (candidates front) (candidates back) s.numbered)
              ∙ with_one (ready_of y) (candidates front) (candidates back) s.turned ∙ sym (ap by_deadline now)
        ];
        due = elim has.due [
          | inl kept ↦ kept.1 ∙ is.counts.due ∙ sym (map-set_same due_of tasks i y d (sym kept.0))
          | inr e ↦ e ∙ ap (λ (ds : List ℕ). set ds i (due_of y)) is.counts.due ∙ sym (map-set due_of tasks i y)
        ];
      };
      task_table = task_table_set tasks i d y fit.number fit.short is.task_table;
      homed = subst (λ (ps : Places). AreHomed ps (set tasks i y)) (sym has.places)
          (All-set (λ (u : Task). with_last_cpu queue.schedule.places u ≡ u) tasks i y (still_homed queue.schedule.places (get_or tasks i d) y fit.number fit.cpu (is.homed i d h)) is.homed);
    }

-- ---- lists

pub task_table_push : (tasks : List Task) (t : Task) → length tasks < 256 → t.params.bw ≤ 2 ^ 26 → All (λ u. u.number ≢ t.number) tasks → IsTaskTable tasks → IsTaskTable (tasks ++ t ∷ [])
task_table_push tasks t few short absent is = record {
  few = omega (arith, few, length-append tasks (t ∷ []));
  short = All-push (λ (u : Task). u.params.bw ≤ 2 ^ 26) tasks t is.short short;
  numbered = all_pairs_push (λ a b. a.number ≢ b.number) tasks t is.numbered absent;
}

-- a task that has left is not ready
ready_listed : (c : Condition) (z : Bool) → is_ready c ≡ true → not (is_leaving c && z) ≡ true
ready_listed Ready z e = refl
ready_listed Throttled z e = absurd cc
ready_listed (Blocked u) z e = absurd cc
ready_listed Waiting z e = absurd cc
ready_listed Leaving z e = absurd cc

pub candidates_listed : (tasks : List Task) → candidates (filter is_listed tasks) ≡ candidates tasks
candidates_listed [] = refl
candidates_listed (t ∷ tasks) =
    let rest = filter is_listed tasks in
    let ready = filter (λ (x : Task). is_ready x.condition) in
    elim (is_listed t) as (λ b. is_listed t ≡ b → candidates (cond b (t ∷ rest) rest) ≡ candidates (t ∷ tasks)) [
      | true ↦ λ e. candidates_first t rest ∙ ap (λ cs. one (ready_of t) ++ cs) (candidates_listed tasks) ∙ sym (candidates_first t tasks)
      | false ↦ λ e.
          let idle : is_ready t.condition ≡ false = not_true (is_ready t.condition) (is_listed t) (ready_listed t.condition (is_none t.zero_lag)) e in
          candidates_listed tasks ∙ sym (candidates_first t tasks ∙ rw idle refl)
    ] refl

-- tasks that have left go off the list, and their bandwidth goes back
pub counted_listed : (cpus : ℕ) (queue new : RunQueue) (tasks : List Task) → length new.accounts.all ≡ length queue.accounts.all → new.schedule ≡ queue.schedule → new.timers ≡ map due_of (filter is_listed tasks) → AreAccounts new.accounts (shares (filter is_listed tasks)) → IsCounted cpus queue tasks → IsCounted cpus new (filter is_listed tasks)
counted_listed cpus queue new tasks wide ready due sums is = record {
  wide = wide ∙ is.wide;
  counts = record { sums = sums; order = ap (λ (v : ScheduleView). v.queue) ready ∙ is.counts.order ∙ sym (ap by_deadline (candidates_listed tasks)); due = due };
  task_table = record {
    few = omega (arith, length-filter_least is_listed tasks, is.task_table.few);
    short = All-filter is_listed (λ (t : Task). t.params.bw ≤ 2 ^ 26) tasks is.task_table.short;
    numbered = AllPairs-filter (λ a b. a.number ≢ b.number) is_listed tasks is.task_table.numbered;
  };
  homed = subst (λ (v : ScheduleView). AreHomed v.places (filter is_listed tasks)) (sym ready) (All-filter is_listed (λ (t : Task). with_last_cpu queue.schedule.places t ≡ t) tasks is.homed);
}

-- the placement over the queue is that of the list
pub placed_counted : (n : ℕ) (ready : List Candidate) (tasks : List Task) (before : Places) → ready ≡ by_deadline (candidates tasks) → AllPairs (λ a b. a.number ≢ b.number) tasks → placed n ready before ≡ placed n (candidates tasks) before
placed_counted n ready tasks before is numbered = ap (λ q. placed n q before) is ∙ placed_ordered n (candidates tasks) before (numbered_candidates tasks numbered)

pub placed_charging : (ready : List Candidate) (tasks : List Task) (before new : Places) → ready ≡ by_deadline (candidates tasks) → AllPairs (λ a b. a.number ≢ b.number) tasks → HasNoTaskTwice before → new ≡ placed (length before) ready before → IsCharging (candidates tasks) (length before) new
placed_charging ready tasks before new is numbered apart e =
    subst (IsCharging (candidates tasks) (length before)) (sym (e ∙ placed_counted (length before) ready tasks before is numbered)) (placed_is (length before) (candidates tasks) before refl apart)

-- what the sums say of their list
pub inactive_is : (a : AccountsView) (xs : List Share) (cpu : ℕ) → AreAccounts a xs → inactive_at cpu a ≡ uinact cpu xs
inactive_is a xs cpu is = omega (arith, is.all cpu, is.active cpu)

-- a task at the end of the list that is not ready
pub counts_push : (queue new : RunQueue) (tasks : List Task) (t : Task) → is_ready t.condition ≡ false → new.schedule ≡ queue.schedule → new.timers ≡ queue.timers ++ due_of t ∷ [] → t.cpu < length queue.accounts.all → Exchanges queue.accounts new.accounts [] (share_of t ∷ []) → QueueCounts queue tasks → QueueCounts new (tasks ++ t ∷ [])
counts_push queue new tasks t idle same due home joins is =
    let none : candidates (t ∷ []) ≡ [] = candidates_first t [] ∙ rw idle refl in
    record {
      sums = joined_last share_of queue.accounts new.accounts tasks t home joins is.sums;
      order = ap (λ (v : ScheduleView). v.queue) same ∙ is.order ∙ sym (ap by_deadline (candidates_append tasks (t ∷ []) ∙ ap (λ cs. candidates tasks ++ cs) none ∙ append-nil (candidates tasks)));
      due = due ∙ ap (λ (ds : List ℕ). ds ++ due_of t ∷ []) is.due ∙ sym (map-append due_of tasks (t ∷ []));
    }
