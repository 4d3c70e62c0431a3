-- What an accounting keeps after any number of periods that are counted by arithmetic.
use Rattle.std.proofs.Common.{◌≡◌, ℕ, zero, suc, ◌+◌, ◌-◌, ◌*◌, ◌≤◌, ◌<◌, ◌^◌, List, [], ◌∷◌, ◌++◌, length, get_or, drop, map, sym, ap, ◌∙◌, arith, subst, All, length-append}
use Rattle.std.specs.List.{range_with_len}
use Rattle.std.proofs.Math.Seq.{drop-append_seam}
use Rattle.std.proofs.lemmas.List.{get_or-map, get_or_append_left, length-map, length-drop}
use Rattle.std.proofs.lemmas.List.Elements.{All-head, All-tail, All-map, All-weaker, All-append}
use Rattle.std.proofs.lemmas.List.Sums.{fold-append, count_by-le-length}
use Rattle.domain_run.specs.declared.happened.Happened.{Happened}
use Rattle.domain_run.specs.Switch.{Switch}
use Rattle.domain_run.specs.Later.{later_happened, later_switch}
use Rattle.run_figures.specs.declared.logged.TaskTally.{TaskTally}
use Rattle.run_figures.specs.declared.ran.Ran.{Ran}
use Rattle.run_figures.specs.declared.ran.Cpu.{Cpu}
use Rattle.run_figures.specs.Accounting.{AccountingView, with_piece, IsNextPiece}
use Rattle.run_figures.specs.Again.{IsPeriodSince, more_of, more_logged, more_switches}
use Rattle.run_figures.specs.Throttling.{preempts, preemptions}
use Rattle.run_figures.specs.private.Keeping.{IsAccountingKept, IsOfRun}
use Rattle.run_figures.specs.private.Logging.{logged_all, logged_to_task, logged_by, nothing_logged, IsLoggedWithin}
use Rattle.run_figures.specs.private.Running.{ran_by, cpu_by}
use Rattle.run_figures.specs.private.Growing.{rows_grown, AreBoth, IsLoggedBack, IsRanBack, IsCpuBack, grown_count, grown_logged, grown_ran, grown_cpu, IsLoggedCounted, IsRanCounted, IsCpuCounted}
use Rattle.run_figures.proofs.Passing.{if_within, all_more}
use Rattle.run_figures.proofs.After.{tasks_small, tasks_few, cpus_small, cpus_few}
use Rattle.run_figures.proofs.Streaming.{of_run_still}
use Rattle.run_figures.proofs.RowsBoth.{both_of}
use Rattle.run_figures.proofs.PeriodLogged.{periods_logged}
use Rattle.run_figures.proofs.PeriodPreempted.{IsPeriodStreamed, periods_preempted, logged_early}
use Rattle.run_figures.proofs.PeriodRan.{periods_cpu, periods_ran}

-- THE PERIOD, of an accounting that streamed it
period_streamed : (k m : ℕ) (mark : AccountingView) (hs : List Happened) (ss : List Switch) (from : ℕ) → IsNextPiece mark hs ss
    → All (λ h. (from ≤ h.time) × (h.time ≤ from + k)) hs → All (λ s. (from ≤ s.time) × (s.time < from + k)) ss → IsPeriodStreamed k from mark.happened hs mark.switches ss
period_streamed k m mark hs ss from next first then = record {
  logged_from = λ i d l. (first i d l).0;
  logged_until = λ i d l. (first i d l).1;
  switched_from = λ i d l. (then i d l).0;
  switched_until = λ i d l. (then i d l).1;
  logged_before = next.logged;
  switched_before = next.later;
}

-- A TASK
pub task_again : (end k m from n : ℕ) (before logged : List Happened) (past ss : List Switch) → IsPeriodStreamed k from before logged past ss
    → IsLoggedBack k (logged_by end before past n) (logged_by end (before ++ logged) (past ++ ss) n)
    → grown_logged (m * k) m (logged_by end before past n) (logged_by end (before ++ logged) (past ++ ss) n) ≡ logged_by end ((before ++ logged) ++ more_logged k m logged) ((past ++ ss) ++ more_switches k m ss) n
task_again end k m from n before logged past ss p back =
    let none = nothing_logged n in
    let a = logged_all end before none in
    let b = logged_all end (before ++ logged) none in
    let here : IsLoggedBack k a b = record { job = back.job; since = back.since; superseded = back.superseded } in
    let split : b ≡ logged_all end logged a = fold-append (logged_to_task end) none before logged in
    let all : logged_all end ((before ++ logged) ++ more_logged k m logged) none ≡ logged_all end (more_logged k m logged) (logged_all end logged a) =
    fold-append (logged_to_task end) none (before ++ logged) (more_logged k m logged) ∙ ap (logged_all end (more_logged k m logged)) split in
    let entries = all ∙ periods_logged end k m logged a (subst (λ (t : TaskTally). IsLoggedBack k a t) split here) in
    let times = periods_preempted end n k m from before logged past ss p here in
    let logged_so : grown_logged (m * k) m (logged_by end before past n) (logged_by end (before ++ logged) (past ++ ss) n)
    ≡ record (grown_logged (m * k) m a (logged_all end logged a)) { preempted = grown_count m (preemptions before past n) (preemptions (before ++ logged) (past ++ ss) n) } =
    λ i. record (grown_logged (m * k) m a (split i)) { preempted = grown_count m (preemptions before past n) (preemptions (before ++ logged) (past ++ ss) n) } in
    logged_so ∙ (λ i. record (sym entries i) { preempted = sym times i })

-- THE COUNTS stay within numbers
all_within : (n end : ℕ) (hs : List Happened) (t : TaskTally) → All (λ h. h.time < 2 ^ 64) hs → IsLoggedWithin n t → IsLoggedWithin (n + length hs) (logged_all end hs t)
all_within n end [] t small w =
    let e : n ≡ n + 0 = omega arith in
    subst (λ k. IsLoggedWithin k t) e w
all_within n end (h ∷ hs) t small w =
    let e : n + 1 + length hs ≡ n + length (h ∷ hs) = omega arith in
    subst (λ k. IsLoggedWithin k (logged_all end hs (logged_to_task end t h))) e
    (all_within (n + 1) end hs (logged_to_task end t h) (All-tail (λ (x : Happened). x.time < 2 ^ 64) h hs small) (if_within n end h t (All-head (λ (x : Happened). x.time < 2 ^ 64) h hs small) w))

by_within : (n end number : ℕ) (before hs : List Happened) (past ss : List Switch) → All (λ h. h.time < 2 ^ 64) hs → IsLoggedWithin n (logged_by end before past number) → IsLoggedWithin (n + length hs) (logged_by end (before ++ hs) ss number)
by_within n end number before hs past ss small w =
    let none = nothing_logged number in
    let here : IsLoggedWithin n (logged_all end before none) = record { job = w.job; ended = w.ended; late = w.late; times = w.times; us = w.us; superseded = w.superseded } in
    let then : IsLoggedWithin (n + length hs) (logged_all end (before ++ hs) none) =
    subst (λ (t : TaskTally). IsLoggedWithin (n + length hs) t) (sym (fold-append (logged_to_task end) none before hs)) (all_within n end hs (logged_all end before none) small here) in
    record { job = then.job; ended = then.ended; late = then.late; times = then.times; us = then.us; superseded = then.superseded }

-- ROWS by their keys
both_back : {X : Type 0} (R : X → X → Type 0) (g h : ℕ → X) (ks : List ℕ) (xs ys : List X) → xs ≡ map g ks → ys ≡ map h ks → AreBoth R xs ys → All (λ n. R (g n) (h n)) ks
both_back {X} R g h ks xs ys a b all = λ i d l.
    let inside : i < length ys = omega (arith, l, ap (λ (zs : List X). length zs) b, length-map ks h) in
    let first : get_or xs i (g d) ≡ g (get_or ks i d) = ap (λ (zs : List X). get_or zs i (g d)) a ∙ get_or-map g ks i d (g d) l in
    let second : get_or ys i (h d) ≡ h (get_or ks i d) = ap (λ (zs : List X). get_or zs i (h d)) b ∙ get_or-map h ks i d (h d) l in
    subst (λ (x : X). R x (h (get_or ks i d))) first (subst (λ (y : X). R (get_or xs i (g d)) y) second (all i (g d) (h d) inside))

first_all : {X : Type 0} (P : X → Type 0) (xs ys : List X) → All P (xs ++ ys) → All P xs
first_all {X} P xs ys all = λ i d l.
    subst P (get_or_append_left xs ys d i l) (all i d (omega (arith, l, length-append xs ys)))

-- ALL that is kept
pub kept_again : (k m from : ℕ) (mark : AccountingView) (hs : List Happened) (ss : List Switch) (ts₀ ts : List TaskTally) (rs₀ rs : List Ran) (cs₀ cs : List Cpu)
    → IsNextPiece mark hs ss → IsNextPiece (with_piece mark hs ss) (more_logged k m hs) (more_switches k m ss)
    → All (λ h. (from ≤ h.time) × (h.time ≤ from + k)) hs → All (λ s. (from ≤ s.time) × (s.time < from + k)) ss → from + k + m * k ≤ mark.time
    → IsOfRun (with_piece mark hs ss) → IsAccountingKept mark ts₀ rs₀ cs₀ → IsAccountingKept (with_piece mark hs ss) ts rs cs
    → AreBoth (IsLoggedBack k) ts₀ ts → AreBoth IsRanBack rs₀ rs → AreBoth IsCpuBack cs₀ cs
    → IsAccountingKept (with_piece (with_piece mark hs ss) (more_logged k m hs) (more_switches k m ss)) (rows_grown (grown_logged (m * k) m) ts₀ ts) (rows_grown (grown_ran m) rs₀ rs) (rows_grown (grown_cpu m) cs₀ cs)
kept_again k m from mark hs ss ts₀ ts rs₀ rs cs₀ cs next more first then end run kept₀ kept logged_back ran_back cpus_back =
    let H₀ = mark.happened in
    let S₀ = mark.switches in
    let H = (H₀ ++ hs) ++ more_logged k m hs in
    let S = (S₀ ++ ss) ++ more_switches k m ss in
    let p = period_streamed k m mark hs ss from next first then in
    let until = p.switched_until in
    let backs = both_back (IsLoggedBack k) (logged_by mark.time H₀ S₀) (logged_by mark.time (H₀ ++ hs) (S₀ ++ ss)) mark.tasks ts₀ ts kept₀.logged kept.logged logged_back in
    let lasts = both_back IsRanBack (ran_by mark.time S₀) (ran_by mark.time (S₀ ++ ss)) mark.tasks rs₀ rs kept₀.ran kept.ran ran_back in
    let whos = both_back IsCpuBack (cpu_by mark.time S₀) (cpu_by mark.time (S₀ ++ ss)) (range_with_len 0 mark.cpus) cs₀ cs kept₀.cpus kept.cpus cpus_back in
    let logged : rows_grown (grown_logged (m * k) m) ts₀ ts ≡ map (logged_by mark.time H S) mark.tasks =
    (λ i. rows_grown (grown_logged (m * k) m) (kept₀.logged i) (kept.logged i))
    ∙ both_of (grown_logged (m * k) m) (logged_by mark.time H₀ S₀) (logged_by mark.time (H₀ ++ hs) (S₀ ++ ss)) (logged_by mark.time H S) mark.tasks
    (λ i d l. task_again mark.time k m from (get_or mark.tasks i d) H₀ hs S₀ ss p (backs i d l)) in
    let inside_all = All-append (λ (s : Switch). s.cpu < mark.cpus) (S₀ ++ ss) (more_switches k m ss) run.inside more.inside in
    let early : All (λ h. h.time < 2 ^ 64) (more_logged k m hs) =
    All-weaker (λ (h : Happened). h.time ≤ from + k + m * k) (λ (h : Happened). h.time < 2 ^ 64) (λ h l. omega (arith, l, end, run.early)) (more_logged k m hs) (logged_early from k m hs p.logged_until) in
    let withins : All (IsLoggedWithin (length (H₀ ++ hs))) (map (logged_by mark.time (H₀ ++ hs) (S₀ ++ ss)) mark.tasks) = subst (All (IsLoggedWithin (length (H₀ ++ hs)))) kept.logged kept.within in
    record {
      logged = logged;
      within = subst (All (IsLoggedWithin (length H))) (sym logged)
          (All-map (IsLoggedWithin (length H)) (logged_by mark.time H S) mark.tasks
          (λ i d l.
          let n = get_or mark.tasks i d in
          let x = logged_by mark.time (H₀ ++ hs) (S₀ ++ ss) d in
          let at : get_or (map (logged_by mark.time (H₀ ++ hs) (S₀ ++ ss)) mark.tasks) i x ≡ logged_by mark.time (H₀ ++ hs) (S₀ ++ ss) n = get_or-map (logged_by mark.time (H₀ ++ hs) (S₀ ++ ss)) mark.tasks i d x l in
          let one = subst (IsLoggedWithin (length (H₀ ++ hs))) at (withins i x (omega (arith, l, length-map mark.tasks (logged_by mark.time (H₀ ++ hs) (S₀ ++ ss))))) in
          subst (λ k. IsLoggedWithin k (logged_by mark.time H S n)) (sym (length-append (H₀ ++ hs) (more_logged k m hs)))
          (by_within (length (H₀ ++ hs)) mark.time n (H₀ ++ hs) (more_logged k m hs) (S₀ ++ ss) S early one)));
      ran = (λ i. rows_grown (grown_ran m) (kept₀.ran i) (kept.ran i))
          ∙ both_of (grown_ran m) (ran_by mark.time S₀) (ran_by mark.time (S₀ ++ ss)) (ran_by mark.time S) mark.tasks
          (λ i d l. sym (periods_ran mark.time from k m (get_or mark.tasks i d) mark.cpus S₀ ss more.rising until end (first_all (λ (s : Switch). s.cpu < mark.cpus) S₀ ss run.inside) run.inside inside_all whos (lasts i d l)));
      cpus = (λ i. rows_grown (grown_cpu m) (kept₀.cpus i) (kept.cpus i))
          ∙ both_of (grown_cpu m) (cpu_by mark.time S₀) (cpu_by mark.time (S₀ ++ ss)) (cpu_by mark.time S) (range_with_len 0 mark.cpus)
          (λ i d l. sym (periods_cpu mark.time from k m (get_or (range_with_len 0 mark.cpus) i d) S₀ ss more.rising until end (whos i d l)));
    }

-- NUMBERS hold what is kept
pub logged_counted : (v : AccountingView) (ts : List TaskTally) (rs : List Ran) (cs : List Cpu) → IsAccountingKept v ts rs cs → IsOfRun v → All IsLoggedCounted ts
logged_counted v ts rs cs kept run =
    let within = all_more (length v.happened) (2 ^ 64 - 2) ts (omega (arith, run.few_happened)) kept.within in
    let few : All (λ t. t.preempted ≤ 2 ^ 64 - 2) ts =
    subst (All (λ t. t.preempted ≤ 2 ^ 64 - 2)) (sym kept.logged) (All-map (λ (t : TaskTally). t.preempted ≤ 2 ^ 64 - 2) (logged_by v.time v.happened v.switches) v.tasks
    (λ i d l. omega (arith, count_by-le-length (preempts v.happened (get_or v.tasks i d)) v.switches, run.few_switches))) in
    λ i d l. record { within = within i d l; preempted = few i d l }

early_switches : (v : AccountingView) → IsOfRun v → All (λ s. s.time ≤ 2 ^ 42) v.switches
early_switches v run = All-weaker (λ (s : Switch). s.time ≤ v.time) (λ (s : Switch). s.time ≤ 2 ^ 42) (λ s l. omega (arith, l, run.early)) v.switches run.past

pub ran_counted : (v : AccountingView) (ts : List TaskTally) (rs : List Ran) (cs : List Cpu) → IsAccountingKept v ts rs cs → IsOfRun v → All IsRanCounted rs
ran_counted v ts rs cs kept run =
    let small = tasks_small v.time (2 ^ 42) ((2 ^ 64 - 2) * 2 ^ 64) v.switches v.tasks rs run.early (early_switches v run) (omega (arith, run.few_switches)) kept.ran in
    let few = tasks_few v.time v.switches v.tasks rs (2 ^ 64 - 2) (omega (arith, run.few_switches)) kept.ran in
    λ i d l. record { cpu_us = omega (arith, small i d l); migrated = omega (arith, few i d l) }

pub cpus_counted : (v : AccountingView) (ts : List TaskTally) (rs : List Ran) (cs : List Cpu) → IsAccountingKept v ts rs cs → IsOfRun v → All IsCpuCounted cs
cpus_counted v ts rs cs kept run =
    let small = cpus_small v.time (2 ^ 42) ((2 ^ 64 - 2) * 2 ^ 64) v.cpus v.switches cs run.early (early_switches v run) (omega (arith, run.few_switches)) kept.cpus in
    let few = cpus_few v.time v.cpus (2 ^ 64 - 2) v.switches cs (omega (arith, run.few_switches)) kept.cpus in
    λ i d l. record { busy_us = omega (arith, small i d l); switches = omega (arith, few i d l) }

-- HOW MUCH comes
pub length_more : {T : Type 0} (later : ℕ → T → T) (k m : ℕ) (xs : List T) → length (more_of later k m xs) ≡ m * length xs
length_more later k zero xs = omega arith
length_more later k (suc m) xs =
    omega (arith, length-append (more_of later k m xs) (map (later (suc m * k)) xs), length-map xs (later (suc m * k)), length_more later k m xs)

-- OF A PERIOD that was streamed since a mark
pub again_kept : (k m : ℕ) (mark v : AccountingView) (ts₀ ts : List TaskTally) (rs₀ rs : List Ran) (cs₀ cs : List Cpu) → (p : IsPeriodSince k m mark v) → IsOfRun v → IsAccountingKept mark ts₀ rs₀ cs₀ → IsAccountingKept v ts rs cs
    → AreBoth (IsLoggedBack k) ts₀ ts → AreBoth IsRanBack rs₀ rs → AreBoth IsCpuBack cs₀ cs
    → IsAccountingKept (with_piece v (more_logged k m p.logged) (more_switches k m p.switches)) (rows_grown (grown_logged (m * k) m) ts₀ ts) (rows_grown (grown_ran m) rs₀ rs) (rows_grown (grown_cpu m) cs₀ cs)
again_kept k m mark v ts₀ ts rs₀ rs cs₀ cs p run kept₀ kept logged_back ran_back cpus_back =
    let e = p.streamed in
    let hs = more_logged k m p.logged in
    let ss = more_switches k m p.switches in
    subst (λ (x : AccountingView). IsAccountingKept (with_piece x hs ss) (rows_grown (grown_logged (m * k) m) ts₀ ts) (rows_grown (grown_ran m) rs₀ rs) (rows_grown (grown_cpu m) cs₀ cs)) (sym e)
    (kept_again k m p.from mark p.logged p.switches ts₀ ts rs₀ rs cs₀ cs p.next (subst (λ (x : AccountingView). IsNextPiece x hs ss) e p.more) p.logged_within p.switched_within
    (omega (arith, p.to_the_end, ap (λ (x : AccountingView). x.time) e)) (subst IsOfRun e run) kept₀ (subst (λ (x : AccountingView). IsAccountingKept x ts rs cs) e kept) logged_back ran_back cpus_back)

pub logged_since : (mark v : AccountingView) (hs : List Happened) (ss : List Switch) → v ≡ with_piece mark hs ss → drop (length mark.happened) v.happened ≡ hs
logged_since mark v hs ss e = ap (λ (x : AccountingView). drop (length mark.happened) x.happened) e ∙ drop-append_seam mark.happened hs

pub switched_since : (mark v : AccountingView) (hs : List Happened) (ss : List Switch) → v ≡ with_piece mark hs ss → drop (length mark.switches) v.switches ≡ ss
switched_since mark v hs ss e = ap (λ (x : AccountingView). drop (length mark.switches) x.switches) e ∙ drop-append_seam mark.switches ss

-- whatever the period is named
pub again_kept_by : (k m : ℕ) (mark v : AccountingView) (ts₀ ts : List TaskTally) (rs₀ rs : List Ran) (cs₀ cs : List Cpu) (hs : List Happened) (ss : List Switch) → v ≡ with_piece mark hs ss
    → IsPeriodSince k m mark v → IsOfRun v → IsAccountingKept mark ts₀ rs₀ cs₀ → IsAccountingKept v ts rs cs
    → AreBoth (IsLoggedBack k) ts₀ ts → AreBoth IsRanBack rs₀ rs → AreBoth IsCpuBack cs₀ cs
    → IsAccountingKept (with_piece v (more_logged k m hs) (more_switches k m ss)) (rows_grown (grown_logged (m * k) m) ts₀ ts) (rows_grown (grown_ran m) rs₀ rs) (rows_grown (grown_cpu m) cs₀ cs)
again_kept_by k m mark v ts₀ ts rs₀ rs cs₀ cs hs ss e p run kept₀ kept logged_back ran_back cpus_back =
    let first = sym (logged_since mark v p.logged p.switches p.streamed) ∙ logged_since mark v hs ss e in
    let second = sym (switched_since mark v p.logged p.switches p.streamed) ∙ switched_since mark v hs ss e in
    subst (λ (x : List Happened). IsAccountingKept (with_piece v (more_logged k m x) (more_switches k m ss)) (rows_grown (grown_logged (m * k) m) ts₀ ts) (rows_grown (grown_ran m) rs₀ rs) (rows_grown (grown_cpu m) cs₀ cs)) first
    (subst (λ (y : List Switch). IsAccountingKept (with_piece v (more_logged k m p.logged) (more_switches k m y)) (rows_grown (grown_logged (m * k) m) ts₀ ts) (rows_grown (grown_ran m) rs₀ rs) (rows_grown (grown_cpu m) cs₀ cs)) second
    (again_kept k m mark v ts₀ ts rs₀ rs cs₀ cs p run kept₀ kept logged_back ran_back cpus_back))

pub again_of_run : (k m : ℕ) (mark v : AccountingView) → IsOfRun v → (p : IsPeriodSince k m mark v) → IsOfRun (with_piece v (more_logged k m p.logged) (more_switches k m p.switches))
again_of_run k m mark v run p = of_run_still v (more_logged k m p.logged) (more_switches k m p.switches) run p.more

-- by the tables at the mark and now
pub tables_again : (k m shift : ℕ) (of mark v : AccountingView) (ts₀ ts : List TaskTally) (rs₀ rs : List Ran) (cs₀ cs : List Cpu) (hs : List Happened) (ss : List Switch) → mark ≡ of → shift ≡ m * k → v ≡ with_piece mark hs ss
    → IsPeriodSince k m mark v → IsOfRun v → IsAccountingKept of ts₀ rs₀ cs₀ → IsAccountingKept v ts rs cs
    → AreBoth (IsLoggedBack k) ts₀ ts → AreBoth IsRanBack rs₀ rs → AreBoth IsCpuBack cs₀ cs
    → IsAccountingKept (with_piece v (more_logged k m hs) (more_switches k m ss)) (rows_grown (grown_logged shift m) ts₀ ts) (rows_grown (grown_ran m) rs₀ rs) (rows_grown (grown_cpu m) cs₀ cs)
tables_again k m shift of mark v ts₀ ts rs₀ rs cs₀ cs hs ss view is e p run kept₀ kept logged_back ran_back cpus_back =
    subst (λ n. IsAccountingKept (with_piece v (more_logged k m hs) (more_switches k m ss)) (rows_grown (grown_logged n m) ts₀ ts) (rows_grown (grown_ran m) rs₀ rs) (rows_grown (grown_cpu m) cs₀ cs)) (sym is)
    (again_kept_by k m mark v ts₀ ts rs₀ rs cs₀ cs hs ss e p run (subst (λ (x : AccountingView). IsAccountingKept x ts₀ rs₀ cs₀) (sym view) kept₀) kept logged_back ran_back cpus_back)

pub record AreTablesCounted (ts : List TaskTally) (rs : List Ran) (cs : List Cpu) : Type 0 where
  pub logged : All IsLoggedCounted ts
  pub ran : All IsRanCounted rs
  pub cpus : All IsCpuCounted cs

pub tables_counted : (k m shift : ℕ) (of mark v : AccountingView) (ts₀ ts : List TaskTally) (rs₀ rs : List Ran) (cs₀ cs : List Cpu) → mark ≡ of → shift ≡ m * k
    → IsPeriodSince k m mark v → IsOfRun v → IsAccountingKept of ts₀ rs₀ cs₀ → IsAccountingKept v ts rs cs
    → AreBoth (IsLoggedBack k) ts₀ ts → AreBoth IsRanBack rs₀ rs → AreBoth IsCpuBack cs₀ cs
    → AreTablesCounted (rows_grown (grown_logged shift m) ts₀ ts) (rows_grown (grown_ran m) rs₀ rs) (rows_grown (grown_cpu m) cs₀ cs)
tables_counted k m shift of mark v ts₀ ts rs₀ rs cs₀ cs view is p run kept₀ kept logged_back ran_back cpus_back =
    let then = again_of_run k m mark v run p in
    let all = tables_again k m shift of mark v ts₀ ts rs₀ rs cs₀ cs p.logged p.switches view is p.streamed p run kept₀ kept logged_back ran_back cpus_back in
    let ts' = rows_grown (grown_logged shift m) ts₀ ts in
    let rs' = rows_grown (grown_ran m) rs₀ rs in
    let cs' = rows_grown (grown_cpu m) cs₀ cs in
    let after = with_piece v (more_logged k m p.logged) (more_switches k m p.switches) in
    record {
      logged = logged_counted after ts' rs' cs' all then;
      ran = ran_counted after ts' rs' cs' all then;
      cpus = cpus_counted after ts' rs' cs' all then;
    }

-- WHAT WAS Streamed, with the periods
pub logged_room : (k m count from : ℕ) (of mark v : AccountingView) → mark ≡ of → IsPeriodSince k m mark v → count ≡ length v.happened → from ≡ length of.happened → count + m * (count - from) < 2 ^ 64
logged_room k m count from of mark v view p c f =
    let first : length v.happened ≡ length mark.happened + length p.logged = ap (λ (x : AccountingView). length x.happened) p.streamed ∙ length-append mark.happened p.logged in
    let at : from ≡ length mark.happened = f ∙ ap (λ (x : AccountingView). length x.happened) (sym view) in
    let diff : count - from ≡ length p.logged = omega (arith, c, at, first) in
    rw diff (omega (arith, c, p.more.few_happened, length_more later_happened k m p.logged))

pub switched_room : (k m count from : ℕ) (of mark v : AccountingView) → mark ≡ of → IsPeriodSince k m mark v → count ≡ length v.switches → from ≡ length of.switches → count + m * (count - from) < 2 ^ 64
switched_room k m count from of mark v view p c f =
    let first : length v.switches ≡ length mark.switches + length p.switches = ap (λ (x : AccountingView). length x.switches) p.streamed ∙ length-append mark.switches p.switches in
    let at : from ≡ length mark.switches = f ∙ ap (λ (x : AccountingView). length x.switches) (sym view) in
    let diff : count - from ≡ length p.switches = omega (arith, c, at, first) in
    rw diff (omega (arith, c, p.more.few_switches, length_more later_switch k m p.switches))

pub logged_then : (k m from : ℕ) (of mark v : AccountingView) (hs : List Happened) (ss : List Switch) → mark ≡ of → from ≡ length of.happened → v ≡ with_piece mark hs ss
    → v.happened ++ more_of later_happened k m (drop from v.happened) ≡ v.happened ++ more_logged k m hs
logged_then k m from of mark v hs ss view f e =
    let at : from ≡ length mark.happened = f ∙ ap (λ (x : AccountingView). length x.happened) (sym view) in
    ap (λ (xs : List Happened). v.happened ++ more_logged k m xs) (ap (λ n. drop n v.happened) at ∙ logged_since mark v hs ss e)

pub switched_then : (k m from : ℕ) (of mark v : AccountingView) (hs : List Happened) (ss : List Switch) → mark ≡ of → from ≡ length of.switches → v ≡ with_piece mark hs ss
    → v.switches ++ more_of later_switch k m (drop from v.switches) ≡ v.switches ++ more_switches k m ss
switched_then k m from of mark v hs ss view f e =
    let at : from ≡ length mark.switches = f ∙ ap (λ (x : AccountingView). length x.switches) (sym view) in
    ap (λ (xs : List Switch). v.switches ++ more_switches k m xs) (ap (λ n. drop n v.switches) at ∙ switched_since mark v hs ss e)

pub more_counted : {T : Type 0} (later : ℕ → T → T) (k m count from then : ℕ) (xs ys : List T) → count ≡ length xs → then ≡ count + m * (count - from) → ys ≡ xs ++ more_of later k m (drop from xs) → then ≡ length ys
more_counted {T} later k m count from then xs ys c t y =
    let a : length ys ≡ length (xs ++ more_of later k m (drop from xs)) = ap (λ (zs : List T). length zs) y in
    let b : length (more_of later k m (drop from xs)) ≡ m * (length xs - from) = length_more later k m (drop from xs) ∙ ap (λ n. m * n) (length-drop from xs) in
    t ∙ (λ i. c i + m * (c i - from)) ∙ sym (a ∙ length-append xs (more_of later k m (drop from xs)) ∙ ap (λ n. length xs + n) b)
