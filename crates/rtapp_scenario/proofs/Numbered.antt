-- How many tasks a scenario has, and their numbers.
use Rattle.std.proofs.Common.{ℕ, zero, suc, ◌≡◌, ◌≤◌, ◌+◌, List, [], ◌∷◌, ◌++◌, length, map, refl, ap, ◌∙◌, Option, None, not, leb, arith, append_assoc}
use Rattle.std.proofs.lemmas.Bool.{leb-true}
use Rattle.std.proofs.lemmas.List.{append-nil, length-append, length-map, map-append}
use Rattle.std.proofs.lemmas.List.Sums.{sum_by-append, sum_by-cons}
use Rattle.std.proofs.lemmas.List.FromFn.{length-range_with_len}
use Rattle.std.proofs.lemmas.Simd.{map-map}
use Rattle.std.specs.Prelude.{codes}
use Rattle.std.specs.List.{range_with_len}
use Rattle.rtapp_scenario.specs.Values.{Member, members}
use Rattle.rtapp_scenario.specs.Faults.{unsupported, too_many, unless, first_fault_in}
use Rattle.rtapp_scenario.specs.Threads.{instances, thread_ref}
use Rattle.rtapp_scenario.specs.Tests.{thread_fault, own_fault, beside_fault, is_shared, refs_in, tasks_in}
use Rattle.rtapp_scenario.specs.Scenario.{task_at, thread_tasks, tasks_from}
use Rattle.rtapp_scenario.specs.ScenarioView.{TaskSpecView}
use Rattle.rtapp_scenario.proofs.Passing.{first_split, unless_passes}

abbrev size : Member → ℕ
size thread = instances (members thread.value)

beside_few : (refs : List (Option (List ℕ))) (tasks : ℕ) (ms : List Member) → beside_fault refs tasks ms ≡ None → tasks + instances ms ≤ 256
unfolding beside_fault
beside_few refs tasks ms h =
    let shared = unless (not (is_shared refs (instances ms) (thread_ref ms))) (unsupported (codes "ref")) in
    let many = unless (leb (tasks + instances ms) 256) too_many in
    leb-true (tasks + instances ms) 256 (unless_passes (leb (tasks + instances ms) 256) too_many (first_split many [] (first_split shared (many ∷ []) h).1).0)

few_behind : (before threads : List Member) → first_fault_in thread_fault before threads ≡ None → tasks_in before ≤ 256 → tasks_in (before ++ threads) ≤ 256
few_behind before [] h few = rw append-nil few
few_behind before (t ∷ ts) h few =
    let s = first_split (thread_fault before t) (first_fault_in thread_fault (before ++ t ∷ []) ts ∷ []) h in
    let a = first_split (own_fault t) (beside_fault (refs_in before) (tasks_in before) (members t.value) ∷ []) s.0 in
    let b = beside_few (refs_in before) (tasks_in before) (members t.value) (first_split (beside_fault (refs_in before) (tasks_in before) (members t.value)) [] a.1).0 in
    let more : tasks_in (before ++ t ∷ []) ≤ 256 = rw (sum_by-append (λ thread. instances (members thread.value)) before (t ∷ [])) (omega (arith, b)) in
    let rest : tasks_in ((before ++ t ∷ []) ++ ts) ≤ 256 = few_behind (before ++ t ∷ []) ts (first_split (first_fault_in thread_fault (before ++ t ∷ []) ts) [] s.1).0 more in
    rw append_assoc at rest

-- at most 256 tasks where no thread is at fault
pub few_tasks : (threads : List Member) → first_fault_in thread_fault [] threads ≡ None → tasks_in threads ≤ 256
few_tasks threads h = few_behind [] threads h (omega arith)

pub length_tasks : (n : ℕ) (threads : List Member) → length (tasks_from n threads) ≡ tasks_in threads
unfolding thread_tasks
length_tasks n [] = refl
length_tasks n (t ∷ ts) = rw (sum_by-cons (λ thread. instances (members thread.value)) t ts, length-append, length-map, length-range_with_len, length_tasks (n + instances (members t.value)) ts) refl

shifted : (n a c : ℕ) → map (λ k. n + k) (range_with_len a c) ≡ range_with_len (n + a) c
shifted n a zero = refl
shifted n a (suc c) =
    let e : n + (a + 1) ≡ n + a + 1 = omega arith in
    ap (λ (ks : List ℕ). (n + a) ∷ ks) (shifted n (a + 1) c ∙ ap (λ m. range_with_len m c) e)

joined : (n a b m c : ℕ) → m ≡ n + a → c ≡ a + b → range_with_len n a ++ range_with_len m b ≡ range_with_len n c
joined n zero b m c e f =
    let p : m ≡ n = omega arith in
    let q : c ≡ b = omega arith in
    rw (p, q) refl
joined n (suc a) b m c e f =
    let q : c ≡ suc (a + b) = omega arith in
    rw q (ap (λ (ks : List ℕ). n ∷ ks) (joined (n + 1) a b m (a + b) (omega arith) refl))

thread_numbers : (n : ℕ) (t : Member) → map (λ (task : TaskSpecView). task.number) (thread_tasks n t) ≡ range_with_len n (size t)
unfolding thread_tasks task_at
thread_numbers n t =
    let e : n + 0 ≡ n = omega arith in
    map-map (λ (task : TaskSpecView). task.number) (λ k. task_at t (n + k) k) (range_with_len 0 (size t)) ∙ shifted n 0 (size t) ∙ ap (λ m. range_with_len m (size t)) e

-- the numbers go up by one from the first
pub numbers_rise : (n : ℕ) (threads : List Member) → map (λ (task : TaskSpecView). task.number) (tasks_from n threads) ≡ range_with_len n (tasks_in threads)
numbers_rise n [] = refl
numbers_rise n (t ∷ ts) =
    map-append (λ (task : TaskSpecView). task.number) (thread_tasks n t) (tasks_from (n + size t) ts)
    ∙ ap (λ ks. ks ++ map (λ (task : TaskSpecView). task.number) (tasks_from (n + size t) ts)) (thread_numbers n t)
    ∙ ap (λ ks. range_with_len n (size t) ++ ks) (numbers_rise (n + size t) ts)
    ∙ joined n (size t) (tasks_in ts) (n + size t) (tasks_in (t ∷ ts)) refl (sum_by-cons size t ts)

pub numbered_tasks : (threads : List Member) (tasks : List TaskSpecView) → tasks ≡ tasks_from 1 threads → map (λ (task : TaskSpecView). task.number) tasks ≡ range_with_len 1 (length tasks)
numbered_tasks threads tasks e = rw (e, length_tasks 1 threads) (numbers_rise 1 threads)

pub few_of : (threads : List Member) (tasks : List TaskSpecView) → tasks ≡ tasks_from 1 threads → first_fault_in thread_fault [] threads ≡ None → length tasks ≤ 256
few_of threads tasks e h = rw (e, length_tasks 1 threads) (few_tasks threads h)
