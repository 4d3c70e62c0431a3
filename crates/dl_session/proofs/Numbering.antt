-- The tasks of a scenario have the numbers 1, 2, .. in their order.
use Rattle.std.proofs.Common.{◌≡◌, ℕ, zero, suc, ◌+◌, Bool, true, false, Option, Some, None, Ok, List, [], ◌∷◌, ◌++◌, length, map, refl, sym, ap, ◌∙◌, subst, arith}
use Rattle.std.specs.Prelude.{slice_get, ⊤}
use Rattle.std.specs.List.{range_with_len}
use Rattle.std.proofs.lemmas.Option.{same_Some}
use Rattle.std.proofs.lemmas.List.FromFn.{length-map-range_with_len}
use Rattle.json_order.specs.Json.{Json}
use Rattle.rtapp_scenario.specs.Values.{Member, members}
use Rattle.rtapp_scenario.specs.Threads.{instances}
use Rattle.rtapp_scenario.specs.Tests.{threads_of, fault_of}
use Rattle.rtapp_scenario.specs.Faults.{Fault}
use Rattle.rtapp_scenario.specs.Scenario.{task_at, thread_tasks, tasks_from, unless_faulty, parsed}
use Rattle.rtapp_scenario.specs.ScenarioView.{TaskSpecView, ScenarioView}
use Rattle.dl_session.specs.RunAnswer.{with_reclaim}

-- numbers from this one on
abbrev pub AreFrom : ℕ → List TaskSpecView → Type 0
AreFrom n [] = ⊤
AreFrom n (t ∷ ts) = (t.number ≡ n) × AreFrom (n + 1) ts

from_as : (m n : ℕ) (ts : List TaskSpecView) → m ≡ n → AreFrom m ts → AreFrom n ts
from_as m n ts e are = subst (λ (k : ℕ). AreFrom k ts) e are

from_both : (n : ℕ) (xs ys : List TaskSpecView) → AreFrom n xs → AreFrom (n + length xs) ys → AreFrom n (xs ++ ys)
from_both n [] ys a b = let e : n + 0 ≡ n = omega arith in from_as (n + 0) n ys e b
from_both n (x ∷ xs) ys a b = let e : n + suc (length xs) ≡ n + 1 + length xs = omega arith in (a.0, from_both (n + 1) xs ys a.1 (from_as (n + suc (length xs)) (n + 1 + length xs) ys e b))

range_from : (f : ℕ → TaskSpecView) (n s m : ℕ) → ((k : ℕ) → (f k).number ≡ n + k) → AreFrom (n + s) (map f (range_with_len s m))
range_from f n s zero is = tt
range_from f n s (suc m) is = let e : n + (s + 1) ≡ n + s + 1 = omega arith in (is s, from_as (n + (s + 1)) (n + s + 1) (map f (range_with_len (s + 1) m)) e (range_from f n (s + 1) m is))

thread_from : (number : ℕ) (thread : Member) → AreFrom number (thread_tasks number thread)
unfolding thread_tasks task_at
thread_from number thread =
    let e : number + 0 ≡ number = omega arith in
    from_as (number + 0) number (thread_tasks number thread) e (range_from (λ k. task_at thread (number + k) k) number 0 (instances (members thread.value)) (λ k. refl))

thread_count : (number : ℕ) (thread : Member) → length (thread_tasks number thread) ≡ instances (members thread.value)
unfolding thread_tasks
thread_count number thread = length-map-range_with_len (λ k. task_at thread (number + k) k) 0 (instances (members thread.value))

all_from : (number : ℕ) (threads : List Member) → AreFrom number (tasks_from number threads)
all_from number [] = tt
all_from number (thread ∷ threads) =
    let many = instances (members thread.value) in
    let count = thread_count number thread in
    let e : number + many ≡ number + length (thread_tasks number thread) = omega (arith, count) in
    from_both number (thread_tasks number thread) (tasks_from (number + many) threads) (thread_from number thread)
    (from_as (number + many) (number + length (thread_tasks number thread)) (tasks_from (number + many) threads) e (all_from (number + many) threads))

by_fault : (root : Json) (o : Option Fault) (scenario : ScenarioView) → unless_faulty root o ≡ Ok scenario → AreFrom 1 scenario.tasks
by_fault root None scenario e = let same : tasks_from 1 (threads_of root) ≡ scenario.tasks = cc in subst (AreFrom 1) same (all_from 1 (threads_of root))
by_fault root (Some fault) scenario e = absurd cc

reclaim_from : (reclaim : Bool) (n : ℕ) (ts : List TaskSpecView) → AreFrom n ts → AreFrom n (map (with_reclaim reclaim) ts)
reclaim_from reclaim n [] are = tt
reclaim_from true n (t ∷ ts) are = (are.0, reclaim_from true (n + 1) ts are.1)
reclaim_from false n (t ∷ ts) are = (are.0, reclaim_from false (n + 1) ts are.1)

pub scenario_from : (value : Json) (scenario : ScenarioView) (reclaim : Bool) → parsed value ≡ Ok scenario → AreFrom 1 (map (with_reclaim reclaim) scenario.tasks)
scenario_from value scenario reclaim e = reclaim_from reclaim 1 scenario.tasks (by_fault value (fault_of value) scenario e)

-- so a number says where its task is
pub numbered_at : (n : ℕ) (ts : List TaskSpecView) (k : ℕ) (t : TaskSpecView) → AreFrom n ts → slice_get ts k ≡ Some t → t.number ≡ n + k
numbered_at n [] k t are at = absurd cc
numbered_at n (x ∷ xs) zero t are at = let e : n ≡ n + 0 = omega arith in ap (λ (y : TaskSpecView). y.number) (sym (same_Some x t at)) ∙ are.0 ∙ e
numbered_at n (x ∷ xs) (suc k) t are at = let e : n + 1 + k ≡ n + suc k = omega arith in numbered_at (n + 1) xs k t are.1 at ∙ e
