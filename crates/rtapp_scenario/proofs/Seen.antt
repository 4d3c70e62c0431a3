-- What is before a member, counted on the way.
use Rattle.std.proofs.Common.{ℕ, ◌≡◌, ◌<◌, ◌+◌, ◌||◌, Bool, true, false, cond, List, [], ◌∷◌, ◌++◌, refl, sym, ap, ◌∙◌, Option, Some, arith, count_by, ltb}
use Rattle.std.proofs.lemmas.Bool.Decides.{nat_tests}
use Rattle.std.proofs.lemmas.List.Sums.{sum_by-cons, sum_by-append}
use Rattle.std.specs.List.{list_any}
use Rattle.rtapp_scenario.specs.Values.{Member}
use Rattle.rtapp_scenario.specs.Faults.{unsupported}
use Rattle.rtapp_scenario.specs.Keys.{is_event}
use Rattle.rtapp_scenario.specs.Tests.{is_phases, phases_fault, thread_member_fault}
use Rattle.rtapp_scenario.specs.declared.threads.Before.{Before}
use Rattle.rtapp_scenario.specs.private.Before.{IsBefore}
use Rattle.rtapp_scenario.proofs.Walks.{first_none}
use Rattle.rtapp_scenario.proofs.Limits.{phases_kind}

by_test : (b : Bool) (n : ℕ) (any : Bool) → any ≡ ltb 0 n → b || any ≡ ltb 0 (cond b 1 0 + n)
by_test true n any e = grind (arith, nat_tests)
by_test false n any e = grind (arith, nat_tests)

-- one is an event where their count is above 0
any_counted : (ms : List Member) → list_any is_event ms ≡ ltb 0 (count_by is_event ms)
any_counted [] = refl
any_counted (m ∷ ms) = rw (sum_by-cons (λ x. cond (is_event x) 1 0) m ms) (by_test (is_event m) (count_by is_event ms) (list_any is_event ms) (any_counted ms))

or_true : (b : Bool) → b || true ≡ true
or_true true = refl
or_true false = refl

any_last : (test : Member → Bool) (ms : List Member) (m : Member) → test m ≡ true → list_any test (ms ++ m ∷ []) ≡ true
any_last test [] m e = rw e refl
any_last test (x ∷ xs) m e = rw (any_last test xs m e) (or_true (test x))

-- `phases` behind an event
pub phases_refused : (ref : Option (List ℕ)) (ms : List Member) (m : Member) → is_phases m ≡ true → 0 < count_by is_event ms → thread_member_fault ref ms m ≡ Some (unsupported m.key)
unfolding thread_member_fault
phases_refused ref ms m p some =
    let any : list_any is_event ms ≡ true = any_counted ms ∙ grind (arith, nat_tests, some) in
    rw (p, any) refl

-- `phases` behind no event
pub phases_tested : (ref : Option (List ℕ)) (ms : List Member) (m : Member) → is_phases m ≡ true → count_by is_event ms ≡ 0 → thread_member_fault ref ms m ≡ phases_fault ref m
unfolding thread_member_fault
phases_tested ref ms m p none =
    let any : list_any is_event ms ≡ false = any_counted ms ∙ ap (λ n. ltb 0 n) none in
    rw (p, any) (first_none (phases_fault ref m))

-- `phases` is before from then on
pub phases_added : (ms : List Member) (m : Member) (b : Before) → is_phases m ≡ true → IsBefore ms b → IsBefore (ms ++ m ∷ []) (record { events = b.events; phases = true })
phases_added ms m b p before =
    let other : is_event m ≡ false = rw (phases_kind m.key p) refl in
    record {
      events = before.events ∙ sym (sum_by-append (λ x. cond (is_event x) 1 0) ms (m ∷ []) ∙ rw other (omega arith));
      phases = sym (any_last is_phases ms m p);
    }
