-- What is counted of m periods.
use Rattle.std.proofs.Common.{◌≡◌, ℕ, zero, suc, ◌*◌, Bool, cond, List, map, arith}
use Rattle.std.specs.Prelude.{count_by}
use Rattle.std.proofs.Math.Nat.{suc-mul}
use Rattle.std.proofs.lemmas.List.Sums.{sum_by-append}
use Rattle.domain_run.specs.declared.happened.Happened.{Happened}
use Rattle.domain_run.specs.Switch.{Switch}
use Rattle.domain_run.specs.Later.{later_switch, later_happened}
use Rattle.repeat_law.specs.Repeats.{switches_again, happened_again}
use Rattle.repeat_law.proofs.Lists.{count_over}

pub count_again : (counts : Happened → Bool) (k m : ℕ) (logged : List Happened) → ((j : ℕ) (h : Happened) → counts (later_happened j h) ≡ counts h) → count_by counts (happened_again k m logged) ≡ m * count_by counts logged
count_again counts k zero logged same = omega arith
count_again counts k (suc m) logged same =
    let both = sum_by-append (λ h. cond (counts h) 1 0) (happened_again k m logged) (map (later_happened (m * k)) logged) in
    let before = count_again counts k m logged same in
    let last = count_over (later_happened (m * k)) counts counts (same (m * k)) logged in
    omega (arith, both, before, last, suc-mul m (count_by counts logged))

pub count_switches : (counts : Switch → Bool) (k m : ℕ) (logged : List Switch) → ((j : ℕ) (s : Switch) → counts (later_switch j s) ≡ counts s) → count_by counts (switches_again k m logged) ≡ m * count_by counts logged
count_switches counts k zero logged same = omega arith
count_switches counts k (suc m) logged same =
    let both = sum_by-append (λ s. cond (counts s) 1 0) (switches_again k m logged) (map (later_switch (m * k)) logged) in
    let before = count_switches counts k m logged same in
    let last = count_over (later_switch (m * k)) counts counts (same (m * k)) logged in
    omega (arith, both, before, last, suc-mul m (count_by counts logged))
