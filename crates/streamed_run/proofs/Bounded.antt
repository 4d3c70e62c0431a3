-- How many switches a run has at most.
use Rattle.std.proofs.Common.{◌≡◌, ℕ, ◌+◌, ◌*◌, ◌<◌, ◌≤◌, Bool, true, false, ltb, eqb, ◌&&◌, ◌||◌, List, [], ◌∷◌, length, refl, arith}
use Rattle.std.specs.Prelude.{All, AllPairs, IsTrue}
use Rattle.std.proofs.lemmas.Bool.{ltb-true, eqb-true}
use Rattle.std.proofs.lemmas.List.Elements.{All-head, All-tail, All-weaker}
use Rattle.domain_run.specs.Switch.{Switch}
use Rattle.domain_run.specs.Switches.{is_switch_before}
use Rattle.domain_run.proofs.CallerLemmas.{pairs_first, pairs_rest}

-- ---- SWITCHES: they rise strictly, so there is one at most for each time and CPU

-- of at most 64 CPUs
abbrev code : Switch → ℕ
code s = s.time * 64 + s.cpu

or_cases : (a b : Bool) → (a || b) ≡ true → (a ≡ false → b ≡ true)
or_cases true b is less = absurd cc
or_cases false b is less = is

and_first : (a b : Bool) → (a && b) ≡ true → a ≡ true
and_first true b is = refl
and_first false b is = absurd cc

and_second : (a b : Bool) → (a && b) ≡ true → b ≡ true
and_second true b is = is
and_second false b is = absurd cc

code_rises : (a b : Switch) → a.cpu < 64 → is_switch_before a b ≡ true → code a < code b
code_rises a b small is = by (ltb a.time b.time) refl
  where
    by : (c : Bool) → ltb a.time b.time ≡ c → code a < code b
    by true less = let t = ltb-true a.time b.time less in omega (arith, t, small)
    by false less =
        let both = or_cases (ltb a.time b.time) (eqb a.time b.time && ltb a.cpu b.cpu) is less in
        let same = eqb-true a.time b.time (and_first (eqb a.time b.time) (ltb a.cpu b.cpu) both) in
        let cpu = ltb-true a.cpu b.cpu (and_second (eqb a.time b.time) (ltb a.cpu b.cpu) both) in
        omega (arith, same, cpu)

rising_few : (high low : ℕ) (ss : List Switch) → low ≤ high → All (λ s. s.cpu < 64) ss → All (λ s. low ≤ code s) ss → All (λ s. code s < high) ss → AllPairs (λ a b. IsTrue (is_switch_before a b)) ss
    → low + length ss ≤ high
rising_few high low [] within small from upto rising = omega (arith, within)
rising_few high low (s ∷ ss) within small from upto rising =
    let cpu = All-head (λ (x : Switch). x.cpu < 64) s ss small in
    let first = All-head (λ (x : Switch). low ≤ code x) s ss from in
    let last = All-head (λ (x : Switch). code x < high) s ss upto in
    let following : All (λ x. code s + 1 ≤ code x) ss = All-weaker (λ (x : Switch). IsTrue (is_switch_before s x)) (λ (x : Switch). code s + 1 ≤ code x) (λ x before. omega (arith, code_rises s x cpu before)) ss (pairs_first (λ (a b : Switch). IsTrue (is_switch_before a b)) s ss rising) in
    let rest = rising_few high (code s + 1) ss (omega (arith, last)) (All-tail (λ (x : Switch). x.cpu < 64) s ss small) following (All-tail (λ (x : Switch). code x < high) s ss upto) (pairs_rest (λ (a b : Switch). IsTrue (is_switch_before a b)) s ss rising) in
    omega (arith, rest, first)

-- before a time, on at most 64 CPUs
pub few_switches : (time : ℕ) (ss : List Switch) → All (λ s. s.cpu < 64) ss → All (λ s. s.time < time) ss → AllPairs (λ a b. IsTrue (is_switch_before a b)) ss → length ss ≤ time * 64
few_switches time ss small past rising =
    let from : All (λ s. 0 ≤ code s) ss = All-weaker (λ (s : Switch). s.cpu < 64) (λ (s : Switch). 0 ≤ code s) (λ s h. omega arith) ss small in
    let upto : All (λ s. code s < time * 64) ss = λ k d h. let c = small k d h in let t = past k d h in omega (arith, c, t) in
    let all = rising_few (time * 64) 0 ss (omega arith) small from upto rising in
    omega (arith, all)
