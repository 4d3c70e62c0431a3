-- Switches that rise strictly by time and CPU are few enough to be counted.
use Rattle.std.proofs.Common.{◌≡◌, ℕ, zero, suc, ◌+◌, ◌-◌, ◌*◌, ◌^◌, ◌<◌, ◌≤◌, List, [], ◌∷◌, length, get_or, refl, arith}
use Rattle.std.specs.Prelude.{All, IsTrue}
use Rattle.std.specs.List.{AllByRecursion, flat_map}
use Rattle.std.proofs.lemmas.Bool.Decides.{nat_tests}
use Rattle.std.proofs.lemmas.List.{length-map, length-append}
use Rattle.std.proofs.lemmas.List.Elements.{recursion_from_All}
use Rattle.domain_run.specs.Switch.{Switch}
use Rattle.domain_run.specs.declared.switch.PrevState.TheVariants.{Running}
use Rattle.switch_text.specs.declared.run.Run.{Run}
use Rattle.switch_text.specs.Trace.{entry_of, entries_of}
use Rattle.domain_run.specs.Switches.{is_switch_before}
use Rattle.switch_text.specs.Runs.{switches_view_of, views, IsPrintable}

-- a number that rises with time and CPU
abbrev key : Switch → ℕ
key s = 512 * s.time + s.cpu

rises : (a b : Switch) → a.cpu < 512 → IsTrue (is_switch_before a b) → key a < key b
rises a b h lt = grind (arith, nat_tests)

-- the k-th switch has at least the key k
key_from : (r : Run) → IsPrintable r → (d : Switch) (k : ℕ) → k < length r.switches.now → k ≤ key (get_or r.switches.now k d)
key_from r run d zero h = omega arith
key_from r run d (suc k) h =
    let below : k < length r.switches.now = omega arith in
    let before : k ≤ key (get_or r.switches.now k d) = key_from r run d k below in
    let cpu = (run.lines k d below).cpu in
    let small : (get_or r.switches.now k d).cpu < 512 = omega (arith, cpu) in
    let up = rises (get_or r.switches.now k d) (get_or r.switches.now (suc k) d) small (run.rising k (suc k) d (omega arith) h) in
    omega (arith, before, up)

below_key : (r : Run) → IsPrintable r → (d : Switch) (k : ℕ) → suc k ≡ length r.switches.now → length r.switches.now ≤ 2 ^ 51
below_key r run d k e =
    let in' : k < length r.switches.now = omega arith in
    let at = key_from r run d k in' in
    let line = run.lines k d in' in
    let time : (get_or r.switches.now k d).time < 2 ^ 42 = line.time in
    let cpu : r.base + (get_or r.switches.now k d).cpu < 512 = line.cpu in
    omega (arith, at, time, cpu)

few_in_list : (r : Run) → IsPrintable r → (n : ℕ) → n ≡ length r.switches.now → length r.switches.now ≤ 2 ^ 51
few_in_list r run zero e = omega arith
few_in_list r run (suc k) e = below_key r run (record { time = 0; prev = Rattle.std.proofs.Common.None; next = Rattle.std.proofs.Common.None; cpu = 0; state = Running }) k e

few_entries : (r : Run) → IsPrintable r → length (entries_of (switches_view_of r)) ≤ 2 ^ 51
few_entries r run = omega (arith, length-map r.switches.now (entry_of (switches_view_of r)), few_in_list r run (length r.switches.now) refl)

entries_in : (runs : List Run) → AllByRecursion IsPrintable runs → length (flat_map entries_of (views runs)) ≤ length runs * 2 ^ 51
entries_in [] all = omega arith
entries_in (r ∷ rs) all =
    let more = entries_in rs all.1 in
    let here = few_entries r all.0 in
    omega (arith, length-append (entries_of (switches_view_of r)) (flat_map entries_of (views rs)), more, here)

pub few : (runs : List Run) → length runs ≤ 8 → All IsPrintable runs → length (flat_map entries_of (views runs)) ≤ 2 ^ 54
few runs h all = let bound = entries_in runs (recursion_from_All IsPrintable runs all) in omega (arith, bound)
