-- The rate of a reclaiming task: the differences of whole numbers, and how large the quotient is.
use Rattle.std.proofs.Common.{◌≡◌, ℕ, ◌+◌, ◌-◌, ◌*◌, ◌/◌, ◌^◌, ◌<◌, ◌≤◌, max, true, cond, ltb, sym, ap, ◌∙◌, arith}
use Rattle.std.specs.Prelude.{ℤ, pos, negsuc, ◌+ℤ◌, ◌-ℤ◌, unsigned_abs}
use Rattle.std.specs.Int.{int_max}
use Rattle.std.proofs.lemmas.Int.{ints}
use Rattle.std.proofs.lemmas.Bool.{cond_both, ltb-true, ltb-false}
use Rattle.std.proofs.Math.Nat.{div-le_of_le-mul, div-le_self}
use Rattle.attr_check.specs.Ratio.{cap}
use Rattle.attr_check.specs.ParamsView.{ParamsView, IsOrdered}
use Rattle.grub_rules.specs.Rate.{div_up, charged_bw, rate_charged, rate, rate_on}
use Rattle.limits.specs.Limits.{unit}

-- the larger of a natural and a whole number, by what is to be added for another natural
larger : (z : ℤ) (bw inactive used : ℕ) → z +ℤ pos inactive ≡ pos used → unsigned_abs (int_max (pos bw) z) ≡ max bw (used - inactive)
larger (pos n) bw inactive used e =
    let sum : n + inactive ≡ used = omega (arith, ints, e) in
    cond_both (ltb n bw) (pos bw) (pos n) (λ x. unsigned_abs x ≡ max bw (used - inactive))
    (λ t. let less : n < bw = ltb-true n bw t in omega arith)
    (λ t. let least : bw ≤ n = ltb-false n bw t in omega arith)
larger (negsuc n) bw inactive used e = omega (arith, ints, e)

-- Umax - Uinact - Uextra is what the tasks have of each CPU, less what is inactive
pub taken_is : (p : ParamsView) (inactive sum cpus limit : ℕ) → unsigned_abs (charged_bw p inactive sum cpus limit) ≡ max p.bw (sum / cpus - inactive)
taken_is p inactive sum cpus limit =
    let used = sum / cpus in
    larger (pos limit -ℤ pos inactive -ℤ (pos limit -ℤ pos used)) p.bw inactive used (omega (arith, ints))

pub bw_most : (p : ParamsView) → IsOrdered p → p.bw ≤ 2 ^ 20
bw_most p is =
    let first : p.runtime ≤ p.deadline = is.runtime_first in
    let then_deadline : p.deadline ≤ p.period = is.deadline_first in
    rw is.share (div-le_of_le-mul p.period (omega arith))

pub used_most : (sum cpus limit : ℕ) → sum ≤ cap cpus limit → sum / cpus ≤ limit
used_most sum cpus limit within = div-le_of_le-mul cpus within

swapped : (n : ℕ) → max n 1 ≡ max 1 n
swapped n = omega arith

-- THE RATE that the code computes, from what the task takes
abbrev pub rounded : ℕ → ℕ → ℕ
rounded t limit = max ((t * 1048576 + limit - 1) / limit) 1

pub rounded_is : (t limit : ℕ) → rate_charged t limit ≡ rounded t limit
rounded_is t limit = sym (swapped ((t * 1048576 + limit - 1) / limit))

-- by what the tasks of the domain have of each CPU it is the same
pub rate_on_is : (p : ParamsView) (inactive sum cpus limit : ℕ) → rate_on p inactive (sum / cpus) limit ≡ rate p inactive sum cpus limit
rate_on_is p inactive sum cpus limit = ap (λ n. cond p.reclaim (rate_charged n limit) unit) (sym (taken_is p inactive sum cpus limit))

pub rate_is : (p : ParamsView) (inactive sum cpus limit t result : ℕ) → p.reclaim ≡ true → t ≡ max p.bw (sum / cpus - inactive) → result ≡ rounded t limit → result ≡ rate p inactive sum cpus limit
rate_is p inactive sum cpus limit t result reclaims e is =
    let same : t ≡ unsigned_abs (charged_bw p inactive sum cpus limit) = e ∙ sym (taken_is p inactive sum cpus limit) in
    is ∙ swapped ((t * 1048576 + limit - 1) / limit)
    ∙ ap (λ n. max 1 (div_up (n * unit) limit)) same
    ∙ sym (ap (λ b. cond b (max 1 (div_up (unsigned_abs (charged_bw p inactive sum cpus limit) * unit) limit)) unit) reclaims)

rounded_most : (t limit bound : ℕ) → 0 < bound → t * 1048576 + limit - 1 ≤ limit * bound → rounded t limit ≤ bound
rounded_most t limit bound some h = let q : (t * 1048576 + limit - 1) / limit ≤ bound = div-le_of_le-mul limit h in omega (arith, q, some)

-- within its cap the domain has at most the limit on each CPU
pub slow : (p : ParamsView) (inactive sum cpus limit t result : ℕ) → IsOrdered p → 10485 ≤ limit → limit ≤ 1048576 → t ≡ max p.bw (sum / cpus - inactive) → result ≡ rounded t limit → sum ≤ cap cpus limit → result ≤ 2 ^ 27
slow p inactive sum cpus limit t result is low high e same within =
    let small : t ≤ 2 ^ 20 = omega (arith, e, bw_most p is, used_most sum cpus limit within) in
    rw same (rounded_most t limit (2 ^ 27) (omega arith) (omega arith))

pub most : (p : ParamsView) (inactive sum cpus limit t result : ℕ) → IsOrdered p → 10485 ≤ limit → limit ≤ 1048576 → t ≡ max p.bw (sum / cpus - inactive) → result ≡ rounded t limit → sum ≤ 2 ^ 26 → result ≤ 2 ^ 33
most p inactive sum cpus limit t result is low high e same short =
    let small : t ≤ 2 ^ 26 = omega (arith, e, bw_most p is, div-le_self sum cpus) in
    rw same (rounded_most t limit (2 ^ 33) (omega arith) (omega arith))
