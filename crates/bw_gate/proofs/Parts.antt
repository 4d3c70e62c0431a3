-- What steps do to the two parts of a word.
use Rattle.std.proofs.Common.{◌≡◌, ◌≤◌, ◌<◌, ℕ, ◌+◌, ◌-◌, ◌*◌, ◌^◌, arith, sym, subst}
use Rattle.std.proofs.lemmas.Nat.{mul-le}
use Rattle.bw_gate.specs.Word.{used_of, cap_of, word_of, IsCap, IsWord, IsLimit}

pub parts : (n : ℕ) → n ≡ word_of (cap_of n) (used_of n)
parts n = omega arith

pub more_used : (n bw : ℕ) → used_of n + bw < 2 ^ 32 → (used_of (n + bw) ≡ used_of n + bw) × (cap_of (n + bw) ≡ cap_of n)
more_used n bw lt = (omega (arith, lt), omega (arith, lt))

pub less_used : (n bw : ℕ) → bw ≤ used_of n → (used_of (n - bw) ≡ used_of n - bw) × (cap_of (n - bw) ≡ cap_of n)
less_used n bw le = (omega (arith, le), omega (arith, le))

pub other_used : (n was bw : ℕ) → was ≤ used_of n → used_of n - was + bw < 2 ^ 32 → (used_of (n - was + bw) ≡ used_of n - was + bw) × (cap_of (n - was + bw) ≡ cap_of n)
other_used n was bw le lt = (omega (arith, le, lt), omega (arith, le, lt))

pub of_parts : (cap used : ℕ) → used < 2 ^ 32 → (used_of (word_of cap used) ≡ used) × (cap_of (word_of cap used) ≡ cap)
of_parts cap used lt = (omega (arith, lt), omega (arith, lt))

pub cap_short : (n : ℕ) → n < 2 ^ 64 → cap_of n < 2 ^ 32
cap_short n lt = omega (arith, lt)

-- a word of the same cap, of which no more is used than this
pub same_cap : (cpus n m : ℕ) → IsWord cpus n → cap_of m ≡ cap_of n → used_of m ≤ cap_of n → IsWord cpus m
same_cap cpus n m h same le = record {
  within = omega (arith, same, le);
  cap = subst (IsCap cpus) (sym same) h.cap;
}

-- a word of a new cap
pub new_cap : (cpus limit used : ℕ) → cpus ≤ 64 → IsLimit limit → used ≤ cpus * limit → IsWord cpus (word_of (cpus * limit) used)
new_cap cpus limit used few h le =
    let most : cpus * limit ≤ 64 * 1048576 = mul-le cpus limit 64 1048576 few h.most in
    let p = of_parts (cpus * limit) used (omega (arith, le, most)) in
    record {
      within = omega (arith, p.0, p.1, le);
      cap = record { limit = limit; a_limit = h; product = p.1 };
    }

-- room in the place of what is held, and want of it, under other names of the same numbers
pub room_in : (u v c d was held bw : ℕ) → u ≡ v → c ≡ d → was ≡ held → u - was + bw ≤ c → v - held + bw ≤ d
room_in u v c d was held bw used cap same h = subst (λ n. v - n + bw ≤ d) same (subst (λ n. n - was + bw ≤ d) used (subst (λ n. u - was + bw ≤ n) cap h))

pub over_in : (u v c d was held bw : ℕ) → u ≡ v → c ≡ d → was ≡ held → c < u - was + bw → d < v - held + bw
over_in u v c d was held bw used cap same h = subst (λ n. d < v - n + bw) same (subst (λ n. d < n - was + bw) used (subst (λ n. n < u - was + bw) cap h))
