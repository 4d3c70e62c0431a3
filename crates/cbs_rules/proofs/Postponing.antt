-- How often a server is postponed until something is left of its budget is a quotient.
use Rattle.std.proofs.Common.{◌≡◌, ℕ, zero, suc, ◌+◌, ◌*◌, ◌/◌, ◌^◌, ◌<◌, ◌≤◌, true, false, Option, Some, None, sym, ap, ◌∙◌, arith}
use Rattle.std.specs.Prelude.{ℤ, pos, negsuc, ◌+ℤ◌, ◌<ℤ◌, ◌≤ℤ◌, int_le, IsSome, IsSomeAnd, IfSome}
use Rattle.std.specs.Option.{option_map}
use Rattle.std.proofs.lemmas.Int.{ints}
use Rattle.std.proofs.Math.Nat.{mul-le-mul, mul-le-mul_right, div-mul-le_self}
use Rattle.attr_check.specs.ParamsView.{ParamsView}
use Rattle.cbs_rules.specs.declared.server.Server.{Server}
use Rattle.cbs_rules.specs.Budget.{budget, below_zero}
use Rattle.cbs_rules.specs.Serving.{is_spent, postponed, replenished_while, replenished}

missing : (z : ℤ) → z ≤ℤ pos 0 → z +ℤ pos (below_zero z) ≡ pos 0
missing (pos n) h = omega (arith, ints)
missing (negsuc n) h = omega (arith, ints)

nothing_left : (z : ℤ) → z ≤ℤ pos 0 → int_le z (pos 0) ≡ true
nothing_left z h = grind (arith, ints)

something_left : (z : ℤ) → pos 0 <ℤ z → int_le z (pos 0) ≡ false
something_left z h = grind (arith, ints)

-- the deadline after so many postponements of so much
abbrev later : ℕ → Option ℕ → Option ℕ
later by d = option_map (λ x. x + by) d

later-zero : (by : ℕ) (d e : Option ℕ) → by ≡ 0 → e ≡ later by d → e ≡ d
later-zero by None e none same = same
later-zero by (Some d) e none same = same ∙ ap (λ n. Some n) (omega arith)

later-later : (a b c : ℕ) (d e : Option ℕ) → a + b ≡ c → e ≡ later c d → e ≡ later a (later b d)
later-later a b c None e sum same = same
later-later a b c (Some d) e sum same = same ∙ ap (λ n. Some n) (omega arith)

same_server : (a b : Server) → a.deadline ≡ b.deadline → a.left ≡ b.left → a ≡ b
same_server a b d l =
    let made : Option ℕ → ℤ → Server = λ x y. record { deadline = x; left = y } in
    ap (λ x. made x a.left) d ∙ ap (made b.deadline) l

-- where something is left after so many postponements, and not before, these are made
pub postponed_until : (turns k : ℕ) (p : ParamsView) (s r : Server) → k ≤ turns → ((j : ℕ) → j < k → (s.left +ℤ pos (j * budget p)) ≤ℤ pos 0) → pos 0 <ℤ r.left → r.deadline ≡ later (k * p.period) s.deadline → r.left ≡ s.left +ℤ pos (k * budget p)
    → replenished_while (is_spent s) turns p s ≡ r
postponed_until turns zero p s r enough before after d l =
    let left : r.left ≡ s.left = omega (arith, ints, l) in
    let same : r ≡ s = same_server r s (later-zero (0 * p.period) s.deadline r.deadline (omega arith) d) left in
    ap (λ b. replenished_while b turns p s) (something_left s.left (omega (arith, ints, left, after))) ∙ sym same
postponed_until zero (suc k) p s r enough before after d l = absurd (omega (arith, enough))
postponed_until (suc turns) (suc k) p s r enough before after d l =
    let spent : s.left ≤ℤ pos 0 = omega (arith, ints, before 0 (omega arith)) in
    let next = postponed p s in
    let still : (j : ℕ) → j < k → (next.left +ℤ pos (j * budget p)) ≤ℤ pos 0 = λ j h. omega (arith, ints, before (suc j) (omega arith)) in
    let deadline : r.deadline ≡ later (k * p.period) next.deadline = later-later (k * p.period) p.period (suc k * p.period) s.deadline r.deadline (omega arith) d in
    let left : r.left ≡ next.left +ℤ pos (k * budget p) = omega (arith, ints, l) in
    ap (λ b. replenished_while b (suc turns) p s) (nothing_left s.left spent) ∙ postponed_until turns k p next r (omega arith) still after deadline left

-- one more than the whole budgets that are missing
abbrev pub steps_of : ParamsView → Server → ℕ
steps_of p s = below_zero s.left / budget p + 1

enough : (m b : ℕ) → 0 < b → m < (m / b + 1) * b
enough m b some = omega (arith, some)

too_few : (m b j : ℕ) → 0 < b → j < m / b + 1 → j * b ≤ m
too_few m b j some h = let a : j ≤ m / b = omega arith in omega (arith, mul-le-mul_right b a)

few : (m b : ℕ) → 0 < b → m / b + 1 ≤ m + 1
few m b some = omega (arith, some)

not_lifted : (z : ℤ) (m more : ℕ) → z +ℤ pos m ≡ pos 0 → more ≤ m → (z +ℤ pos more) ≤ℤ pos 0
not_lifted z m more e h = omega (arith, ints, e, h)

-- the new budget is above zero, and at most a whole one
pub lifted_left : (b k : ℕ) (left : ℤ) → 0 < b → left ≤ℤ pos 0 → k ≡ below_zero left / b + 1 → (pos 0 <ℤ (left +ℤ pos (k * b))) × ((left +ℤ pos (k * b)) ≤ℤ pos b)
lifted_left b k left some spent e =
    let m = missing left spent in
    let above : below_zero left < k * b = rw e (enough (below_zero left) b some) in
    let below : k * b ≤ below_zero left + b = rw e (omega (arith, some, div-mul-le_self (below_zero left) b)) in
    (omega (arith, ints, m, above), omega (arith, ints, m, below))

-- what the code computes is the definition's
pub is_replenished : (p : ParamsView) (s r : Server) (k : ℕ) → 0 < budget p → s.left ≤ℤ pos 0 → k ≡ steps_of p s → r.deadline ≡ later (k * p.period) s.deadline → r.left ≡ s.left +ℤ pos (k * budget p) → r ≡ replenished p s
is_replenished p s r k some spent steps d l =
    let m = below_zero s.left in
    let b = budget p in
    let within : k ≤ m + 1 = omega (arith, steps, few m b some) in
    let before : (j : ℕ) → j < k → (s.left +ℤ pos (j * b)) ≤ℤ pos 0 = λ j h. not_lifted s.left m (j * b) (missing s.left spent) (too_few m b j some (omega (arith, steps))) in
    sym (postponed_until (m + 1) k p s r within before (rw l (lifted_left b k s.left some spent steps).0) d l)

pub near_deadline : (d : Option ℕ) (k period : ℕ) → IsSome d → k ≤ 2 ^ 13 → period ≤ 2 ^ 32 → IsSomeAnd (later (k * period) d) (λ e. IfSome d (λ c. e ≤ c + 2 ^ 45))
near_deadline None k period some small short = absurd cc
near_deadline (Some d) k period some small short = omega (arith, mul-le-mul small short)
