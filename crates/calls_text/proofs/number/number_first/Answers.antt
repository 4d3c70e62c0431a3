use Rattle.std.proofs.Common.{◌≡◌, ◌≤◌, ◌-◌, ◌∙◌, ℕ, List, length, take, drop, get_or, ap, arith}
use Rattle.calls_text.proofs.Numbers.{front_above, front_after, front_spelled, front_found, front_high, starts, zero_front, zero_spelled}
use Rattle.calls_text.proofs.number.number_first.Goals as goal
use Rattle.calls_text.proofs.number.number_first.Goals.{in_default-via-then-text-lt1, in_default-via-in-48+else-least-eq0, in_default-via-else-text-lt1+in_default+then-text-lt48, in_default-via-else-text-lt1+in_default+else-text-lt48+else-text-lt58}

pub returns-in-48-clause-spelled : goal.returns-in-48-clause-spelled
returns-in-48-clause-spelled c =
    let first : get_or c.args.text.now 0 0 ≡ 48 = omega arith in
    zero_spelled c.args.least c.args.most c.args.text.now c.in-48.len_at_least first c.if-least-eq0.true

pub returns-in-48-clause-found : goal.returns-in-48-clause-found
returns-in-48-clause-found c n rest is none =
    let first : get_or c.args.text.now 0 0 ≡ 48 = omega arith in
    zero_front c.args.least c.args.most c.args.text.now n rest c.in-48.len_at_least first c.requires is

pub returns-then-first-most-clause-found : goal.returns-then-first-most-clause-found
returns-then-first-most-clause-found c n rest is none =
    let low : 49 ≤ get_or c.args.text.now 0 0 = omega arith in
    let high : get_or c.args.text.now 0 0 ≤ 57 = omega arith in
    let digit : c.from-first.result ≡ get_or c.args.text.now 0 0 - 48 = omega (arith, c.from-first.ensures) in
    let following = take (length c.args.text.now - 1) (drop 1 c.args.text.now) in
    let whole = ap (λ (p : ℕ × List ℕ). p.0) (front_after c.from-first.result c.args.text.now c.in-49-to-57.len_at_least low high digit) in
    let above = front_above c.from-first.result following in
    absurd (front_high c.args.least c.args.most c.args.text.now n rest (omega (arith, above, whole, c.if-first-most.true)) c.requires is none)

pub returns-in_err-n-in-49-to-57-clause-found : goal.returns-in_err-n-in-49-to-57-clause-found
returns-in_err-n-in-49-to-57-clause-found c n rest is none =
    let low : 49 ≤ get_or c.args.text.now 0 0 = omega arith in
    let high : get_or c.args.text.now 0 0 ≤ 57 = omega arith in
    let digit : c.from-first.result ≡ get_or c.args.text.now 0 0 - 48 = omega (arith, c.from-first.ensures) in
    let whole = ap (λ (p : ℕ × List ℕ). p.0) (front_after c.from-first.result c.args.text.now c.in-49-to-57.len_at_least low high digit) in
    absurd (front_high c.args.least c.args.most c.args.text.now n rest (omega (arith, c.in_err-n-in-49-to-57.ensures.above, whole)) c.requires is none)

pub returns-then-n-least-clause-found : goal.returns-then-n-least-clause-found
returns-then-n-least-clause-found c n rest is none =
    let low : 49 ≤ get_or c.args.text.now 0 0 = omega arith in
    let high : get_or c.args.text.now 0 0 ≤ 57 = omega arith in
    let digit : c.from-first.result ≡ get_or c.args.text.now 0 0 - 48 = omega (arith, c.from-first.ensures) in
    let front = c.in_ok-n-in-49-to-57.ensures.front ∙ front_after c.from-first.result c.args.text.now c.in-49-to-57.len_at_least low high digit in
    let found = front_found c.args.least c.args.most c.args.text.now c.in_ok-n-in-49-to-57.n c.in_ok-n-in-49-to-57.rest.now n rest front c.requires is none in
    omega (arith, found.0, is.low, c.if-n-least.true)

pub returns-else-n-least-clause-spelled : goal.returns-else-n-least-clause-spelled
returns-else-n-least-clause-spelled c =
    let low : 49 ≤ get_or c.args.text.now 0 0 = omega arith in
    let high : get_or c.args.text.now 0 0 ≤ 57 = omega arith in
    let digit : c.from-first.result ≡ get_or c.args.text.now 0 0 - 48 = omega (arith, c.from-first.ensures) in
    let front = c.in_ok-n-in-49-to-57.ensures.front ∙ front_after c.from-first.result c.args.text.now c.in-49-to-57.len_at_least low high digit in
    front_spelled c.args.least c.args.most c.args.text.now c.in_ok-n-in-49-to-57.n c.in_ok-n-in-49-to-57.rest.now c.in-49-to-57.len_at_least low high c.requires front (omega (arith, c.if-n-least.false)) c.in_ok-n-in-49-to-57.ensures.high

pub returns-else-n-least-clause-found : goal.returns-else-n-least-clause-found
returns-else-n-least-clause-found c n rest is none =
    let low : 49 ≤ get_or c.args.text.now 0 0 = omega arith in
    let high : get_or c.args.text.now 0 0 ≤ 57 = omega arith in
    let digit : c.from-first.result ≡ get_or c.args.text.now 0 0 - 48 = omega (arith, c.from-first.ensures) in
    let front = c.in_ok-n-in-49-to-57.ensures.front ∙ front_after c.from-first.result c.args.text.now c.in-49-to-57.len_at_least low high digit in
    front_found c.args.least c.args.most c.args.text.now c.in_ok-n-in-49-to-57.n c.in_ok-n-in-49-to-57.rest.now n rest front c.requires is none

pub returns-in_default-clause-found : goal.returns-in_default-clause-found
returns-in_default-clause-found c n rest is none =
    let s = starts c.args.least c.args.most c.args.text.now n rest c.requires is in
    let low = is.low in
    let zero = s.zero in
    elim c.in_default.branch [
      | in_default-via-then-text-lt1 w ↦ grind (arith, s.some)
      | in_default-via-in-48+else-least-eq0 w ↦ omega (arith, s.zero, is.low, w.if-least-eq0.false)
      | in_default-via-else-text-lt1+in_default+then-text-lt48 w ↦ omega (arith, s.low)
      | in_default-via-else-text-lt1+in_default+else-text-lt48+else-text-lt58 w ↦ omega (arith, s.high)
    ]
