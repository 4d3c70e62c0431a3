use Rattle.std.proofs.Common.{◌≡◌, ◌∙◌, ℕ, ap, rules, w64, arith}
use Rattle.std.specs.Int.{bit_at, trailing_ones}
use Rattle.cpu_marks.proofs.Words.{bare_first, marked_before}
use Rattle.cpu_marks.proofs.first_bare.Goals as goal

pub returns-clause-bare : goal.returns-clause-bare
returns-clause-bare c =
    let is : c.trailing_ones.result ≡ trailing_ones w64 c.args.marks = c.trailing_ones.ensures in
    λ within. ap (λ (n : ℕ). bit_at c.args.marks n) is ∙ bare_first c.args.marks (search rules) (omega (arith, is, within))

pub returns-clause-lowest : goal.returns-clause-lowest
returns-clause-lowest c =
    let is : c.trailing_ones.result ≡ trailing_ones w64 c.args.marks = c.trailing_ones.ensures in
    λ i within. marked_before c.args.marks i (search rules) (omega (arith, is, within))
