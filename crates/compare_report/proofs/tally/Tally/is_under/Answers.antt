use Rattle.std.proofs.Common.{◌≡◌, ℕ, ◌+◌, ◌*◌, ◌/◌, ◌%◌, ap, sym, ◌∙◌, arith}
use Rattle.std.specs.Prelude.{nat_lt, min}
use Rattle.std.proofs.Math.Nat.{div-add-mod, mul-add}
use Rattle.std.proofs.lemmas.Bool.{lt-ltb, ltb-true, ltb_from_iff}
use Rattle.compare_report.proofs.tally.Tally.is_under.Goals as goal

-- a share of the hundreds and one of the rest, rounded up, are the share of the whole
same_test : (p runs matched : ℕ) → nat_lt matched (p * (runs / 100) + (p * (runs % 100) + 99) / 100) ≡ nat_lt (100 * matched) (p * runs)
same_test p runs matched =
    let whole : p * runs ≡ p * (100 * (runs / 100)) + p * (runs % 100) = ap (λ (n : ℕ). p * n) (sym (div-add-mod runs 100)) ∙ mul-add p (100 * (runs / 100)) (runs % 100) in
    let least = p * (runs / 100) + (p * (runs % 100) + 99) / 100 in
    ltb_from_iff (
      λ yes. let below = ltb-true matched least yes in omega (arith, whole, below),
      λ below. lt-ltb matched least (omega (arith, whole, below)),
    )

pub returns : goal.returns
returns c =
    ap (λ (p : ℕ). nat_lt c.args.self.now.matched (p * (c.args.self.now.runs / 100) + (p * (c.args.self.now.runs % 100) + 99) / 100)) (c.from-percent.ensures ∙ c.min.ensures)
    ∙ same_test (min c.args.percent 100) c.args.self.now.runs c.args.self.now.matched
