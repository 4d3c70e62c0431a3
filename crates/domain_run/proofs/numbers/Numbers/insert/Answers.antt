use Rattle.std.proofs.Common.{◌≡◌, ℕ, ◌<◌, ◌+◌, false, ◌∙◌, sym, ap, eqb, List, length, get_or, arith}
use Rattle.std.specs.List.{list_any}
use Rattle.domain_run.specs.Calls.{with_number}
use Rattle.domain_run.proofs.Marks.{marked_contains, marked_set}
use Rattle.domain_run.proofs.numbers.Numbers.insert.Goals as goal

pub returns : goal.returns
returns c =
    let n = c.args.number in
    let bs = c.self.inside.marks.items in
    let len : length bs ≡ 65536 = sym c.self.inside.marks.ok.0 ∙ c.self.invariant.len in
    let within : n < length bs = omega (arith, c.requires.small) in
    let start : n ≡ 0 + n = omega arith in
    let free : get_or bs n false ≡ false = sym (marked_contains 0 bs n n start) ∙ ap (λ (ms : List ℕ). list_any (λ m. eqb m n) ms) c.self.view_is ∙ c.requires.absent in
    marked_set 0 bs n n start within free ∙ ap (with_number n) c.self.view_is
