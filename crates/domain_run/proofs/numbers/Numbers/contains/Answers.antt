use Rattle.std.proofs.Common.{◌≡◌, ℕ, ◌<◌, ◌+◌, false, ◌∙◌, sym, ap, eqb, List, length, arith}
use Rattle.std.specs.List.{list_any}
use Rattle.std.proofs.lemmas.List.{get_or_default}
use Rattle.domain_run.proofs.Marks.{marked_contains}
use Rattle.domain_run.proofs.numbers.Numbers.contains.Goals as goal

pub returns : goal.returns
returns c =
    let n = c.args.number in
    let bs = c.self.inside.marks.items in
    let len : length bs ≡ 65536 = sym c.self.inside.marks.ok.0 ∙ c.self.invariant.len in
    let within : n < length bs = omega (arith, c.requires) in
    let start : n ≡ 0 + n = omega arith in
    c.index.ensures ∙ get_or_default bs n c.index.result.now false within ∙ sym (marked_contains 0 bs n n start) ∙ ap (λ (ms : List ℕ). list_any (λ m. eqb m n) ms) c.self.view_is
