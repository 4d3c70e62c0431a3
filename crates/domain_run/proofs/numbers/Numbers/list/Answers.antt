use Rattle.std.specs.Prelude.{AllPairs}
use Rattle.std.proofs.Common.{◌≡◌, ◌≢◌, ℕ, ◌<◌, ◌≤◌, ◌+◌, ◌++◌, [], ◌∷◌, false, cond, List, length, take, get_or, refl, sym, ap, subst, ◌∙◌, append-nil, arith}
use Rattle.std.proofs.lemmas.List.{get_or_default, take_all}
use Rattle.domain_run.specs.private.Numbers.{numbers_marked}
use Rattle.domain_run.proofs.Marks.{marked_next, marked_within, marked_apart}
use Rattle.domain_run.proofs.numbers.Numbers.list.Goals as goal
use Rattle.domain_run.proofs.numbers.Numbers.list.Goals.{then-index+in_ok-push, else-index}

pub loop-number-init : goal.loop-number-init
loop-number-init c = c.new-numbers.ensures.items

pub loop-number-preserved : goal.loop-number-preserved
loop-number-preserved c =
    let bs = c.self.inside.marks.items in
    let k = c.loop-number.number in
    let within : k < length bs = omega (arith, c.loop-number-test.true, c.len-number-end.ensures, c.self.inside.marks.ok.0) in
    let next : numbers_marked 0 (take (k + 1) bs) ≡ numbers_marked 0 (take k bs) ++ cond (get_or bs k false) (k ∷ []) [] = marked_next 0 bs k (k + 1) k (omega arith) refl within in
    let at : c.index.result.now ≡ get_or bs k false = c.index.ensures ∙ get_or_default bs k c.index.result.now false within in
    elim c.if-index.branch [
      | then-index+in_ok-push w ↦
          ap (λ v. v.items) w.numbers-is ∙ w.in_ok-push.ensures.items ∙ ap (λ (ns : List ℕ). ns ++ k ∷ []) c.loop-number.invariant
          ∙ sym (next ∙ ap (λ b. numbers_marked 0 (take k bs) ++ cond b (k ∷ []) []) (sym at ∙ w.if-index.true))
      | else-index w ↦
          ap (λ v. v.items) w.numbers-is ∙ c.loop-number.invariant
          ∙ sym (next ∙ ap (λ b. numbers_marked 0 (take k bs) ++ cond b (k ∷ []) []) (sym at ∙ w.if-index.false) ∙ append-nil (numbers_marked 0 (take k bs)))
    ]

pub returns-clause-all : goal.returns-clause-all
returns-clause-all c =
    let bs = c.self.inside.marks.items in
    let whole : length bs ≤ c.loop-number.number = omega (arith, c.loop-number-test.false, c.len-number-end.ensures, c.self.inside.marks.ok.0) in
    c.loop-number.invariant ∙ ap (numbers_marked 0) (take_all c.loop-number.number bs whole) ∙ c.self.view_is

pub returns-clause-small : goal.returns-clause-small
returns-clause-small c k d inside =
    let bs = c.self.inside.marks.items in
    let len : length bs ≡ 65536 = sym c.self.inside.marks.ok.0 ∙ c.self.invariant.len in
    let is : c.loop-number.numbers.items ≡ numbers_marked 0 bs = returns-clause-all c ∙ sym c.self.view_is in
    (subst (λ (ns : List ℕ). (k d : ℕ) → k < length ns → (0 ≤ get_or ns k d) × (get_or ns k d < 65536)) (sym is) (marked_within 0 65536 bs (omega (arith, len))) k d inside).1

pub returns-clause-apart : goal.returns-clause-apart
returns-clause-apart c =
    let bs = c.self.inside.marks.items in
    let is : c.loop-number.numbers.items ≡ numbers_marked 0 bs = returns-clause-all c ∙ sym c.self.view_is in
    subst (λ (ns : List ℕ). AllPairs (λ (a b : ℕ). a ≢ b) ns) (sym is) (marked_apart 0 bs)
