use Rattle.std.proofs.Common.{◌≡◌, ℕ, ◌++◌, ◌∷◌, [], List, replicate, ap, ◌∙◌, arith}
use Rattle.std.proofs.lemmas.List.{replicate_more}
use Rattle.grub_rules.proofs.accounts.zeros.Goals as goal

pub loop-preserved : goal.loop-preserved
loop-preserved c = record {
  sums = c.push_reserved.ensures.items ∙ ap (λ (xs : List ℕ). xs ++ 0 ∷ []) c.loop.invariant.sums ∙ replicate_more c.loop.counter 0;
  len = omega arith;
  room = omega arith;
}

pub returns-clause-sums : goal.returns-clause-sums
returns-clause-sums c =
    let all : c.loop.counter ≡ c.args.cpus = omega arith in
    c.loop.invariant.sums ∙ ap (λ (n : ℕ). replicate n 0) all
