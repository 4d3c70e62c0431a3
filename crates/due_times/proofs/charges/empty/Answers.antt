use Rattle.std.proofs.Common.{◌≡◌, ℕ, ◌++◌, ◌∷◌, [], List, Option, replicate, ap, ◌∙◌, arith}
use Rattle.std.specs.Prelude.{None}
use Rattle.std.proofs.lemmas.List.{replicate_more}
use Rattle.due_times.specs.declared.charges.OpenCharge.{OpenCharge}
use Rattle.due_times.proofs.charges.empty.Goals as goal

pub loop-preserved : goal.loop-preserved
loop-preserved c = record {
  charges = c.push_reserved.ensures.items ∙ ap (λ (xs : List (Option OpenCharge)). xs ++ None ∷ []) c.loop.invariant.charges ∙ replicate_more c.loop.counter None;
  len = omega arith;
  room = omega arith;
}

pub returns-clause-charges : goal.returns-clause-charges
returns-clause-charges c =
    let all : c.loop.counter ≡ c.args.cpus = omega arith in
    c.loop.invariant.charges ∙ ap (λ (n : ℕ). replicate {A = Option OpenCharge} n None) all

pub returns-clause-room : goal.returns-clause-room
returns-clause-room c = omega arith
