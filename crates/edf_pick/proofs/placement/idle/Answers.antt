use Rattle.std.proofs.Common.{◌≡◌, ◌∙◌, ℕ, None, ap, replicate, arith}
use Rattle.edf_pick.proofs.placement.idle.Goals as goal

pub returns-clause-places : goal.returns-clause-places
returns-clause-places c =
    let all : c.loop.counter ≡ c.args.cpus = omega arith in
    c.loop.invariant.places ∙ ap (λ (n : ℕ). replicate n None) all
