use Rattle.std.proofs.Common.{ℕ, nat_lt, ap, ◌∙◌}
use Rattle.edf_pick.proofs.Before.{key, before_by_key}
use Rattle.edf_pick.proofs.order.is_before.Goals as goal

pub returns : goal.returns
returns c =
    let a = c.args.a.now in
    let b = c.args.b.now in
    ap (λ (k : ℕ). nat_lt k c.key-2.result) c.key.ensures.key ∙ ap (λ (k : ℕ). nat_lt (key a) k) c.key-2.ensures.key
    ∙ before_by_key a b c.key.ensures.number c.key-2.ensures.number
