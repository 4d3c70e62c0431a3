use Rattle.std.proofs.Common.{◌≡◌, ◌*◌, ◌/◌, ap, ◌∙◌, arith}
use Rattle.std.proofs.Math.Nat.{div-div-eq-div-mul}
use Rattle.cbs_rules.specs.Budget.{above_zero, budget}
use Rattle.grub_rules.proofs.rules.lag_of.Goals as goal
use Rattle.limits.specs.Limits.{unit}

pub returns : goal.returns
returns c =
    let p = c.args.params.now in
    let left = c.left_of.result in
    let period = ap (λ q. q.period) c.params.view_is in
    let runtime = ap (λ q. q.runtime) c.params.view_is in
    let area : left * c.from.result ≡ above_zero c.args.server.now.left * p.period =
    ap (λ n. n * c.from.result) c.left_of.ensures.value ∙ ap (λ n. above_zero c.args.server.now.left * n) (c.from.ensures ∙ period) in
    let by : c.from-2.result * c.params.inside.runtime ≡ budget p =
    ap (λ n. n * c.params.inside.runtime) c.from-2.ensures ∙ ap (λ n. unit * n) runtime ∙ omega arith in
    c.divided.ensures
    ∙ div-div-eq-div-mul (left * c.from.result) c.from-2.result c.params.inside.runtime
    ∙ ap (λ n. n / (c.from-2.result * c.params.inside.runtime)) area
    ∙ ap (λ n. above_zero c.args.server.now.left * p.period / n) by
