use Rattle.std.proofs.Common.{◌≡◌, ◌-◌, ◌/◌, max, ap, ◌∙◌}
use Rattle.attr_check.specs.ParamsView.{ParamsView}
use Rattle.grub_rules.specs.Rate.{rate}
use Rattle.grub_rules.proofs.Rating.{rounded_is, rate_is, slow, most}
use Rattle.grub_rules.proofs.rules.rate.Goals as goal

abbrev seen : (c : goal.After-rate_for) → ParamsView
seen c = let p = c.params.inside in record { runtime = p.runtime; deadline = p.deadline; period = p.period; reclaim = p.reclaim; bw = p.bw }

-- what the tasks take, from what they have of each CPU
taken_is : (c : goal.After-rate_for) → c.max-taken.result ≡ max (seen c).bw (c.args.sum / c.args.cpus - c.args.uinact)
taken_is c = c.max-taken.ensures ∙ ap (λ n. max (seen c).bw n) (c.saturating_sub.ensures ∙ ap (λ u. u - c.args.uinact) c.on_each-used.ensures)

pub returns-clause-value : goal.returns-clause-value
returns-clause-value c =
    let t = c.max-taken.result in
    rate_is (seen c) c.args.uinact c.args.sum c.args.cpus c.args.limit t c.rate_for.result c.if-not-params.false (taken_is c) (c.rate_for.ensures.value ∙ rounded_is c.max-taken.result c.args.limit)
    ∙ ap (λ p. rate p c.args.uinact c.args.sum c.args.cpus c.args.limit) c.params.view_is

pub returns-clause-slow : goal.returns-clause-slow
returns-clause-slow c =
    slow (seen c) c.args.uinact c.args.sum c.args.cpus c.args.limit c.max-taken.result c.rate_for.result c.params.invariant c.requires.limit.0 c.requires.limit.1 (taken_is c) (c.rate_for.ensures.value ∙ rounded_is c.max-taken.result c.args.limit)

pub returns-clause-most : goal.returns-clause-most
returns-clause-most c =
    most (seen c) c.args.uinact c.args.sum c.args.cpus c.args.limit c.max-taken.result c.rate_for.result c.params.invariant c.requires.limit.0 c.requires.limit.1 (taken_is c) (c.rate_for.ensures.value ∙ rounded_is c.max-taken.result c.args.limit) c.requires.sum
