use Rattle.std.proofs.Common.{◌≡◌, ℕ, ◌<◌, ◌∙◌, length, sym, ap, subst, arith}
use Rattle.std.specs.Prelude.{All, IfOk}
use Rattle.std.proofs.lemmas.Result.{IfOk-weaker}
use Rattle.calls_trace.proofs.Charts.{few_numbers}
use Rattle.calls_trace.proofs.drawn_chart.places_of_all.Goals as goal

pub returns-clause-inside : goal.returns-clause-inside
returns-clause-inside c =
    let same : c.len.result ≡ length c.args.state.now.used = omega (arith, c.len.ensures, c.in_ok-numbers.numbers.ok.0, ap length c.in_ok-numbers.ensures.used) in
    subst (λ (n : ℕ). IfOk c.places_up_to.result (λ v. All (λ (i : ℕ). i < n) v.items)) same c.places_up_to.ensures.inside

pub returns-clause-few : goal.returns-clause-few
returns-clause-few c =
    let numbers = c.in_ok-numbers.numbers.items in
    let few = few_numbers numbers c.in_ok-numbers.ensures.small c.in_ok-numbers.ensures.apart in
    IfOk-weaker c.places_up_to.result (λ v. length v.items ≡ c.len.result) _
    (λ v many. omega (arith, many, few, c.len.ensures, c.in_ok-numbers.numbers.ok.0)) c.places_up_to.ensures.many

pub returns-clause-all : goal.returns-clause-all
returns-clause-all c = λ rows long.
    let same : c.len.result ≡ length c.args.state.now.used = omega (arith, c.len.ensures, c.in_ok-numbers.numbers.ok.0, ap length c.in_ok-numbers.ensures.used) in
    c.places_up_to.ensures.all rows (long ∙ sym same)
