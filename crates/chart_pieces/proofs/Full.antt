-- Over the whole run the bars of a task sum to its CPU time.
use Rattle.std.proofs.Common.{◌≡◌, ℕ, ◌+◌, ◌-◌, ◌≤◌, ◌<◌, true, false, true≢false, cond, eqb, ◌&&◌, ⊎_elim, List, [], ◌∷◌, ◌++◌, Option, Some, None, refl, sym, ap, ◌∙◌, arith, All, lt-ltb}
use Rattle.std.specs.Prelude.{filter, sum_by}
use Rattle.std.proofs.lemmas.Bool.{cases_lt}
use Rattle.std.proofs.lemmas.List.Elements.{All-head, All-tail}
use Rattle.std.proofs.lemmas.List.Sums.{sum_by-cons}
use Rattle.domain_run.specs.Switch.{Switch}
use Rattle.edf_pick.specs.Places.{is_task}
use Rattle.run_figures.specs.Stays.{Stay, until, stays_by, stays, cpu_us}
use Rattle.chart_pieces.specs.declared.row.Bar.{Bar}
use Rattle.chart_pieces.specs.declared.window.Window.{Window}
use Rattle.chart_pieces.specs.Window.{touches, IsWhole}
use Rattle.chart_pieces.specs.Bars.{bar_by, bars_of, bars_in, us}

until_early : (time cpu : ℕ) (ss : List Switch) → All (λ s. s.time ≤ time) ss → until time cpu ss ≤ time
until_early time cpu [] all = omega arith
until_early time cpu (s ∷ ss) all =
    elim (eqb s.cpu cpu) as (λ b. cond b s.time (until time cpu ss) ≤ time) [
      | true ↦ All-head (λ (x : Switch). x.time ≤ time) s ss all
      | false ↦ until_early time cpu ss (All-tail (λ (x : Switch). x.time ≤ time) s ss all)
    ]

-- what has no part in the window has no length
unseen : (w : Window) (time a b : ℕ) → IsWhole w time → b ≤ time → touches w a b ≡ false → b - a ≡ 0
unseen w time a b whole early out = ⊎_elim
    (λ (l : a < b).
    let in_time : a < w.to = omega (arith, l, early, whole.last) in
    let begun : w.from < b = omega (arith, l, whole.first) in
    let seen : touches w a b ≡ true = λ i. lt-ltb a b l i && (lt-ltb a w.to in_time i && lt-ltb w.from b begun i) in
    absurd (true≢false (sym seen ∙ out)))
    (λ (le : b ≤ a). omega (arith, le))
    (cases_lt a b)

abbrev sum_us : List Bar → ℕ
sum_us bs = sum_by us bs

one_bar : (w : Window) (time : ℕ) (b : Bar) (later : List Bar) → IsWhole w time → b.stop ≤ time → sum_us (cond (touches w b.start b.stop) (b ∷ later) later) ≡ us b + sum_us later
one_bar w time b later whole early =
    elim (touches w b.start b.stop) as (λ t. touches w b.start b.stop ≡ t → sum_us (cond t (b ∷ later) later) ≡ us b + sum_us later) [
      | true ↦ λ yes. sum_by-cons us b later
      | false ↦ λ no. omega (arith, unseen w time b.start b.stop whole early no)
    ] refl

abbrev stay_us : ℕ → List Stay → ℕ
stay_us n xs = sum_by (λ (x : Stay). x.us) (filter (λ x. eqb x.number n) xs)

by_next : (w : Window) (time : ℕ) (s : Switch) (ss : List Switch) (n u : ℕ) (next : Option ℕ) → IsWhole w time → u ≤ time → sum_us (bars_in w time ss n) ≡ cpu_us time ss n
    → sum_us (filter (λ b. touches w b.start b.stop) (cond (is_task n next) (bar_by s u ∷ []) [] ++ bars_of time ss n)) ≡ stay_us n (stays_by s u next ++ stays time ss)
by_next w time s ss n u None whole early rest = rest
by_next w time s ss n u (Some m) whole early rest =
    let stay : Stay = record { number = m; cpu = s.cpu; us = u - s.time } in
    let own = filter (λ (x : Stay). eqb x.number n) (stays time ss) in
    elim (eqb m n) as (λ t. sum_us (filter (λ b. touches w b.start b.stop) (cond t (bar_by s u ∷ []) [] ++ bars_of time ss n)) ≡ sum_by (λ (x : Stay). x.us) (cond t (stay ∷ own) own)) [
      | true ↦ one_bar w time (bar_by s u) (bars_in w time ss n) whole early ∙ ap (λ k. u - s.time + k) rest ∙ sym (sum_by-cons (λ (x : Stay). x.us) stay own)
      | false ↦ rest
    ]

pub full : (w : Window) (time : ℕ) (ss : List Switch) (n : ℕ) → IsWhole w time → All (λ s. s.time ≤ time) ss → sum_us (bars_in w time ss n) ≡ cpu_us time ss n
full w time [] n whole past = refl
full w time (s ∷ ss) n whole past =
    let rest = All-tail (λ (x : Switch). x.time ≤ time) s ss past in
    by_next w time s ss n (until time s.cpu ss) s.next whole (until_early time s.cpu ss rest) (full w time ss n whole rest)
