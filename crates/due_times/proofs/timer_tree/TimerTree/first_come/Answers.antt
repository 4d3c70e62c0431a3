use Rattle.std.proofs.lemmas.List.{get_or_default, get_or-drop}
use Rattle.std.proofs.Common.{◌≡◌, ℕ, ◌+◌, ◌-◌, ◌/◌, ◌≤◌, List, length, get_or, sym, ap, subst, ◌∙◌, arith}
use Rattle.due_times.specs.Timers.{least, AreLater, IsSize}
use Rattle.due_times.specs.private.TimerTree.{IsOnWay, leaves}
use Rattle.due_times.proofs.Descending.{leaf_come, leaves_ahead, leaves_half}
use Rattle.due_times.proofs.timer_tree.TimerTree.first_come.Goals as goal

pub first_come-requires-clause-size : goal.first_come-requires-clause-size
first_come-requires-clause-size c =
    let ns = c.self.inside.nodes.items in
    let half : length c.args.self.now ≡ length c.deref.result.now / 2 = ap length (sym c.self.view_is) ∙ leaves_half ns c.self.invariant.tree ∙ ap (λ (xs : List ℕ). length xs / 2) (sym c.deref.ensures.value) in
    subst IsSize half c.requires.size

pub first_come-requires-clause-come : goal.first_come-requires-clause-come
first_come-requires-clause-come c =
    subst (λ (xs : List ℕ). least (leaves xs) ≤ c.args.time) (sym c.deref.ensures.value)
    (subst (λ (times : List ℕ). least times ≤ c.args.time) (sym c.self.view_is) c.requires.come)

pub overflow_sub-result : goal.overflow_sub-result
overflow_sub-result c = omega (arith, c.first_come.ensures.way.low, ap (λ (xs : List ℕ). length xs) c.deref.ensures.value, c.self.inside.nodes.ok.0)

pub returns-clause-within : goal.returns-clause-within
returns-clause-within c =
    let ns = c.self.inside.nodes.items in
    let long : length c.args.self.now ≡ length ns / 2 = ap length (sym c.self.view_is) ∙ leaves_half ns c.self.invariant.tree in
    omega (arith, long, c.first_come.ensures.way.low, c.first_come.ensures.way.high, ap (λ (xs : List ℕ). length xs) c.deref.ensures.value, c.self.inside.nodes.ok.0, c.self.invariant.tree.fours)

pub returns-clause-others : goal.returns-clause-others
returns-clause-others c =
    let ns = c.self.inside.nodes.items in
    let at = c.first_come.result in
    let time = c.args.time in
    let all : c.len-half.result ≡ length ns = omega (arith, c.self.inside.nodes.ok.0) in
    let way = subst (λ (xs : List ℕ). IsOnWay xs time at 1) c.deref.ensures.value c.first_come.ensures.way in
    subst (λ (times : List ℕ). AreLater times time 0 (at - c.len-half.result / 2)) c.self.view_is
    (subst (λ (n : ℕ). AreLater (leaves ns) time 0 (at - n / 2)) (sym all) (leaves_ahead ns time at way))

pub returns-clause-come : goal.returns-clause-come
returns-clause-come c =
    let ns = c.self.inside.nodes.items in
    let at = c.first_come.result in
    let time = c.args.time in
    let all : c.len-half.result ≡ length ns = omega (arith, c.self.inside.nodes.ok.0) in
    let way = subst (λ (xs : List ℕ). IsOnWay xs time at 1) c.deref.ensures.value c.first_come.ensures.way in
    subst (λ (times : List ℕ). get_or times (at - c.len-half.result / 2) 0 ≤ time) c.self.view_is
    (subst (λ (n : ℕ). get_or (leaves ns) (at - n / 2) 0 ≤ time) (sym all) (leaf_come ns time at way))

pub returns-clause-high : goal.returns-clause-high
returns-clause-high c = λ k d h.
    let ns = c.self.inside.nodes.items in
    let half = length ns / 2 in
    let leaf : get_or c.args.self.now k d ≡ get_or c.deref.result.now (half + k) 0 =
    get_or_default c.args.self.now k d 0 h ∙ ap (λ (ts : List ℕ). get_or ts k 0) (sym c.self.view_is)
    ∙ get_or-drop half ns k 0 ∙ ap (λ (xs : List ℕ). get_or xs (half + k) 0) (sym c.deref.ensures.value) in
    omega (arith, leaf, c.first_come.ensures.high (half + k))
