use Rattle.std.proofs.Common.{◌≡◌, ◌/◌, ℕ, List, length, ap, ◌∙◌, arith}
use Rattle.due_times.proofs.Carrying.{leaf_within, leaves_set}
use Rattle.due_times.proofs.Descending.{most_1024}
use Rattle.due_times.proofs.timer_tree.set_leaf.Goals as goal

half_is : (c : goal.After-half_of-half) → c.half_of-half.result ≡ length c.args.nodes.now.items / 2
half_is c = c.half_of-half.ensures ∙ ap (λ (ns : List ℕ). length ns / 2) c.deref.ensures.value

pub overflow_add-at : goal.overflow_add-at
overflow_add-at c =
    let within = leaf_within c.args.nodes.now.items c.args.leaf c.requires.tree c.requires.leaf in
    omega (arith, half_is c, within, most_1024 (length c.args.nodes.now.items / 2) c.requires.size)

pub returns-clause-leaves : goal.returns-clause-leaves
returns-clause-leaves c =
    let half = c.half_of-half.ensures ∙ ap (λ (ns : List ℕ). length ns / 2) c.deref.ensures.value in
    c.climb.ensures.leaves ∙ c.carry.ensures.leaves ∙ leaves_set c.args.nodes.now.items c.half_of-half.result c.args.leaf c.args.time half

pub returns-in_default-clause-leaves : goal.returns-in_default-clause-leaves
returns-in_default-clause-leaves c =
    let half = c.half_of-half.ensures ∙ ap (λ (ns : List ℕ). length ns / 2) c.deref.ensures.value in
    c.carry.ensures.leaves ∙ leaves_set c.args.nodes.now.items c.half_of-half.result c.args.leaf c.args.time half
