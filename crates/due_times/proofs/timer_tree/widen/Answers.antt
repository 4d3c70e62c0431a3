use Rattle.std.proofs.Common.{◌≡◌, ◌-◌, ◌*◌, ◌/◌, ◌++◌, ◌^◌, length, drop, replicate, ap, ◌∙◌, arith}
use Rattle.std.proofs.lemmas.Grind.{common_steps}
use Rattle.std.proofs.lemmas.List.{length-append, length-drop, length-replicate}
use Rattle.due_times.specs.private.TimerTree.{leaves}
use Rattle.due_times.proofs.Leaves.{widened}
use Rattle.due_times.proofs.timer_tree.widen.Goals as goal

pub returns-clause-leaves : goal.returns-clause-leaves
returns-clause-leaves c =
    let old = c.args.nodes.now.items in
    let new = c.copy_leaves.new.nodes.items in
    let half = c.len-half.result / 2 in
    let all : c.len-half.result ≡ length old = grind (arith, common_steps) in
    let half_is : half ≡ length old / 2 = ap (λ n. n / 2) all in
    let two : length old ≡ 2 * half = omega (arith, c.requires.tree.fours, half_is) in
    let eight : length new ≡ 8 * half = omega (arith, two, c.copy_leaves.ensures.length, ap length c.add_never.ensures.nodes, length-append old (replicate (6 * half) (2 ^ 64 - 1)), length-replicate (6 * half) (2 ^ 64 - 1)) in
    let place : length new / 2 ≡ 4 * half = omega (arith, eight) in
    let count : half ≡ length (leaves old) = omega (arith, half_is, two, length-drop (length old / 2) old) in
    c.build.ensures.leaves ∙ ap (λ n. drop n new) place
    ∙ widened old c.add_never.new.nodes.items new half two c.add_never.ensures.nodes eight c.copy_leaves.ensures.copied
    ∙ ap (λ n. drop n old ++ replicate (3 * half) (2 ^ 64 - 1)) half_is ∙ ap (λ n. leaves old ++ replicate (3 * n) (2 ^ 64 - 1)) count

pub copy_leaves-requires : goal.copy_leaves-requires
copy_leaves-requires c = grind (arith, common_steps)

pub build-requires-clause-fours : goal.build-requires-clause-fours
build-requires-clause-fours c = grind (arith, common_steps)

pub returns-clause-tree : goal.returns-clause-tree
returns-clause-tree c = grind (arith, common_steps)

pub returns-clause-length : goal.returns-clause-length
returns-clause-length c = grind (arith, common_steps)
