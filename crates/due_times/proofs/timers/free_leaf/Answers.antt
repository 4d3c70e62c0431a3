use Rattle.std.proofs.Common.{◌-◌, ◌<◌, ℕ, List, All, length, sym, subst, arith}
use Rattle.due_times.proofs.Descending.{some_four}
use Rattle.due_times.proofs.timers.free_leaf.Goals as goal

pub returns-clause-there : goal.returns-clause-there
returns-clause-there c =
    let leaves = length c.make_room.new.timer_tree in
    let some = some_four leaves c.make_room.ensures.kept.size in
    let near = c.next_leaf.ensures.near (leaves - 1)
    (subst (λ (xs : List ℕ). All (λ leaf. leaf < leaves - 1) xs) (sym c.deref-2.ensures.value)
    (λ k d h. let less = c.make_room.ensures.room k d h in omega (arith, less))) in
    omega (arith, near, some)
