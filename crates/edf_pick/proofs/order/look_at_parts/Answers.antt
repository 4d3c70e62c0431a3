use Rattle.std.proofs.Common.{◌≤◌, ◌+◌, arith}
use Rattle.std.proofs.Math.Nat.{mul-le-mul_left}
use Rattle.edf_pick.proofs.Searching.{search_parts}
use Rattle.edf_pick.proofs.order.look_at_parts.Goals as goal

pub overflow_add-place : goal.overflow_add-place
overflow_add-place c = omega arith

pub one_before-first-requires : goal.one_before-first-requires
one_before-first-requires c = omega arith

pub overflow_mul-part : goal.overflow_mul-part
overflow_mul-part c = omega arith

pub overflow_add-place-2 : goal.overflow_add-place-2
overflow_add-place-2 c = omega arith

pub one_before-second-requires : goal.one_before-second-requires
one_before-second-requires c = omega arith

pub overflow_mul-part-2 : goal.overflow_mul-part-2
overflow_mul-part-2 c = omega arith

pub overflow_add-place-3 : goal.overflow_add-place-3
overflow_add-place-3 c = omega arith

pub one_before-third-requires : goal.one_before-third-requires
one_before-third-requires c = c.requires.there

pub overflow_add-result : goal.overflow_add-result
overflow_add-result c = omega (arith, c.one_before-first.ensures.most, c.one_before-second.ensures.most)

pub overflow_add-result-2 : goal.overflow_add-result-2
overflow_add-result-2 c = omega (arith, c.one_before-first.ensures.most, c.one_before-second.ensures.most, c.one_before-third.ensures.most)

pub overflow_mul-result : goal.overflow_mul-result
overflow_mul-result c =
    let few : c.one_before-first.result + c.one_before-second.result + c.one_before-third.result ≤ 3 = omega (arith, c.one_before-first.ensures.most, c.one_before-second.ensures.most, c.one_before-third.ensures.most) in
    let most = mul-le-mul_left c.args.part few in
    omega (arith, most)

pub overflow_add-result-3 : goal.overflow_add-result-3
overflow_add-result-3 c =
    let few : c.one_before-first.result + c.one_before-second.result + c.one_before-third.result ≤ 3 = omega (arith, c.one_before-first.ensures.most, c.one_before-second.ensures.most, c.one_before-third.ensures.most) in
    let most = mul-le-mul_left c.args.part few in
    omega (arith, most)

pub returns : goal.returns
returns c = λ width fits is. search_parts c.args.c.now c.args.queue.now c.args.place width c.args.part c.requires.rising is fits c.requires.there c.one_before-first.result c.one_before-second.result c.one_before-third.result c.one_before-first.ensures c.one_before-second.ensures c.one_before-third.ensures
