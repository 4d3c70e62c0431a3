use Rattle.std.proofs.Common.{◌≡◌, ◌<◌, ◌∙◌, Some, None, map, take, sym, arith}
use Rattle.json_order.specs.Lent.{lent_json}
use Rattle.rtapp_scenario.specs.Values.{natural_within}
use Rattle.rtapp_scenario.specs.Keys.{numbers_in}
use Rattle.rtapp_scenario.proofs.Cpus.{cpus_stop, cpus_twice, cpus_on, numbers_more, marked}
use Rattle.rtapp_scenario.proofs.key.are_new_cpus.Goals as goal

pub returns-in_default : goal.returns-in_default
returns-in_default c =
    let i = c.loop-item.invariant in
    let q : natural_within 0 511 (lent_json c.item-item.result) ≡ None = sym c.natural_within.ensures.value ∙ c.in_default.is in
    cpus_stop c.args.items.now c.loop-item.item-index c.item-item.result (numbers_in (map lent_json (take c.loop-item.item-index c.args.items.now))) _ c.loop-item-test.true c.item-item.is q i.so_far

pub returns-then-seen-n : goal.returns-then-seen-n
returns-then-seen-n c =
    let i = c.loop-item.invariant in
    let q : natural_within 0 511 (lent_json c.item-item.result) ≡ Some c.in-Some.n = sym c.natural_within.ensures.value ∙ c.in-Some.is in
    let small : c.in-Some.n < 512 = omega (arith, c.in-Some.ensures.within) in
    cpus_twice c.args.items.now c.loop-item.item-index c.item-item.result c.in-Some.n (numbers_in (map lent_json (take c.loop-item.item-index c.args.items.now))) _ c.loop-item-test.true c.item-item.is q (sym (i.marks.mark c.in-Some.n small) ∙ c.if-seen-n.true) i.so_far

pub loop-item-preserved : goal.loop-item-preserved
loop-item-preserved c =
    let i = c.loop-item.invariant in
    let q : natural_within 0 511 (lent_json c.item-item.result) ≡ Some c.in-Some.n = sym c.natural_within.ensures.value ∙ c.in-Some.is in
    let small : c.in-Some.n < 512 = omega (arith, c.in-Some.ensures.within) in
    rw (numbers_more c.args.items.now c.loop-item.item-index c.item-item.result c.in-Some.n c.loop-item-test.true c.item-item.is q) (record {
      so_far = cpus_on c.args.items.now c.loop-item.item-index c.item-item.result c.in-Some.n (numbers_in (map lent_json (take c.loop-item.item-index c.args.items.now))) _ c.loop-item-test.true c.item-item.is q (sym (i.marks.mark c.in-Some.n small) ∙ c.if-seen-n.false) i.so_far;
      marks = marked c.loop-item.seen (numbers_in (map lent_json (take c.loop-item.item-index c.args.items.now))) c.in-Some.n small i.marks;
    })
