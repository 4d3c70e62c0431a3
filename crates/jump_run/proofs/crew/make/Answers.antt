use Rattle.std.proofs.Common.{◌≡◌, ◌≤◌, ◌^◌, List, map, take, All, length, sym, ap, subst, ◌∙◌, arith}
use Rattle.std.specs.Prelude.{ℤ}
use Rattle.std.proofs.lemmas.List.{length-map}
use Rattle.domain_run.specs.Jump.{AreCharged}
use Rattle.tick_split.specs.declared.element.Plan.{Plan}
use Rattle.tick_split.specs.declared.element.Slice.{Slice}
use Rattle.tick_split.specs.Charging.{IsChargeable, charged_slice}
use Rattle.jump_run.specs.Plans.{slice_of, IsSmall}
use Rattle.jump_run.proofs.Crewing.{all_from_one, all_chargeable, all_small, charged_by}
use Rattle.jump_run.proofs.crew.make.Goals as goal

pub first_spent-ticks-requires-clause-each : goal.first_spent-ticks-requires-clause-each
first_spent-ticks-requires-clause-each g c =
    let all = all_from_one c.gather-most.new.plans.items c.plan_list.new.plans.items c.plan_list.ensures.each in
    subst (λ (xs : List Plan). All (λ (q : Plan). 1 ≤ q.spent) xs) (sym c.as_slice.ensures.value) all

pub charge_list-requires-clause-slices : goal.charge_list-requires-clause-slices
charge_list-requires-clause-slices g c κs lives =
    let ticks = c.first_spent-ticks.result in
    let short : ticks ≤ 2 ^ 42 = omega (arith, c.first_spent-ticks.ensures.most, c.gather-most.ensures.short) in
    let all = all_chargeable c.gather-most.new.plans.items c.plan_list.new.plans.items c.plan_list.ensures.each ticks c.gather-most.ensures.each.fit short in
    subst (λ (xs : List Slice). All IsChargeable xs) (sym (c.slice.ensures.each ∙ ap (map (slice_of ticks)) c.as_slice-2.ensures.value)) all

pub put_lefts-requires-clause-small : goal.put_lefts-requires-clause-small
put_lefts-requires-clause-small g c =
    let ticks = c.first_spent-ticks.result in
    let short : ticks ≤ 2 ^ 42 = omega (arith, c.first_spent-ticks.ensures.most, c.gather-most.ensures.short) in
    let all = all_small c.gather-most.new.plans.items c.plan_list.new.plans.items c.plan_list.ensures.each ticks c.gather-most.ensures.each.fit short in
    let slices : c.slice.new.slices.items ≡ map (slice_of ticks) c.plan_list.new.plans.items = c.slice.ensures.each ∙ ap (map (slice_of ticks)) c.as_slice-2.ensures.value in
    subst (λ (xs : List Slice). All IsSmall xs) (sym (c.as_slice-3.ensures.value ∙ c.charge_list.ensures.each ∙ ap (map charged_slice) slices)) all

pub returns-clause-charged : goal.returns-clause-charged
returns-clause-charged g c =
    let d = c.args.state.now in
    let ticks = c.first_spent-ticks.result in
    let plans = c.gather-most.new.plans.items in
    let after = c.plan_list.new.plans.items in
    let found = c.gather-most.ensures in
    let first = c.first_spent-ticks.ensures in
    let all = charged_by plans after c.plan_list.ensures.each d c.gather-most.result ticks found.each found.many first.some first.most (subst (λ (xs : List Plan). All (λ (q : Plan). ticks ≤ q.spent) xs) c.as_slice.ensures.value first.each) in
    let slices : c.slice.new.slices.items ≡ map (slice_of ticks) c.plan_list.new.plans.items = c.slice.ensures.each ∙ ap (map (slice_of ticks)) c.as_slice-2.ensures.value in
    let paid : c.as_slice-3.result.now ≡ map charged_slice (map (slice_of ticks) after) = c.as_slice-3.ensures.value ∙ c.charge_list.ensures.each ∙ ap (map charged_slice) slices in
    let long : length c.as_slice-3.result.now ≡ length after = ap length paid ∙ length-map (map (slice_of ticks) after) charged_slice ∙ length-map after (slice_of ticks) in
    let held : length c.as_slice.result.now ≡ length after = ap length c.as_slice.ensures.value in
    let count : c.len.result ≡ length c.as_slice-3.result.now = omega (arith, c.len.ensures, c.as_slice.ensures.len, held, long) in
    let lefts = c.put_lefts.ensures ∙ ap (map (λ (s : Slice). s.left)) paid in
    subst (λ (zs : List ℤ). AreCharged d ticks zs) (sym (ap (λ n. take n c.put_lefts.new.room.budgets) count ∙ lefts)) all
