use Rattle.std.proofs.Common.{◌≡◌, ◌<◌, ◌≤◌, length, get_or, subst, ◌∙◌, rules, arith}
use Rattle.std.proofs.lemmas.List.{get_or_default}
use Rattle.switch_text.specs.private.Ready.{IsSlotReady, who_of}
use Rattle.switch_text.proofs.Kept.{IsReady-kept}
use Rattle.switch_text.proofs.ready.seat.Goals as goal

-- what is required has no names here: the second of them is `many`, the last `right`

pub place_for-place-requires-clause-many : goal.place_for-place-requires-clause-many
place_for-place-requires-clause-many g c =
    let many : 640 ≤ length c.args.slots.now = c.requires.1.0 in
    omega (arith, many)

pub returns-else-not-is_of-clause-texts : goal.returns-else-not-is_of-clause-texts
returns-else-not-is_of-clause-texts g c = λ d.
    let slots = c.args.slots.now in
    let place = c.place_for-place.result in
    let x = c.index-slots-place.result in
    let slot = get_or slots place x in
    let inside : place < length slots = omega arith in
    let same : slot.who ≡ who_of c.args.run c.args.cpu c.args.task = c.is_of.ensures (search rules) ∙ c.who_is.ensures in
    subst (λ s. IsSlotReady (g.names c.args.run) c.args.cpu c.args.task s) (get_or_default slots place x d inside)
    (IsReady-kept g.names c.args.run c.args.cpu c.args.task slot same (c.requires.1.1.1.1.1.1 place x inside))
