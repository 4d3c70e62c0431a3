use Rattle.std.proofs.Common.{◌≡◌, [], ◌∷◌, ◌++◌, true, sym, ap, ◌∙◌, arith}
use Rattle.pass_seats.specs.declared.view.Mine.{Mine}
use Rattle.pass_seats.specs.private.Pass.{pass_entries}
use Rattle.pass_seats.proofs.Steps.{joins, splits, appends, passes_back}
use Rattle.pass_seats.proofs.spine.Spine.append_as.Goals as goal

pub join_seat-requires : goal.join_seat-requires
join_seat-requires g c =
    let seat = c.self.inside.seat in
    let into = c.into_seat-seat in
    let badge = ap (λ (b : _). b.table_id) c.replace.ensures.value in
    let same = ap (λ (p : _). p.spine) c.pass.view_is ∙ c.requires.own ∙ sym (ap (λ (s : _). s.spine) c.self.view_is) in
    (c.self.invariant.1, into.ensures.0 ∙ badge ∙ same, into.ensures.3, omega (arith, c.self.invariant.0), joins seat.id into.result.id seat.me.0 into.result.me.0)

pub load-requires : goal.load-requires
load-requires g c =
    let shared = c.self.inside.table.shared in
    let seat = c.join_seat.new.seat in
    let client = c.pass.inside.client in
    let entries = pass_entries c.pass.inside.badge.views in
    let p : Mine g.row.E.Denot = record { client = client; entries = entries } in
    let into = c.into_seat-seat in
    let join = c.join_seat.ensures.2 in
    let back : into.result.me.0.passes ≡ p ∷ [] = passes_back c.pass.inside.badge.views c.replace.result.views into.result.me.0 client entries into.ensures.2 (ap (λ (b : _). b.views) c.replace.ensures.value) c.pass.invariant.0 in
    let passes : c.join_seat.new.seat.me.0.passes ≡ p ∷ [] = ap (λ (m : _). m.0.passes) join ∙ ap (λ (m : _). m.0.passes ++ into.result.me.0.passes) c.self.invariant.2 ∙ back in
    let spine : seat.me.0.is_spine ≡ true = ap (λ (m : _). m.0.is_spine) join ∙ ap (λ (m : _). m.0.is_spine) c.self.invariant.2 in
    (c.join_seat.ensures.0 ∙ c.self.invariant.1, omega (arith, c.self.invariant.0), appends g.J.Said.said shared.table_id.slots seat.id seat.me p spine passes)

pub split_seat-seat-requires : goal.split_seat-seat-requires
split_seat-seat-requires g c =
    let seat = c.load.new.seat in
    (c.load.ensures.0 ∙ c.join_seat.ensures.0 ∙ c.self.invariant.1, omega (arith, c.self.invariant.0), splits seat.id seat.me.0)
