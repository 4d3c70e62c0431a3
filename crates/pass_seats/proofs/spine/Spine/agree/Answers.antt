use Rattle.std.proofs.Common.{◌≡◌, All, List, [], ◌∷◌, ◌++◌, take, true, sym, ap, ◌∙◌, subst, arith}
use Rattle.std.proofs.lemmas.List.Elements.{All-head}
use Rattle.pass_seats.specs.declared.view.Mine.{Mine}
use Rattle.pass_seats.specs.Lists.{own}
use Rattle.pass_seats.specs.private.Pass.{first_entries, pass_entries}
use Rattle.pass_seats.proofs.Steps.{joins, splits, agrees, passes_back}
use Rattle.pass_seats.proofs.spine.Spine.agree.Goals as goal

pub join_seat-requires : goal.join_seat-requires
join_seat-requires g c =
    let seat = c.self.inside.seat in
    let into = c.into_seat-seat in
    let badge = ap (λ (b : _). b.table_id) c.replace.ensures.value in
    let same = ap (λ (p : _). p.spine) c.pass.view_is ∙ c.requires ∙ sym (ap (λ (s : _). s.spine) c.self.view_is) in
    (c.self.invariant.1, into.ensures.0 ∙ badge ∙ same, into.ensures.3, omega (arith, c.self.invariant.0), joins seat.id into.result.id seat.me.0 into.result.me.0)

pub load-requires : goal.load-requires
load-requires g c =
    let shared = c.self.inside.table.shared in
    let seat = c.join_seat.new.seat in
    (c.join_seat.ensures.0 ∙ c.self.invariant.1, omega (arith, c.self.invariant.0), agrees shared.table_id.slots seat.id seat.me)

pub split_seat-seat-requires : goal.split_seat-seat-requires
split_seat-seat-requires g c =
    let seat = c.load.new.seat in
    (c.load.ensures.0 ∙ c.join_seat.ensures.0 ∙ c.self.invariant.1, omega (arith, c.self.invariant.0), splits seat.id seat.me.0)

pub returns-clause-own : goal.returns-clause-own
returns-clause-own g c =
    let E = g.row.E.Denot in
    let client = c.pass.inside.client in
    let entries = pass_entries c.pass.inside.badge.views in
    let p : Mine E = record { client = client; entries = entries } in
    let into = c.into_seat-seat in
    let join = c.join_seat.ensures.2 in
    let told = c.load.ensures.2 in
    let split = c.split_seat-seat.ensures in
    let back : into.result.me.0.passes ≡ p ∷ [] = passes_back c.pass.inside.badge.views c.replace.result.views into.result.me.0 client entries into.ensures.2 (ap (λ (b : _). b.views) c.replace.ensures.value) c.pass.invariant.0 in
    let passes : c.join_seat.new.seat.me.0.passes ≡ p ∷ [] = ap (λ (m : _). m.0.passes) join ∙ ap (λ (m : _). m.0.passes ++ into.result.me.0.passes) c.self.invariant.2 ∙ back in
    let spine : c.join_seat.new.seat.me.0.is_spine ≡ true = ap (λ (m : _). m.0.is_spine) join ∙ ap (λ (m : _). m.0.is_spine) c.self.invariant.2 in
    let all = subst (All (λ (q : Mine E). q.entries ≡ own q.client c.join_seat.new.seat.me.0.log)) passes (told.1 spine) in
    let own_now : entries ≡ own client c.join_seat.new.seat.me.0.log = All-head (λ (q : Mine E). q.entries ≡ own q.client c.join_seat.new.seat.me.0.log) p [] all in
    ap pass_entries c.into_badge.ensures.2
    ∙ ap (λ (m : _). first_entries m.0.passes) split.4
    ∙ ap (λ (m : _). first_entries (take 1 m.0.passes)) told.0
    ∙ ap (λ (ps : List (Mine E)). first_entries (take 1 ps)) passes
    ∙ own_now
    ∙ sym (ap (λ (m : _). own client m.0.log) split.2 ∙ ap (λ (m : _). own client m.0.log) told.0)
