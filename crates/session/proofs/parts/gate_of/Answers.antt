use Rattle.std.proofs.Common.{◌≡◌, ℕ, ◌*◌, ◌+◌, length, map, take, ap, sym, subst, ◌∙◌, arith}
use Rattle.std.proofs.lemmas.List.{take_all}
use Rattle.bw_gate.specs.Terms.{AreRooms}
use Rattle.session.proofs.Opening.{room_of, are_rooms, terms_are}
use Rattle.session.proofs.parts.gate_of.Goals as goal

pub open-requires : goal.open-requires
open-requires c =
    let o = c.args.options.now in
    let domains = o.domains.items in
    let n = c.len-count.result in
    let d = c.loop-d.d in
    let end : n ≡ d = omega arith in
    let count : n ≡ length domains = c.len-count.ensures ∙ o.domains.ok.0 in
    let rooms = take n c.loop-d.rooms in
    let all : take d domains ≡ domains = take_all d domains (omega (arith, end, count)) in
    let are : rooms ≡ map (room_of o.limit) domains =
    ap (λ (k : ℕ). take k c.loop-d.rooms) end ∙ c.loop-d.invariant.made ∙ ap (map (room_of o.limit)) all in
    subst (λ (k : ℕ). AreRooms rooms (k * 256 + o.clients)) (sym count) (are_rooms o rooms c.requires are)

pub returns-in-Ok-clause-terms : goal.returns-in-Ok-clause-terms
returns-in-Ok-clause-terms c =
    let o = c.args.options.now in
    let domains = o.domains.items in
    let n = c.len-count.result in
    let d = c.loop-d.d in
    let end : n ≡ d = omega arith in
    let count : n ≡ length domains = c.len-count.ensures ∙ o.domains.ok.0 in
    let rooms = take n c.loop-d.rooms in
    let all : take d domains ≡ domains = take_all d domains (omega (arith, end, count)) in
    let are : rooms ≡ map (room_of o.limit) domains =
    ap (λ (k : ℕ). take k c.loop-d.rooms) end ∙ c.loop-d.invariant.made ∙ ap (map (room_of o.limit)) all in
    c.in-Ok.ensures.gate ∙ terms_are o rooms n are count
