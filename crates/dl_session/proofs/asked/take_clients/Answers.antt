use Rattle.std.proofs.Common.{◌≡◌, ◌≤◌, ◌<◌, ◌+◌, ◌-◌, ℕ, Bool, true, false, length, set, get_or, sym, ap, subst, ◌∙◌, arith}
use Rattle.std.proofs.lemmas.List.{get_or_default, length-replicate, get_or-replicate, length-set, length_push, get_or-set_other}
use Rattle.std.proofs.lemmas.Option.{slice_get_read}
use Rattle.std.specs.Prelude.{List, slice_get, Some}
use Rattle.session.specs.Clients.{IsNew}
use Rattle.session.proofs.CallerLemmas.{by_place_more}
use Rattle.dl_session.proofs.asked.take_clients.Goals.{in-Some, in_default}
use Rattle.dl_session.proofs.asked.take_clients.Goals as goal

pub loop-place-init : goal.loop-place-init
loop-place-init g c =
    let all : length c.args.session.now ≡ c.args.many = ap length c.requires.waiting ∙ length-replicate g.N.Names.id.clients true ∙ sym c.requires.many in
    record {
      count = ap length c.in_ok-clients.ensures.items;
      room = omega (arith, c.in_ok-clients.ensures.capacity);
      known = all;
      waiting = λ i past inside.
          let below : i < g.N.Names.id.clients = omega (arith, inside, c.requires.many) in
          ap (λ (ws : List Bool). get_or ws i false) c.requires.waiting ∙ get_or-replicate g.N.Names.id.clients i true false below;
      new = λ i x inside. let none = ap length c.in_ok-clients.ensures.items in absurd (omega (arith, inside, none));
    }

pub loop-place-preserved : goal.loop-place-preserved
loop-place-preserved g c =
    let i = c.loop-place.invariant in
    let k = c.loop-place.place in
    elim c.match-client.branch [
      | in-Some w ↦
          let given = w.in-Some.ensures in
          let same : k + 1 - 1 ≡ k = omega arith in
          let left : c.client.new.self ≡ set c.loop-place.session k false = given.others ∙ ap (λ (n : ℕ). set c.loop-place.session n false) same in
          let items = ap (λ v. v.items) w.clients-is ∙ w.push_reserved.ensures.items in
          record {
            count = let more = length_push c.loop-place.clients.items w.in-Some.client in let now = ap length items in omega (arith, more, now, i.count);
            room = let stays = w.push_reserved.ensures.capacity in let is = ap (λ v. v.cap) w.clients-is in omega (arith, stays, is, i.room);
            known = ap length left ∙ length-set c.loop-place.session k false ∙ i.known;
            waiting = λ j past inside.
                let other : j ≡ k → ⊥ = λ e. omega (arith, e, past) in
                let before : k ≤ j = omega (arith, past) in
                ap (λ (ws : List Bool). get_or ws j false) left ∙ get_or-set_other c.loop-place.session k j false false other ∙ i.waiting j before inside;
            new = rw items (by_place_more (λ n c. IsNew g.N.Names.id (n + 1) c) c.loop-place.clients.items w.in-Some.client i.new (subst (λ (n : ℕ). IsNew g.N.Names.id (n + 1) w.in-Some.client) (sym i.count) given.new));
          }
      | in_default w ↦
          let no = w.in_default.ensures.absent (omega arith) in
          let here : k < c.args.many = c.loop-place-test.true in
          let at : slice_get c.loop-place.session k ≡ Some true = slice_get_read c.loop-place.session c.args.many k true (sym i.known) here (sym (i.waiting k (omega arith) here) ∙ get_or_default c.loop-place.session k false true (omega (arith, here, i.known))) in
          let same : k + 1 - 1 ≡ k = omega arith in
          absurd (no (ap (slice_get c.loop-place.session) same ∙ at))
    ]
