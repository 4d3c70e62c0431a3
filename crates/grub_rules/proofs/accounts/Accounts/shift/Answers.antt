use Rattle.std.proofs.Common.{◌≡◌, ◌-◌, ◌/◌, ◌^◌, ◌<◌, [], ◌∷◌, length, refl, ap, ◌∙◌, subst, sym, arith, rules}
use Rattle.std.specs.Prelude.{slice_index}
use Rattle.grub_rules.specs.Sums.{Share}
use Rattle.grub_rules.specs.Accounts.{AccountsView, Exchanges, Holds}
use Rattle.grub_rules.proofs.Shifting.{active_fits, held_active, held_of_all, place_fits, running_shifted, running_stays, still_within, this_shifted}
use Rattle.grub_rules.proofs.accounts.Accounts.shift.Goals as goal

pub subtract-requires-clause-home : goal.subtract-requires-clause-home
subtract-requires-clause-home c =
    let held = subst (λ (a : AccountsView). Holds a c.args.share.now) (sym c.self.view_is) c.requires.held in
    omega (arith, held.home)

pub add-requires-clause-home : goal.add-requires-clause-home
add-requires-clause-home c =
    let home = subst (λ (a : AccountsView). c.args.to < length a.all) (sym c.self.view_is) c.requires.home in
    omega (arith, home)

pub add-requires-clause-fits : goal.add-requires-clause-fits
add-requires-clause-fits c =
    let home = subst (λ (a : AccountsView). c.args.to < length a.all) (sym c.self.view_is) c.requires.home in
    let total : c.self.inside.total < 2 ^ 64 = search rules in
    place_fits c.subtract.new.sums.items c.args.to c.args.share.now.bw c.self.inside.total (omega (arith, home)) (omega (arith, c.subtract.ensures.whole, c.self.invariant.total)) total

pub subtract-requires-then-share-clause-home : goal.subtract-requires-then-share-clause-home
subtract-requires-then-share-clause-home c =
    let held = subst (λ (a : AccountsView). Holds a c.args.share.now) (sym c.self.view_is) c.requires.held in
    omega (arith, held.home, c.self.invariant.cpus)

pub add-requires-then-share-clause-home : goal.add-requires-then-share-clause-home
add-requires-then-share-clause-home c =
    let home = subst (λ (a : AccountsView). c.args.to < length a.all) (sym c.self.view_is) c.requires.home in
    omega (arith, home, c.self.invariant.cpus)

pub add-requires-then-share-clause-fits : goal.add-requires-then-share-clause-fits
add-requires-then-share-clause-fits c =
    let s = c.args.share.now in
    let to = c.args.to in
    let home = subst (λ (a : AccountsView). to < length a.all) (sym c.self.view_is) c.requires.home in
    let total : c.self.inside.total < 2 ^ 64 = search rules in
    let fits = place_fits c.subtract.new.sums.items to s.bw c.self.inside.total (omega (arith, home)) (omega (arith, c.subtract.ensures.whole, c.self.invariant.total)) total in
    active_fits (slice_index c.self.inside.active.items to) (slice_index c.self.inside.all.items to) (slice_index c.subtract.new.sums.items to) _ _ s.bw (c.self.invariant.within to) (c.subtract.ensures.each to) (c.subtract-then-share.ensures.each to) fits

pub subtract-requires-clause-held : goal.subtract-requires-clause-held
subtract-requires-clause-held c =
    let s = c.args.share.now in
    let held = subst (λ (a : AccountsView). Holds a s) (sym c.self.view_is) c.requires.held in
    held_of_all s.active s.bw (slice_index c.self.inside.active.items s.cpu) (slice_index c.self.inside.all.items s.cpu) (c.self.invariant.within s.cpu) held.bw

pub subtract-requires-then-share-clause-held : goal.subtract-requires-then-share-clause-held
subtract-requires-then-share-clause-held c =
    let s = c.args.share.now in
    let held = subst (λ (a : AccountsView). Holds a s) (sym c.self.view_is) c.requires.held in
    held_active s.active s.bw (slice_index c.self.inside.active.items s.cpu) (slice_index c.self.inside.all.items s.cpu - slice_index c.self.inside.active.items s.cpu) c.if-share.true held.bw

pub invariant_of-self-else-share : goal.invariant_of-self-else-share
invariant_of-self-else-share c =
    let s = c.args.share.now in
    let old : AccountsView = record { all = c.self.inside.all.items; active = c.self.inside.active.items; total = c.self.inside.total } in
    let held = subst (λ (a : AccountsView). Holds a s) (sym c.self.view_is) c.requires.held in
    record {
      cpus = omega (arith, c.self.invariant.cpus);
      within = λ cpu. still_within old s (slice_index c.subtract.new.sums.items cpu) (slice_index c.add.new.sums.items cpu) cpu _ held c.if-share.false (c.self.invariant.within cpu) (c.subtract.ensures.each cpu) (c.add.ensures.each cpu);
      total = omega (arith, c.self.invariant.total);
      share = let len : length c.self.inside.all.items ≡ length c.add.new.sums.items = omega arith in c.self.invariant.share ∙ ap (λ n. c.self.inside.total / n) len;
      all_room = omega (arith, c.self.invariant.all_room);
      active_room = omega (arith, c.self.invariant.active_room);
    }

pub invariant_of-self : goal.invariant_of-self
invariant_of-self c = record {
  cpus = omega (arith, c.self.invariant.cpus);
  within = λ cpu. omega (arith, c.self.invariant.within cpu, c.subtract.ensures.each cpu, c.add.ensures.each cpu, c.subtract-then-share.ensures.each cpu, c.add-then-share.ensures.each cpu);
  total = omega (arith, c.self.invariant.total);
  share = let len : length c.self.inside.all.items ≡ length c.add.new.sums.items = omega arith in c.self.invariant.share ∙ ap (λ n. c.self.inside.total / n) len;
  all_room = omega (arith, c.self.invariant.all_room);
  active_room = omega (arith, c.self.invariant.active_room);
}

pub returns-then-share : goal.returns-then-share
returns-then-share c =
    let s = c.args.share.now in
    let t : Share = record s { cpu = c.args.to } in
    subst (λ (old : AccountsView). Exchanges old (record { all = c.add.new.sums.items; active = c.add-then-share.new.sums.items; total = c.self.inside.total }) (s ∷ []) (t ∷ [])) c.self.view_is
    (record {
      cpus = omega arith;
      all = this_shifted s t c.self.inside.all.items c.subtract.new.sums.items c.add.new.sums.items refl c.subtract.ensures.each c.add.ensures.each;
      active = running_shifted s t c.self.inside.active.items c.subtract-then-share.new.sums.items c.add-then-share.new.sums.items refl c.if-share.true c.if-share.true c.subtract-then-share.ensures.each c.add-then-share.ensures.each;
      total = refl;
    })

pub returns-else-share : goal.returns-else-share
returns-else-share c =
    let s = c.args.share.now in
    let t : Share = record s { cpu = c.args.to } in
    subst (λ (old : AccountsView). Exchanges old (record { all = c.add.new.sums.items; active = c.self.inside.active.items; total = c.self.inside.total }) (s ∷ []) (t ∷ [])) c.self.view_is
    (record {
      cpus = omega arith;
      all = this_shifted s t c.self.inside.all.items c.subtract.new.sums.items c.add.new.sums.items refl c.subtract.ensures.each c.add.ensures.each;
      active = running_stays s t c.self.inside.active.items c.if-share.false c.if-share.false;
      total = refl;
    })
