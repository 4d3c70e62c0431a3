use Rattle.std.proofs.Common.{◌<◌, ◌∙◌, ℕ, None, get_or, length, set, refl, sym, ap, inl, inr, arith}
use Rattle.std.specs.Int.{bit_at}
use Rattle.std.proofs.lemmas.Bool.{cases_eq}
use Rattle.std.proofs.lemmas.List.{get_or-set_same, get_or-set_other}
use Rattle.edf_pick.specs.Places.{count_occupant}
use Rattle.edf_pick.proofs.assignments.vacate.Goals as goal

pub index_mut-requires : goal.index_mut-requires
index_mut-requires c = c.requires.within

pub without-requires : goal.without-requires
without-requires c = omega (arith, c.requires.within, c.requires.few)

pub returns-clause-places : goal.returns-clause-places
returns-clause-places c = refl

pub returns-clause-len : goal.returns-clause-len
returns-clause-len c = refl

pub returns-clause-room : goal.returns-clause-room
returns-clause-room c = refl

pub returns-clause-taken : goal.returns-clause-taken
returns-clause-taken c k =
    let items = c.args.places.now.items in
    let cpu = c.args.cpu in
    let e = c.without.ensures in
    let inside : cpu < length items = omega (arith, c.requires.within) in
    elim (cases_eq k cpu) [
      | inl same ↦
          ap (bit_at c.without.result) same ∙ e.bare
          ∙ sym (ap (λ (j : ℕ). count_occupant (get_or (set items cpu None) j None)) same ∙ ap count_occupant (get_or-set_same items cpu None None inside))
      | inr apart ↦ e.others k apart ∙ c.requires.taken k ∙ ap count_occupant (sym (get_or-set_other items cpu k None None apart))
    ]
