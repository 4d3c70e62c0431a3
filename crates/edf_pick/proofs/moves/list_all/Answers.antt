use Rattle.std.proofs.Common.{◌≡◌, ◌≢◌, ◌<◌, ◌∙◌, ◌++◌, ℕ, List, Option, None, get_or, set, length, append_assoc, append-nil, ap, sym, inl, inr, arith}
use Rattle.std.specs.Int.{bit_at}
use Rattle.std.proofs.lemmas.Bool.{cases_eq}
use Rattle.std.proofs.lemmas.List.{get_or-set_same, get_or-set_other}
use Rattle.std.proofs.lemmas.Nat.Bits.{bit_at-zero}
use Rattle.edf_pick.specs.declared.moves.Moved.{Moved}
use Rattle.edf_pick.specs.Moves.{same_occupant, moved_at, moved_from}
use Rattle.edf_pick.specs.Places.{Places}
use Rattle.edf_pick.proofs.Moving.{moved_none, moved_step, moved_length, room_for, differs_within, same_all}
use Rattle.edf_pick.proofs.moves.list_all.Goals as goal

pub list_one-requires-clause-within : goal.list_one-requires-clause-within
list_one-requires-clause-within c =
    let inv = c.cpus.invariant in
    let i = c.first-cpu.result in
    let inside = differs_within c.cpus.before.items c.args.occupants.now i (omega (arith, inv.len)) (inv.differ i c.first-cpu.ensures.marked) in
    omega (arith, inside)

pub list_one-requires-clause-room : goal.list_one-requires-clause-room
list_one-requires-clause-room c =
    let before = c.cpus.before.items in
    let after = c.args.occupants.now in
    let i = c.first-cpu.result in
    let inv = c.cpus.invariant in
    let differs = inv.differ i c.first-cpu.ensures.marked in
    let same_len : length before ≡ length after = omega (arith, inv.len) in
    let step = moved_step i before after same_len (differs_within before after i same_len differs) (λ k l. inv.others k (c.first-cpu.ensures.lowest k l)) in
    let total = moved_from 0 c.args.before.now.items after in
    let rest = moved_from 0 (set before i (get_or after i None)) after in
    let more : length c.cpus.list.items < length total = room_for c.cpus.list.items rest total i (get_or before i None) (get_or after i None) (sym (ap (λ (xs : List Moved). c.cpus.list.items ++ xs) step) ∙ inv.whole) differs in
    let few = moved_length 0 c.args.before.now.items after in
    omega (arith, more, few, inv.list_room)

pub cpus-preserved : goal.cpus-preserved
cpus-preserved c =
    let before = c.cpus.before.items in
    let after = c.args.occupants.now in
    let i = c.first-cpu.result in
    let inv = c.cpus.invariant in
    let new = c.list_one.new.before.items in
    let v = get_or after i None in
    let same_len : length before ≡ length after = omega (arith, inv.len) in
    let inside : i < length before = differs_within before after i same_len (inv.differ i c.first-cpu.ensures.marked) in
    let step = moved_step i before after same_len inside (λ k l. inv.others k (c.first-cpu.ensures.lowest k l)) in
    let rest = moved_from 0 (set before i v) after in
    let one = moved_at i (get_or before i None) v in
    record {
      whole = ap (λ (xs : List Moved). xs ++ moved_from 0 new after) c.list_one.ensures.list
          ∙ ap (λ (ps : Places). (c.cpus.list.items ++ one) ++ moved_from 0 ps after) c.list_one.ensures.before
          ∙ append_assoc c.cpus.list.items one rest ∙ sym (ap (λ (xs : List Moved). c.cpus.list.items ++ xs) step) ∙ inv.whole;
      others = λ cpu e. ap (λ (ps : Places). get_or ps cpu None) c.list_one.ensures.before ∙ elim (cases_eq cpu i) [
        | inl same ↦ ap (λ (k : ℕ). get_or (set before i v) k None) same ∙ get_or-set_same before i v None inside ∙ sym (ap (λ (k : ℕ). get_or after k None) same)
        | inr apart ↦ get_or-set_other before i cpu v None apart ∙ inv.others cpu (sym (c.without-left.ensures.others cpu apart) ∙ e)
      ];
      differ = λ cpu e.
          let apart : cpu ≢ i = λ same. let both : bit_at c.without-left.result cpu ≡ 0 = ap (bit_at c.without-left.result) same ∙ c.without-left.ensures.bare in omega (arith, e, both) in
          ap (λ (o : Option ℕ). same_occupant o (get_or after cpu None)) (ap (λ (ps : Places). get_or ps cpu None) c.list_one.ensures.before ∙ get_or-set_other before i cpu v None apart)
          ∙ inv.differ cpu (sym (c.without-left.ensures.others cpu apart) ∙ e);
      len = c.list_one.ensures.len ∙ inv.len;
      room = c.list_one.ensures.room ∙ inv.room;
      list_room = c.list_one.ensures.list_room ∙ inv.list_room;
    }

pub returns-clause-list : goal.returns-clause-list
returns-clause-list c =
    let done : c.cpus.left ≡ 0 = omega arith in
    let none = moved_none 0 c.cpus.before.items c.args.occupants.now (λ cpu. c.cpus.invariant.others cpu (ap (λ (m : ℕ). bit_at m cpu) done ∙ bit_at-zero cpu)) in
    sym (append-nil c.cpus.list.items) ∙ sym (ap (λ (xs : List Moved). c.cpus.list.items ++ xs) none) ∙ c.cpus.invariant.whole

pub returns-clause-before : goal.returns-clause-before
returns-clause-before c =
    let done : c.cpus.left ≡ 0 = omega arith in
    same_all c.cpus.before.items c.args.occupants.now (omega (arith, c.cpus.invariant.len)) (λ cpu. c.cpus.invariant.others cpu (ap (λ (m : ℕ). bit_at m cpu) done ∙ bit_at-zero cpu))
