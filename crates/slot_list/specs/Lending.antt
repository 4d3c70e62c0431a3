-- What a list ends as, where a `&mut` to one of its values is lent.
use Rattle.std.specs.Prelude.{ℕ, List, slice_set}
use Rattle.std.specs.Borrow.{Lends, Fml, RattleType, MutBor}
use Rattle.slot_list.specs.contracts.SlotList.{the_row}

-- once the loan r ends, the place has the last value that was written through r
abbrev pub lends_value : (T : RattleType) → MutBor (List T.Denot) → ℕ → MutBor T.Denot → Fml
lends_value T l place r = Lends (the_row T) T l r (slice_set l.now place)
