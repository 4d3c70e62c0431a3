use Rattle.std.proofs.Common.{◌≡◌, ◌++◌, take}
use Rattle.past.specs.Past.{items_of_past}
use Rattle.past.proofs.past.Past.extend.Given as goal

abbrev pub invariant-loop-one : goal.invariant-loop-one
invariant-loop-one g l = items_of_past l.self ≡ items_of_past l.initial.self ++ take l.one-index l.many
