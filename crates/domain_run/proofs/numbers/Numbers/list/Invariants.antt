use Rattle.std.proofs.Common.{◌≡◌, take}
use Rattle.domain_run.specs.private.Numbers.{numbers_marked}
use Rattle.domain_run.proofs.numbers.Numbers.list.Given as goal

-- the marked numbers of the places so far
abbrev pub invariant-loop-number : goal.invariant-loop-number
invariant-loop-number l = l.numbers.items ≡ numbers_marked 0 (take l.number l.self-inside.marks.items)
