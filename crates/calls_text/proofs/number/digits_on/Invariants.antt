use Rattle.std.proofs.Common.{◌≡◌, ◌≤◌, drop}
use Rattle.calls_text.specs.private.Reading.{digits_front}
use Rattle.calls_text.proofs.number.digits_on.Given as goal

abbrev pub invariant-loop-i : goal.invariant-loop-i
invariant-loop-i l = record { so_far : digits_front l.n (drop l.i l.text) ≡ digits_front l.first l.text; high : l.n ≤ l.most }
