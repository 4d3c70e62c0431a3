use Rattle.std.proofs.Common.{take}
use Rattle.switch_text.proofs.LoggedFound.{IsBest}
use Rattle.switch_text.proofs.logged_merge.next_logged.Given as goal

abbrev pub invariant-loop-i : goal.invariant-loop-i
invariant-loop-i l = IsBest (take l.i l.logged) l.places l.best
