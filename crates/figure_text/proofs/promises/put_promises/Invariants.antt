use Rattle.std.proofs.Common.{take}
use Rattle.std.specs.Prelude.{flat_map}
use Rattle.figure_text.specs.Promises.{promise_view_of, promise_line}
use Rattle.draft.specs.Draft.{Adds}
use Rattle.figure_text.proofs.promises.put_promises.Given as goal

abbrev pub invariant-loop-row : goal.invariant-loop-row
invariant-loop-row l = Adds l.initial.out l.out (flat_map (λ r. promise_line (promise_view_of r)) (take l.row-index l.rows))
