use Rattle.std.specs.Prelude.{take}
use Rattle.std.specs.List.{flat_map}
use Rattle.draft.specs.Draft.{Adds}
use Rattle.dl_session.specs.Ending.{refused_task_line}
use Rattle.dl_session.proofs.ending.put_refused.Given as goal

-- the lines so far were put
abbrev pub invariant-loop-number : goal.invariant-loop-number
invariant-loop-number l =
    Adds l.initial.out l.out (flat_map refused_task_line (take l.number-index l.refused))
