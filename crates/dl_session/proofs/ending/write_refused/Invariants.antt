use Rattle.std.specs.Prelude.{take}
use Rattle.std.specs.Fmt.{HasWritten, IsPlainFormatter}
use Rattle.std.specs.List.{flat_map}
use Rattle.dl_session.specs.Ending.{refused_task_line}
use Rattle.dl_session.proofs.ending.write_refused.Given as goal

-- the lines so far were written
abbrev pub invariant-loop-number : goal.invariant-loop-number
invariant-loop-number g l =
    IsPlainFormatter l.initial.f → HasWritten g.W.Write.write_str_gives l.initial.f (flat_map refused_task_line (take l.number-index l.refused)) l.f
