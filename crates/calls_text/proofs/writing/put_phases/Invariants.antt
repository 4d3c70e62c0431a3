use Rattle.std.proofs.Common.{take}
use Rattle.std.specs.List.{flat_map}
use Rattle.calls_text.specs.Spelling.{phase_text}
use Rattle.draft.specs.Draft.{Adds}
use Rattle.calls_text.proofs.writing.put_phases.Given as goal

abbrev pub invariant-loop-phase : goal.invariant-loop-phase
invariant-loop-phase l = Adds l.initial.out l.out (flat_map phase_text (take l.phase-index l.phases))
