use Rattle.std.proofs.Common.{ap}
use Rattle.calls_text.specs.Spelling.{phase_text}
use Rattle.draft.proofs.CallerLemmas.{as_text, more_lines}
use Rattle.calls_text.proofs.writing.put_phases.Goals as goal

pub loop-phase-preserved : goal.loop-phase-preserved
loop-phase-preserved c =
    more_lines phase_text c.args.phases.now c.loop-phase.phase-index c.phase-item.result c.args.out.now c.loop-phase.out c.put_phase.new.out c.loop-phase-test.true c.loop-phase.invariant
    (as_text c.loop-phase.out c.put_phase.new.out _ _ (ap phase_text c.phase-item.is) c.put_phase.ensures)
