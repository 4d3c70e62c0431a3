use Rattle.calls_text.proofs.Scripts.{never_refused}
use Rattle.calls_text.proofs.script_text.script_of.Goals as goal

pub returns : goal.returns
returns c = absurd (never_refused c.in-Some.phases.now c.in_ok-loops.loops c.in_ok-phases.phases.items c.in_ok-loops.ensures.within c.in_ok-phases.ensures c.in-Err.ensures.within.1)
