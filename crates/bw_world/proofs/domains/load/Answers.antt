use Rattle.bw_world.proofs.WorldLaw.{load_changes_nothing}
use Rattle.bw_world.proofs.domains.load.Goals as goal

pub returns-in-Some-clause-unchanged : goal.returns-in-Some-clause-unchanged
returns-in-Some-clause-unchanged c = load_changes_nothing c.args.domains.now c.args.domain

pub returns-in-None-clause-unchanged : goal.returns-in-None-clause-unchanged
returns-in-None-clause-unchanged c = load_changes_nothing c.args.domains.now c.args.domain
