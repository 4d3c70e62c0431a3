-- What a script has by itself or shares, for the code's own contracts.
use Rattle.std.specs.Arc.{arc_value}
use Rattle.task_script.specs.private.Steps.{LaidView}
use Rattle.task_script.specs.declared.laid.Body.{Body}
use Rattle.task_script.specs.declared.laid.Body.TheVariants.{Own, Shared}

-- the phases with their steps
abbrev pub laid_of : Body → LaidView
laid_of (Own laid) = laid
laid_of (Shared block) = arc_value block
