use Rattle.std.proofs.Common.{sym}
use Rattle.rtapp_scenario.proofs.Trees.{object_seen}
use Rattle.rtapp_scenario.proofs.value.object.Goals as goal

pub returns-in-Object : goal.returns-in-Object
returns-in-Object c = rw (c.as_slice.ensures.value, c.in-Object.is) (sym (object_seen c.in-Object.members))
