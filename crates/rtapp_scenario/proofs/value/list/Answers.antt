use Rattle.std.proofs.Common.{sym}
use Rattle.rtapp_scenario.proofs.Trees.{list_seen}
use Rattle.rtapp_scenario.proofs.value.list.Goals as goal

pub returns-in-List : goal.returns-in-List
returns-in-List c = rw (c.as_slice.ensures.value, c.in-List.is) (sym (list_seen c.in-List.items))
