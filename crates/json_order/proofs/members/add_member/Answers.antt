use Rattle.std.proofs.Common.{rules}
use Rattle.json_order.proofs.members.add_member.Goals as goal

pub returns-clause-ok : goal.returns-clause-ok
returns-clause-ok c = search rules
