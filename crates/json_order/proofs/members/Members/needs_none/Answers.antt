use Rattle.std.proofs.Common.{◌<◌, length, rules}
use Rattle.json_order.proofs.members.Members.needs_none.Goals as goal

pub returns-in-Behind-clause-ordered : goal.returns-in-Behind-clause-ordered
returns-in-Behind-clause-ordered c =
    let many : 16 < length c.args.self.now.list.items = search rules in
    λ behind some. c.args.self.now.ordered c.requires.none many
