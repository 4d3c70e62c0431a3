use Rattle.figure_text.proofs.Sending.{puts_waiting}
use Rattle.figure_text.proofs.outgoing.Outgoing.start.Goals as goal

pub returns-clause-ok : goal.returns-clause-ok
returns-clause-ok g c = puts_waiting _ c.args.self.now c.append.new.self c.args.text.now c.append.ensures
