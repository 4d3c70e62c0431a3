use Rattle.std.proofs.Common.{length, ap, arith}
use Rattle.switch_text.proofs.EventRoom.{pid_fits}
use Rattle.switch_text.proofs.called.pid_piece.Goals as goal

pub returns-clause-short : goal.returns-clause-short
returns-clause-short c = omega (arith, ap length c.decimal_piece.ensures, pid_fits c.pid_for.result c.pid_for.ensures.small)
