use Rattle.std.proofs.Common.{arith}
use Rattle.switch_text.proofs.EventRoom.{seconds_fit}
use Rattle.switch_text.proofs.logged_lines.put_seconds.Goals as goal

pub put_decimal-at-requires : goal.put_decimal-at-requires
put_decimal-at-requires c = omega (arith, seconds_fit c.args.time (omega arith))

pub put-at-requires : goal.put-at-requires
put-at-requires c = omega (arith, seconds_fit c.args.time (omega arith))

pub put_micros-requires-clause-room : goal.put_micros-requires-clause-room
put_micros-requires-clause-room c = omega (arith, seconds_fit c.args.time (omega arith))

pub returns-clause-short : goal.returns-clause-short
returns-clause-short c = omega (arith, seconds_fit c.args.time (omega arith))
