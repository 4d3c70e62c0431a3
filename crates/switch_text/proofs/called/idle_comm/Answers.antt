use Rattle.std.proofs.Common.{length, ap, arith}
use Rattle.std.proofs.lemmas.Fmt.{length-decimal-le}
use Rattle.std.proofs.lemmas.List.{length-take}
use Rattle.switch_text.proofs.called.idle_comm.Goals as goal

pub put_decimal-len-requires : goal.put_decimal-len-requires
put_decimal-len-requires c = omega (arith, length-decimal-le 3 c.from.result (omega arith) (omega arith) (omega arith))

pub front-requires : goal.front-requires
front-requires c = omega (arith, length-decimal-le 3 c.from.result (omega arith) (omega arith) (omega arith))

pub returns-clause-short : goal.returns-clause-short
returns-clause-short c =
    omega (arith, ap length c.front.ensures, length-take c.put_decimal-len.result c.put_decimal-len.new.out, length-decimal-le 3 c.from.result (omega arith) (omega arith) (omega arith))
