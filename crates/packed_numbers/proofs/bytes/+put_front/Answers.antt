use Rattle.std.proofs.Common.{arith}
use Rattle.packed_numbers.proofs.Rest.{front_small}
use Rattle.packed_numbers.proofs.bytes.+put_front.Goals as goal

pub put_front-requires : goal.put_front-requires
put_front-requires t c =
    let some = c.if-part-eq0.false in
    let small = front_small c.args.part c.args.most c.requires.small some in
    (omega (arith, c.decreases, some), (omega (arith, c.requires.room, c.requires.small, some), (small, c.requires.whole)))
