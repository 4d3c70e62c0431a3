use Rattle.std.proofs.Common.{◌≡◌, ◌-◌, length, ap, ◌∙◌, arith}
use Rattle.std.proofs.lemmas.List.FromFn.{length-range_with_len}
use Rattle.session.proofs.Opening.{range_more}
use Rattle.session.proofs.parts.cpus_from.Goals as goal

pub push_reserved-requires : goal.push_reserved-requires
push_reserved-requires c =
    let base = c.args.base in
    let made = c.loop-cpu.cpu - base in
    let count : length c.loop-cpu.set.items ≡ made = ap length c.loop-cpu.invariant.made ∙ length-range_with_len base made in
    omega (arith, count, c.loop-cpu.set.ok.0, c.loop-cpu.invariant.room)

pub loop-cpu-preserved : goal.loop-cpu-preserved
loop-cpu-preserved c = record {
  made = c.push_reserved.ensures.items ∙ range_more c.loop-cpu.set.items c.args.base c.loop-cpu.cpu (omega arith) c.loop-cpu.invariant.made;
  room = omega (arith, c.push_reserved.ensures.capacity, c.loop-cpu.invariant.room);
}
