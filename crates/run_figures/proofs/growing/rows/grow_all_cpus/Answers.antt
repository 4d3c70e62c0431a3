use Rattle.std.proofs.Common.{arith}
use Rattle.run_figures.specs.private.Growing.{grown_cpu, IsCpuCounted}
use Rattle.run_figures.proofs.RowsBoth.{each_there, one_more_there, all_there}
use Rattle.run_figures.proofs.growing.rows.grow_all_cpus.Goals as goal

pub grow_cpu-requires : goal.grow_cpu-requires
grow_cpu-requires c =
    each_there IsCpuCounted (grown_cpu c.args.periods) c.loop-place.place _ c.index_mut.result.now c.args.before.now c.args.table.now.items c.loop-place.table.items c.loop-place.invariant.rows c.index_mut.ensures.value c.requires.same (omega arith) c.requires.counted

pub loop-place-preserved : goal.loop-place-preserved
loop-place-preserved c = record {
  rows = one_more_there (grown_cpu c.args.periods) c.loop-place.place _ c.index_mut.result.now c.grow_cpu.new.cpu c.args.before.now c.args.table.now.items c.loop-place.table.items c.loop-place.invariant.rows c.index_mut.ensures.value c.requires.same (omega arith) c.grow_cpu.ensures;
  same_room = c.loop-place.invariant.same_room;
}

pub returns-clause-grown : goal.returns-clause-grown
returns-clause-grown c =
    all_there (grown_cpu c.args.periods) c.loop-place.place c.args.before.now c.args.table.now.items c.loop-place.table.items c.loop-place.invariant.rows c.requires.same (omega arith)
