use Rattle.std.proofs.Common.{refl}
use Rattle.figure_text.specs.Summary.{cpu_line}
use Rattle.figure_text.proofs.Lines.{more_numbered}
use Rattle.figure_text.proofs.summary.put_cpus_of.Goals as goal

pub loop-place-preserved : goal.loop-place-preserved
loop-place-preserved c =
    more_numbered (cpu_line c.args.domain c.args.of.now.time) c.args.base c.args.of.now.cpus.now c.loop-place.place _ _ c.args.out.now c.loop-place.out c.put_cpu.new.out c.loop-place-test.true refl
    c.loop-place.invariant c.put_cpu.ensures
