use Rattle.std.proofs.Common.{ℕ, ◌<◌, get_or}
use Rattle.run_figures.specs.declared.ran.Cpu.{Cpu}
use Rattle.run_figures.specs.private.Growing.{IsCpuBack}
use Rattle.run_figures.proofs.growing.rows.all_cpus_back.Given as goal

abbrev pub invariant-loop-place : goal.invariant-loop-place
invariant-loop-place l = (i : ℕ) (d e : Cpu) → i < l.place → IsCpuBack (get_or l.before i d) (get_or l.now i e)
