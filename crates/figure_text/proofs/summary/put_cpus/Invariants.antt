use Rattle.std.proofs.Common.{◌*◌, ◌≤◌, map, take}
use Rattle.figure_text.specs.Summary.{summary_view_of}
use Rattle.figure_text.proofs.Lines.{ArePut}
use Rattle.figure_text.proofs.summary.put_cpus.Given as goal

abbrev pub invariant-loop-number : goal.invariant-loop-number
invariant-loop-number l = record {
  put : ArePut l.initial.out l.out l.base (map summary_view_of (take l.number l.domains));
  few : l.base ≤ l.number * 64;
}
