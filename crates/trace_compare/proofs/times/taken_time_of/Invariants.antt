use Rattle.std.proofs.Common.{◌≡◌, take}
use Rattle.trace_compare.specs.Differences.{taken_time}
use Rattle.trace_compare.proofs.times.taken_time_of.Given as goal

abbrev pub invariant-loop-partner : goal.invariant-loop-partner
invariant-loop-partner l = l.total ≡ taken_time (take l.partner-index l.partners)
