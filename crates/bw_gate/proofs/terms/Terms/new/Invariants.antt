use Rattle.std.proofs.Common.{◌≡◌, length, take, map}
use Rattle.bw_gate.proofs.terms.Terms.new.Given as goal

-- so many CPUs and limits are written
abbrev pub invariant-loop-i : goal.invariant-loop-i
invariant-loop-i l = (length l.row ≡ 8) × (length l.limits ≡ 8)
    × (take l.i l.row ≡ map (λ r. r.cpus) (take l.i l.rooms)) × (take l.i l.limits ≡ map (λ r. r.limit) (take l.i l.rooms))
