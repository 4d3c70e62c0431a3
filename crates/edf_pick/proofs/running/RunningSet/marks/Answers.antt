use Rattle.std.proofs.Common.{List, Option, subst}
use Rattle.edf_pick.specs.declared.candidate.Candidate.{Candidate}
use Rattle.edf_pick.specs.Places.{AreTaken}
use Rattle.edf_pick.specs.private.Ready.{running_places}
use Rattle.edf_pick.proofs.Stays.{marks_taken}
use Rattle.edf_pick.proofs.running.RunningSet.marks.Goals as goal

pub returns : goal.returns
returns c =
    let s = c.self.inside in
    let inv = c.self.invariant in
    subst (λ (stays : List (Option Candidate)). AreTaken (running_places stays) s.marks) c.self.view_is (marks_taken s.marks s.cpus s.keys inv.full inv.few inv.within)
