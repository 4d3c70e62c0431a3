use Rattle.std.proofs.Common.{◌∙◌, List, Option, length, sym, ap}
use Rattle.edf_pick.specs.declared.candidate.Candidate.{Candidate}
use Rattle.edf_pick.proofs.Stays.{view_length}
use Rattle.edf_pick.proofs.running.RunningSet.cpus.Goals as goal

pub returns : goal.returns
returns c =
    let s = c.self.inside in
    let inv = c.self.invariant in
    sym (view_length s.marks s.cpus s.keys inv.full inv.few) ∙ ap (λ (stays : List (Option Candidate)). length stays) c.self.view_is
