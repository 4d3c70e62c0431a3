use Rattle.std.proofs.Common.{◌≡◌, ◌∙◌, List, Option, false, sym, subst}
use Rattle.std.specs.Prelude.{All}
use Rattle.edf_pick.specs.declared.candidate.Candidate.{Candidate}
use Rattle.edf_pick.specs.Choice.{is_before}
use Rattle.edf_pick.specs.private.RunningSet.{bare_key}
use Rattle.edf_pick.specs.private.Ready.{all_held}
use Rattle.edf_pick.proofs.Stays.{past_both, held_bound}
use Rattle.std.proofs.Common.{get_or}
use Rattle.edf_pick.proofs.running.RunningSet.may_outlast.Goals as goal

pub returns : goal.returns
returns c = λ e.
    let s = c.self.inside in
    let inv = c.self.invariant in
    let one = c.args.c.now in
    subst (λ (stays : List (Option Candidate)). All (λ a. is_before one a ≡ false) (all_held stays)) c.self.view_is
    (held_bound s.marks s.cpus s.keys one inv.full inv.few inv.within (λ cpu. past_both one s.top (get_or s.keys cpu bare_key) (sym c.is_before.ensures ∙ e) (inv.last cpu)))
