use Rattle.std.proofs.Common.{◌≡◌, ◌∙◌, List, Option, [], None, replicate, sym, ap, subst}
use Rattle.edf_pick.specs.declared.candidate.Candidate.{Candidate}
use Rattle.edf_pick.specs.declared.moves.Moved.{Moved}
use Rattle.edf_pick.specs.Places.{Places}
use Rattle.edf_pick.specs.private.Ready.{all_ready, IsReady}
use Rattle.edf_pick.proofs.Left.{opened_is, opened_all}
use Rattle.edf_pick.proofs.schedule.Schedule.open.Goals as goal

pub invariant_of-result : goal.invariant_of-result
invariant_of-result c =
    let idle : List (Option Candidate) = replicate c.args.cpus None in
    subst (λ (stays : List (Option Candidate)). IsReady stays c.in_ok-open.field-0 c.in_ok-open-3.field-0) (sym c.open-2.ensures)
    (subst (λ (xs : List Candidate). IsReady idle xs c.in_ok-open-3.field-0) (sym c.in_ok-open.ensures)
    (subst (λ (ps : Places). IsReady idle [] ps) (sym c.in_ok-open-3.ensures) (opened_is c.args.cpus)))

pub returns : goal.returns
returns c =
    let all : all_ready c.open-2.result c.in_ok-open.field-0 ≡ [] = ap (λ (stays : List (Option Candidate)). all_ready stays c.in_ok-open.field-0) c.open-2.ensures
    ∙ ap (λ (xs : List Candidate). all_ready (replicate c.args.cpus None) xs) c.in_ok-open.ensures ∙ opened_all c.args.cpus in
    ap (λ (xs : List Candidate). record { queue = xs; places = c.in_ok-open-3.field-0; moves = c.in_ok-open-4.field-0 }) all
    ∙ ap (λ (ps : Places). record { queue = []; places = ps; moves = c.in_ok-open-4.field-0 }) c.in_ok-open-3.ensures
    ∙ ap (λ (ms : List Moved). record { queue = []; places = replicate c.args.cpus None; moves = ms }) c.in_ok-open-4.ensures
