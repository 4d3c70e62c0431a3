use Rattle.std.proofs.Common.{List, Option, true, sym, subst}
use Rattle.edf_pick.specs.declared.candidate.Candidate.{Candidate}
use Rattle.edf_pick.specs.private.Ready.{HasLeftReady}
use Rattle.edf_pick.proofs.Left.{off_left, there_some}
use Rattle.edf_pick.proofs.leaving.take_running.Goals as goal

pub off-requires : goal.off-requires
off-requires c = there_some c.args.c.now _ c.requires.there

pub returns : goal.returns
returns c =
    let stays = c.args.running.now in
    record {
      left = subst (λ (ss : List (Option Candidate)). HasLeftReady c.args.c.now stays c.args.ready_rest.now ss c.args.ready_rest.now true) (sym c.off.ensures)
          (off_left c.args.c.now stays c.args.ready_rest.now c.args.cpu c.requires.numbered c.requires.there);
    }
