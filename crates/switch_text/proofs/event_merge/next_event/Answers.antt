use Rattle.std.proofs.Common.{subst, sym}
use Rattle.switch_text.specs.private.EventMerging.{places_of, IsEventFound}
use Rattle.switch_text.proofs.EventPick.{IsEventFound-first_of}
use Rattle.switch_text.proofs.event_merge.next_event.Goals as goal

pub returns : goal.returns
returns c =
    let runs = c.args.runs.now in
    let logged = c.args.logged.now in
    let places = places_of c.args.merge.now in
    subst (IsEventFound runs logged places) (sym c.first_of.ensures) (IsEventFound-first_of runs logged places c.next_logged.result c.next.result c.requires.few_runs c.requires.few_logged c.next_logged.ensures c.next.ensures)
