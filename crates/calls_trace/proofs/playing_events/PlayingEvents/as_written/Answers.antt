use Rattle.std.proofs.Common.{sym, subst}
use Rattle.std.specs.Prelude.{All}
use Rattle.switch_text.specs.Names.{name_of_task, SameNames}
use Rattle.calls_trace.specs.private.PlayingEvents.{calls_to_make, names_to_give}
use Rattle.calls_trace.proofs.Pieces.{same_names}
use Rattle.calls_trace.proofs.playing_events.PlayingEvents.as_written.Goals as goal

pub returns-clause-names : goal.returns-clause-names
returns-clause-names c =
    let p = c.args.self.now in
    subst (All (SameNames (name_of_task p.run.names) (names_to_give p))) (sym c.switches.ensures.switches) (same_names p.run.logged_run.domain (calls_to_make p) (name_of_task p.run.names) c.switches.ensures.domain)
