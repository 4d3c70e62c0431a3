use Rattle.std.proofs.Common.{sym, subst}
use Rattle.std.specs.Prelude.{All}
use Rattle.switch_text.specs.Names.{name_of_task, SameNames}
use Rattle.calls_trace.specs.private.Playing.{calls_left, all_names}
use Rattle.calls_trace.proofs.Pieces.{same_names}
use Rattle.calls_trace.proofs.playing.Playing.as_written.Goals as goal

pub returns-clause-names : goal.returns-clause-names
returns-clause-names c =
    let p = c.args.self.now in
    subst (All (SameNames (name_of_task p.run.names) (all_names p))) (sym c.switches.ensures.switches) (same_names p.run.domain (calls_left p) (name_of_task p.run.names) c.switches.ensures.domain)
