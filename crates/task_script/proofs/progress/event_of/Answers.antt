use Rattle.std.proofs.Common.{◌≡◌, false, true, sym}
use Rattle.task_script.specs.private.Progress.{is_last_round}
use Rattle.task_script.proofs.Rounds.{none_over}
use Rattle.task_script.proofs.Stepping.{event_is}
use Rattle.task_script.proofs.progress.event_of.Goals as goal

pub returns-then-is_over-clause-value : goal.returns-then-is_over-clause-value
returns-then-is_over-clause-value c =
    let s = c.args.script.now in
    let over : is_last_round s.rounds c.args.progress.round ≡ true = cc in
    sym (none_over s c.args.progress over)

pub returns-clause-value : goal.returns-clause-value
returns-clause-value c =
    let s = c.args.script.now in
    let left : is_last_round s.rounds c.args.progress.round ≡ false = cc in
    event_is s c.args.progress c.event_here.result c.phases.ensures.within c.requires.stands left c.event_here.ensures.value
