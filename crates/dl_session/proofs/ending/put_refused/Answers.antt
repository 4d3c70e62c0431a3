use Rattle.std.proofs.Common.{ap, rules, ℕ}
use Rattle.draft.proofs.CallerLemmas.{as_text, more_lines}
use Rattle.session.specs.declared.refusal.Refusal.{Refusal}
use Rattle.dl_session.specs.Ending.{refused_task_line}
use Rattle.dl_session.proofs.ending.put_refused.Goals as goal

pub loop-number-preserved : goal.loop-number-preserved
loop-number-preserved c =
    let item : ℕ × Refusal = c.loop-number-item.result in
    more_lines refused_task_line c.args.refused.now c.loop-number.number-index item _ _ _ (search rules) c.loop-number.invariant
    (as_text _ _ _ _ (ap refused_task_line c.loop-number-item.is) c.put_refused_task.ensures)
