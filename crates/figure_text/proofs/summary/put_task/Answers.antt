use Rattle.std.proofs.Common.{ap}
use Rattle.figure_text.specs.Summary.{name_columns}
use Rattle.draft.proofs.CallerLemmas.{joined, joined4, as_text}
use Rattle.figure_text.proofs.summary.put_task.Goals as goal

pub returns : goal.returns
returns c =
    joined c.args.out.now c.put_task_name.new.out c.put.new.self _ _
    (as_text c.args.out.now c.put_task_name.new.out _ _ (ap (λ name. name_columns c.args.domain name c.args.task.now.number) c.name_of.ensures) c.put_task_name.ensures)
    (joined4 c.put_task_name.new.out c.put_jobs.new.out c.put_counts.new.out c.put_shares.new.out c.put.new.self _ _ _ _ c.put_jobs.ensures c.put_counts.ensures c.put_shares.ensures c.put.ensures)
