use Rattle.trace_compare.specs.Runs.{long_runs, joined_on}
use Rattle.std.proofs.Common.{◌∷◌, ◌≡◌, ◌++◌, subst, sym}
use Rattle.trace_compare.specs.declared.run.Run.{Run}
use Rattle.trace_compare.proofs.Joining.{told_near, told_far}
use Rattle.trace_compare.proofs.runs.take_run.Goals as goal

pub returns-then-run-current-clause-told : goal.returns-then-run-current-clause-told
returns-then-run-current-clause-told c = λ rest.
    subst (λ (next : Run). c.args.runs.now.items ++ long_runs c.args.noise (joined_on c.args.noise next rest) ≡ c.args.runs.now.items ++ long_runs c.args.noise (joined_on c.args.noise c.args.current (c.args.run.now ∷ rest))) (sym c.join_two.ensures)
    (told_near c.args.noise c.args.runs.now.items c.args.current c.args.run.now rest c.if-run-current.true)

pub returns-clause-told : goal.returns-clause-told
returns-clause-told c = λ rest.
    told_far c.args.noise c.args.runs.now.items c.push_kept.new.runs.items c.args.current c.args.run.now rest c.if-run-current.false c.in_ok-push_kept.ensures.kept
