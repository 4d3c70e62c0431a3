use Rattle.std.proofs.Common.{◌+◌, sym, subst, arith}
use Rattle.run_figures.specs.declared.logged.TaskTally.{TaskTally}
use Rattle.run_figures.specs.private.Logging.{IsLoggedWithin}
use Rattle.run_figures.proofs.Within.{logged_within}
use Rattle.run_figures.proofs.logged.log_entry.Goals as goal

pub returns-clause-within : goal.returns-clause-within
returns-clause-within c n w =
    subst (λ (x : TaskTally). IsLoggedWithin (n + 1) x) (sym c.log_what.ensures) (logged_within n c.args.time c.args.happened.now c.args.logged.now (omega arith) w)
