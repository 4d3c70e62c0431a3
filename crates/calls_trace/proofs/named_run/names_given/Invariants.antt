use Rattle.std.proofs.Common.{◌≡◌, drop}
use Rattle.switch_text.specs.Names.{name_of_task}
use Rattle.calls_trace.specs.Replay.{no_names}
use Rattle.calls_trace.specs.private.Recorded.{given_by_all}
use Rattle.calls_trace.proofs.named_run.names_given.Given as goal

-- the entries that are left lead from the names so far to those of all
abbrev pub invariant-loop-entry : goal.invariant-loop-entry
invariant-loop-entry l = given_by_all (drop l.entry-index l.entries) (name_of_task l.names) ≡ given_by_all l.entries no_names
