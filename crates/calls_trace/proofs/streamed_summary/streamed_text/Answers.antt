use Rattle.std.proofs.Common.{map, ap, ◌∙◌}
use Rattle.switch_text.specs.Names.{name_of_task}
use Rattle.calls_trace.proofs.streamed_summary.streamed_text.Goals as goal

pub all_names-requires : goal.all_names-requires
all_names-requires c = c.requires.legal

pub all_streamed-requires-clause-names : goal.all_streamed-requires-clause-names
all_streamed-requires-clause-names c = ap (map name_of_task) c.deref.ensures.value ∙ c.in_ok-names.ensures

pub all_streamed-requires-clause-legal : goal.all_streamed-requires-clause-legal
all_streamed-requires-clause-legal c = c.requires.legal

pub all_streamed-requires-clause-count : goal.all_streamed-requires-clause-count
all_streamed-requires-clause-count c = c.requires.count

pub all_streamed-requires-clause-as_many : goal.all_streamed-requires-clause-as_many
all_streamed-requires-clause-as_many c = c.requires.as_many

pub all_streamed-requires-clause-runs : goal.all_streamed-requires-clause-runs
all_streamed-requires-clause-runs c = c.requires.runs

pub all_streamed-requires-clause-streamed : goal.all_streamed-requires-clause-streamed
all_streamed-requires-clause-streamed c = c.requires.streamed
