use Rattle.recorded_workload.proofs.Texts.{read_back}
use Rattle.recorded_workload.proofs.workload.workload_text.Goals as goal

pub returns-clause-back : goal.returns-clause-back
returns-clause-back c = read_back c.write_calls.result c.args.section c.requires c.write_calls.ensures.back
