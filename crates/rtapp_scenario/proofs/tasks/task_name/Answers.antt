use Rattle.rtapp_scenario.proofs.Named.{long_bytes}
use Rattle.rtapp_scenario.proofs.tasks.task_name.Goals as goal

pub short_name-requires-clause-bytes : goal.short_name-requires-clause-bytes
short_name-requires-clause-bytes c = rw c.in_ok-long_name.ensures (long_bytes c.args.name.now c.args.instances c.args.k c.requires c.ranges.k.fits)
