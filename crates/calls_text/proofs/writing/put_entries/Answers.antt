use Rattle.calls_text.proofs.Written.{entry_more}
use Rattle.calls_text.proofs.writing.put_entries.Goals as goal

pub loop-entry-preserved : goal.loop-entry-preserved
loop-entry-preserved c = entry_more c.args.entries.now c.loop-entry.entry-index c.entry-item.result c.args.out.now c.loop-entry.out c.put_entry.new.out c.loop-entry-test.true c.entry-item.is c.loop-entry.invariant c.put_entry.ensures
