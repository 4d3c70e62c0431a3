use Rattle.std.proofs.Common.{length, ◌≡◌, ◌≤◌, All}
use Rattle.switch_text.specs.Runs.{views}
use Rattle.switch_text.specs.private.Merging.{entries_left}
use Rattle.switch_text.specs.private.Ready.{AreEnough, IsSlot, IsTexts}
use Rattle.switch_text.specs.private.Winning.{IsMerge}
use Rattle.switch_text.specs.private.Sliced.{IsSending}
use Rattle.counted_io.specs.Sides.{inner_of}
use Rattle.switch_text.proofs.writing.send_runs.Given as goal

abbrev pub invariant-loop-next : goal.invariant-loop-next
invariant-loop-next g l = record {
  sending : IsSending (g.W.Write.contents (inner_of l.fn.writer)) (g.W.Write.contents (inner_of l.writer)) l.fn.batch (views l.runs) l.merge.places l.sent l.batch;
  heads : IsMerge (views l.runs) l.merge;
  room : length l.batch ≤ 65536;
  many : AreEnough l.slots;
  slots : All (IsSlot g.names) l.slots;
  texts : IsTexts l.texts;
  faults : l.writer.faults ≡ l.fn.writer.faults;
}

abbrev pub ghost-append_line : goal.ghost-append_line
ghost-append_line g a = g.names

abbrev pub decreases-loop-next : goal.decreases-loop-next
decreases-loop-next g l = length (entries_left (views l.runs) l.merge.places)
