use Rattle.std.proofs.Common.{length, ◌≡◌, ◌≤◌, All}
use Rattle.switch_text.specs.Runs.{views}
use Rattle.switch_text.specs.Events.{all_events}
use Rattle.switch_text.specs.EventLines.{logged_views}
use Rattle.switch_text.specs.private.EventMerging.{places_of, left_events, count_events}
use Rattle.switch_text.specs.private.Ready.{AreEnough, IsSlot, IsTexts}
use Rattle.switch_text.specs.private.Winning.{IsMerge}
use Rattle.switch_text.proofs.EventsUnderWay.{AreUnderWay}
use Rattle.counted_io.specs.Sides.{inner_of}
use Rattle.switch_text.proofs.events.send_events.Given as goal

abbrev pub invariant-loop-next : goal.invariant-loop-next
invariant-loop-next g l = record {
  under_way :
      AreUnderWay (g.W.Write.contents (inner_of l.fn.writer)) (g.W.Write.contents (inner_of l.writer)) l.fn.batch (all_events (views l.runs) (logged_views l.logged))
      (left_events l.runs l.logged (places_of l.merge)) l.sent l.batch;
  heads : IsMerge (views l.runs) l.merge.switches;
  room : length l.batch ≤ 65536;
  many : AreEnough l.slots;
  slots : All (IsSlot g.names) l.slots;
  texts : IsTexts l.texts;
  faults : l.writer.faults ≡ l.fn.writer.faults;
}

abbrev pub ghost-append_event : goal.ghost-append_event
ghost-append_event g a = g.names

abbrev pub decreases-loop-next : goal.decreases-loop-next
decreases-loop-next g l = count_events l.runs l.logged (places_of l.merge)
