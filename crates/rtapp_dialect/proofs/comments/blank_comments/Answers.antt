use Rattle.rtapp_dialect.proofs.Scanning.{blank_step, fault_step}
use Rattle.rtapp_dialect.proofs.comments.blank_comments.Goals as goal

pub loop-i-preserved : goal.loop-i-preserved
loop-i-preserved c = record {
  written = blank_step _ _ _ _ _ _ _ _ _ c.loop-i-test.true c.byte_at-next.ensures c.written.ensures c.next_within-within.ensures c.in_ok-push.ensures.items c.loop-i.invariant.written;
  fault = fault_step _ _ _ _ _ _ _ _ c.loop-i-test.true c.byte_at-next.ensures c.comment_at-comment.ensures c.next_within-within.ensures c.loop-i.invariant.fault;
}
